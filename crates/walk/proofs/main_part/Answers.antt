-- The proof of `main_part`.
use Rattle.std.proofs.lemmas.Result.{err_from_is_err_and}
use Rattle.walk.proofs.Whole.{open_stop, open_halt, open_held, open_on}
use Rattle.walk.proofs.main_part.Goals as goal

pub returns-in_err-tick : goal.returns-in_err-tick
returns-in_err-tick c =
    let p = err_from_is_err_and c.from_residual.result c.from_residual.ensures.1 in
    λ t a lv lo w h. rw (p.1, p.2) (open_stop _ c.requires.at_start c.tick.ensures c.in_err-tick.was _ t h)

pub returns-in_err-tick-2 : goal.returns-in_err-tick-2
returns-in_err-tick-2 c =
    let p = err_from_is_err_and c.from_residual-in_err-tick-2.result c.from_residual-in_err-tick-2.ensures.1 in
    λ t a lv lo w h. rw (p.1, p.2) (open_halt _ c.requires.at_start c.tick.ensures c.in_ok-tick.was c.tick-2.ensures c.in_err-tick-2.was _ t h)

pub part-requires : goal.part-requires
part-requires c = record {
  rows = c.requires.rows;
  has_stmt = c.requires.has_stmt;
  has_state = open_held _ c.requires.at_start c.tick.ensures c.in_ok-tick.was c.tick-2.ensures c.in_ok-tick-2.was c.requires.has_state;
}

pub returns : goal.returns
returns c = λ t a lv lo w h. open_on _ c.requires.at_start c.tick.ensures c.in_ok-tick.was c.tick-2.ensures c.in_ok-tick-2.was _ t h (λ v held. c.part.ensures t a lv lo v held)

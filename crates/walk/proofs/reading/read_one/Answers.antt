-- The proof of `read_one`.
use borrow.Author.Rules.{rules}
use mir.Syntax.{w64}
use mir.ValLaws.{to_z-of_z}
use Rattle.std.proofs.lemmas.Result.{err_from_is_err_and}
use Rattle.walk.specs.Walk.{store}
use Rattle.walk.specs.Meets.{rows_of}
use Rattle.walk.proofs.Ends.{read_stop, read_then}
use Rattle.walk.proofs.reading.read_one.Goals as goal

pub store-requires-clause-le_top : goal.store-requires-clause-le_top
store-requires-clause-le_top c = c.read_line.ensures.top _ c.in_ok-z.was

pub returns-in_err-z : goal.returns-in_err-z
returns-in_err-z c =
    let p = err_from_is_err_and c.from_residual.result c.from_residual.ensures.1 in
    λ n a lv lo w h. rw (p.1, p.2) (read_stop (c.read_line.ensures.reads _ lv lo _ w h) c.in_err-z.was (λ z. store (rows_of c.args.env.now) n z))

pub returns : goal.returns
returns c = λ n a lv lo w h. read_then (c.read_line.ensures.reads _ lv lo _ w h) c.in_ok-z.was (λ z. store (rows_of c.args.env.now) n z) (λ v held. rw (to_z-of_z w64 c.in_ok-z.z (search rules)) at (c.store.ensures n a _ lv lo _ v held))

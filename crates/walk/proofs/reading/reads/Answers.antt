-- The proof of `reads`.
use native.Mathlib.Omega.{arith}
use mathlib.Core.Path.{refl, ◌∙◌}
use Rattle.std.proofs.lemmas.Result.{err_from_is_err_and}
use Rattle.tree.specs.Parts.{stmt_fits}
use Rattle.walk.proofs.Members.{along_held, along_next, along_halt, along_more, along_done}
use Rattle.walk.proofs.Listed.{held_room, ReadsF, reads_start, reads_end, the_read, reads_whole}
use Rattle.walk.proofs.reading.reads.Goals as goal

pub number_at-count-requires : goal.number_at-count-requires
number_at-count-requires c = omega (arith, stmt_fits c.requires.has_stmt.at, c.well_formed)

pub loop-init : goal.loop-init
loop-init c = (refl, refl, reads_start _ _ _ c.args.env.now _ _ _ _ _ c.args.progress.now c.number_at-count.ensures)

pub read_one-requires : goal.read_one-requires
read_one-requires c =
    let w = the_read c.requires.has_kind c.requires.has_stmt in
    let l = c.loop.invariant.2 w.0 w.1 in
    let n = along_next (ReadsF _ _) _ _ _ _ _ _ _ _ _ _ _ _ _ _ l c.loop-test.true in
    let h = along_held (ReadsF _ _) _ _ _ _ _ _ _ _ _ _ _ _ _ _ l c.requires.has_state in
    record {
      rows = c.requires.rows;
      has_name = record { name = n.0; at = record { stands = n.1.0; named = n.1.1.0 } };
      vars_in_bounds = held_room h;
      left_bound = h.holds.few;
    }

pub returns-in_err-read_one : goal.returns-in_err-read_one
returns-in_err-read_one c =
    let p = err_from_is_err_and c.from_residual.result c.from_residual.ensures.1 in
    rw (p.1, p.2) (reads_whole _ _ _ _ c.args.env.now _ _ _ c.args.progress.now c.requires.has_kind
    (λ ns a. along_halt (ReadsF _ _) _ _ _ _ _ _ _ _ _ _ _ _ _ _ (c.loop.invariant.2 ns a) c.loop-test.true _ _ (λ m st nm. c.read_one.ensures m (record { stands = st; named = nm })) c.in_err-read_one.was))

pub after-j-requires : goal.after-j-requires
after-j-requires c =
    let w = the_read c.requires.has_kind c.requires.has_stmt in
    let l = c.loop.invariant.2 w.0 w.1 in
    let n = along_next (ReadsF _ _) _ _ _ _ _ _ _ _ _ _ _ _ _ _ l c.loop-test.true in
    (_, n.1.0)

pub loop-preserved : goal.loop-preserved
loop-preserved c = (
  c.read_one.auto.vars ∙ c.loop.invariant.0,
  c.read_one.auto.out ∙ c.loop.invariant.1,
  λ ns a. along_more (ReadsF _ _) _ _ _ _ _ _ _ _ _ _ _ _ _ _ (c.loop.invariant.2 ns a) c.loop-test.true _ _ (λ m st nm. c.read_one.ensures m (record { stands = st; named = nm })) c.in_ok-read_one.was c.after-j.ensures,
)

pub returns : goal.returns
returns c = reads_whole _ _ _ _ c.args.env.now _ _ _ c.args.progress.now c.requires.has_kind
    (λ ns a lv lo w h. along_done (ReadsF _ _) _ _ _ _ _ _ _ _ _ _ _ _ _ _ (c.loop.invariant.2 ns a) lv lo w h _ _ _ _ c.loop-test.false _ (λ b v. refl) (λ v held. reads_end _ v held))

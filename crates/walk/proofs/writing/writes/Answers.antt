-- The proof of `writes`.
use native.Mathlib.Omega.{arith}
use mathlib.Core.Path.{refl, ◌∙◌}
use mathlib.Core.List.{[]}
use Rattle.std.proofs.lemmas.Result.{err_from_is_err_and}
use Rattle.tree.specs.Parts.{stmt_fits}
use Rattle.walk.proofs.Members.{along_next, along_halt, along_more, along_done}
use Rattle.walk.proofs.Listed.{WritesF, writes_start, writes_end, the_write, writes_whole}
use Rattle.walk.proofs.writing.writes.Goals as goal

pub number_at-count-requires : goal.number_at-count-requires
number_at-count-requires c = omega (arith, stmt_fits c.requires.has_stmt.at, c.well_formed)

pub loop-init : goal.loop-init
loop-init c = (refl, writes_start _ _ _ c.args.env.now _ _ _ _ c.args.progress.now c.number_at-count.ensures)

pub write_one-requires : goal.write_one-requires
write_one-requires c =
    let w = the_write c.requires.has_kind c.requires.has_stmt in
    let n = along_next (WritesF _ _) _ _ _ _ _ _ _ _ _ _ _ _ _ _ (c.loop.invariant.1 w.0 w.1 []) c.loop-test.true in
    record {
      known = c.requires.known;
      has_exp = record { exp = n.0; at = record { op = 0; stands = n.1.0; named = n.1.1.0 } };
    }

pub returns-in_err-write_one : goal.returns-in_err-write_one
returns-in_err-write_one c =
    let p = err_from_is_err_and c.from_residual.result c.from_residual.ensures.1 in
    rw (p.1, p.2) (writes_whole _ _ _ _ c.args.env.now _ _ c.args.progress.now c.requires.has_kind
    (λ es a input. along_halt (WritesF _ _) _ _ _ _ _ _ _ _ _ _ _ _ _ _ (c.loop.invariant.1 es a input) c.loop-test.true _ _ (λ m st nm. c.write_one.ensures m (record { op = 0; stands = st; named = nm }) input) c.in_err-write_one.was))

pub after-j-requires : goal.after-j-requires
after-j-requires c =
    let w = the_write c.requires.has_kind c.requires.has_stmt in
    let n = along_next (WritesF _ _) _ _ _ _ _ _ _ _ _ _ _ _ _ _ (c.loop.invariant.1 w.0 w.1 []) c.loop-test.true in
    (_, n.1.0)

pub loop-preserved : goal.loop-preserved
loop-preserved c = (
  c.write_one.auto.out ∙ c.loop.invariant.0,
  λ es a input. along_more (WritesF _ _) _ _ _ _ _ _ _ _ _ _ _ _ _ _ (c.loop.invariant.1 es a input) c.loop-test.true _ _ (λ m st nm. c.write_one.ensures m (record { op = 0; stands = st; named = nm }) input) c.in_ok-write_one.was c.after-j.ensures,
)

pub returns : goal.returns
returns c = writes_whole _ _ _ _ c.args.env.now _ _ c.args.progress.now c.requires.has_kind
    (λ es a input lv lo w h. along_done (WritesF _ _) _ _ _ _ _ _ _ _ _ _ _ _ _ _ (c.loop.invariant.1 es a input) lv lo w h _ _ _ _ c.loop-test.false _ (λ b v. refl) (λ v held. writes_end _ c.write_line.ensures v held))

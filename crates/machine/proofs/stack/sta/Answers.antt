-- `sta`: from the cell below the top to the one above it.
use mathlib.Core.Path.{◌∙◌}
use Prim.Native.Nat.{◌-◌}
use native.Mathlib.Omega.{arith}
use lib.IntN.{pos}
use lib.ListN.{get_or}
use mir.Syntax.{w64}
use mir.Val.{SFits}
use mir.ValLaws.{to_z-of_z}
use borrow.Author.Rules.{rules}
use Rattle.std.proofs.lemmas.Result.{err_from_is_err_and}
use Rattle.machine.proofs.StepLaws.{sta_low, sta_high, sta_out, sta_on}
use Rattle.machine.proofs.stack.sta.Goals as goal
use Rattle.machine.proofs.stack.sta.Goals.{then-top-offset-via-then-top-offset, then-top-offset-via-else-top-offset+then-top-offset-ge-CELLS}

pub returns-then-top-offset : goal.returns-then-top-offset
returns-then-top-offset c =
    let a = c.args in
    elim c.then-top-offset.branch [
      | then-top-offset-via-then-top-offset w ↦ λ code room. sta_low code room a.f a.cells.now a.level a.a (rw c.from-offset.ensures at w.if-top-offset.true)
      | then-top-offset-via-else-top-offset+then-top-offset-ge-CELLS w ↦ λ code room. sta_high code room a.f a.cells.now a.level a.a (rw c.from-offset.ensures at w.if-top-offset.false) (rw c.from-offset.ensures at w.if-top-offset-ge-CELLS.true)
    ]

pub returns-in_err-i : goal.returns-in_err-i
returns-in_err-i c =
    let a = c.args in
    let h : SFits w64 (pos a.f.top) = record { sfits = omega (arith, c.requires.top) } in
    let p = err_from_is_err_and c.from_residual.result c.from_residual.ensures.1 in
    let k = rw (to_z-of_z w64 (pos a.f.top) h, to_z-of_z w64 a.a c.ranges.a) at c.in_err-i.ensures in
    λ code room. rw (p.1, p.2 ∙ k.1) (sta_out code room a.f a.cells.now a.level a.a (rw c.from-offset.ensures at c.if-top-offset.false) (rw c.from-offset.ensures at c.if-top-offset-ge-CELLS.false) k.0)

pub returns : goal.returns
returns c =
    let a = c.args in
    let h : SFits w64 (pos a.f.top) = record { sfits = omega (arith, c.requires.top) } in
    let k = rw (to_z-of_z w64 (pos a.f.top) h, to_z-of_z w64 a.a c.ranges.a) at c.in_ok-i.ensures in
    let z = get_or a.cells.now (a.f.top - a.level) (pos 0) in
    let hz : SFits w64 z = search rules in
    λ code room. rw (c.onward.ensures, c.from-offset.ensures, to_z-of_z w64 z hz) (sta_on code room a.f a.cells.now a.level a.a c.requires.top (rw c.from-offset.ensures at c.if-top-offset.false) (rw c.from-offset.ensures at c.if-top-offset-ge-CELLS.false) k.0)

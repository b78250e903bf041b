-- `up`: what is left to climb from the base reached is what was to climb from the first.
use mathlib.Core.Path.{◌≡◌, refl, sym, ◌∙◌}
use Prim.Native.Nat.{◌+◌, ◌-◌}
use native.Mathlib.Omega.{arith}
use lib.IntN.{pos}
use lib.ListN.{get_or}
use mir.Syntax.{w64}
use mir.Val.{SFits, to_z}
use mir.ValLaws.{to_z-of_z}
use borrow.Author.Rules.{rules}
use Rattle.std.proofs.lemmas.Result.{err_from_is_err_and}
use Rattle.numbers.proofs.Bits.{plain}
use Rattle.machine.specs.Machine.{up}
use Rattle.machine.proofs.CellLaws.{up_out, up_on}
use Rattle.machine.proofs.frames.up.Goals as goal

pub returns-in_err-reached : goal.returns-in_err-reached
returns-in_err-reached c =
    let a = c.args in
    let p = err_from_is_err_and c.from_residual.result c.from_residual.ensures.1 in
    let k = c.in_err-reached.ensures in
    let lost = up_out a.cells.now (a.level - c.loop.counter) (to_z w64 c.loop.reached-bits) (omega (arith, c.loop-test.true)) k.0 in
    rw (p.1, p.2 ∙ k.1) (sym (plain (λ z. up a.cells.now a.level z) a.base c.ranges.base (sym lost ∙ c.loop.invariant)), refl)

pub loop-preserved : goal.loop-preserved
loop-preserved c =
    let a = c.args in
    let k = c.in_ok-reached.ensures in
    let z = get_or a.cells.now c.in_ok-reached.field-0 (pos 0) in
    let h : SFits w64 z = search rules in
    let e : a.level - c.loop.counter - 1 ≡ a.level - (c.loop.counter + 1) = omega arith in
    let on = up_on a.cells.now (a.level - c.loop.counter) (to_z w64 c.loop.reached-bits) (omega (arith, c.loop-test.true)) k.0 in
    rw (to_z-of_z w64 z h, ← e) (sym on ∙ c.loop.invariant)

pub returns : goal.returns
unfolding up
returns c =
    let a = c.args in
    let z : a.level - c.loop.counter ≡ 0 = omega (arith, c.loop-test.false) in
    sym (plain (λ z. up a.cells.now a.level z) a.base c.ranges.base (rw z at c.loop.invariant))

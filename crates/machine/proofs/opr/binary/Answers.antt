-- `binary`: the operator's value on the two values on top.
use mathlib.Core.Path.{◌≡◌, sym}
use Prim.Native.Nat.{◌+◌, ◌-◌}
use native.Mathlib.Omega.{arith}
use lib.IntN.{pos}
use lib.ListN.{get_or}
use mir.Syntax.{w64}
use mir.Val.{SFits}
use mir.ValLaws.{to_z-of_z}
use borrow.Author.Rules.{rules}
use Rattle.std.proofs.lemmas.Result.{err_from_is_err_and}
use Rattle.std.specs.Prelude.{Ok, Err}
use Rattle.machine.proofs.StepLaws.{binary_stop, binary_on}
use Rattle.machine.proofs.opr.binary.Goals as goal

pub returns-in_err-cells : goal.returns-in_err-cells
returns-in_err-cells g c =
    let a = c.args in
    let e : a.f.top - 2 + 1 ≡ a.f.top - 1 = omega (arith, c.if-f-lt2.false) in
    let p = err_from_is_err_and c.from_residual.result c.from_residual.ensures.1 in
    let x = get_or a.cells.now (a.f.top - 2) (pos 0) in
    let y = get_or a.cells.now (a.f.top - 2 + 1) (pos 0) in
    let hx : SFits w64 x = search rules in
    let hy : SFits w64 y = search rules in
    let q = rw (to_z-of_z w64 x hx, to_z-of_z w64 y hy, e) at c.in_err-cells.ensures in
    λ code room f h. rw (p.1, p.2) (binary_stop code room a.f a.cells.now f c.if-f-lt2.false (sym (h (Err c.in_err-cells.field-0.0) q)))

pub returns : goal.returns
returns g c =
    let a = c.args in
    let e : a.f.top - 2 + 1 ≡ a.f.top - 1 = omega (arith, c.if-f-lt2.false) in
    let x = get_or a.cells.now (a.f.top - 2) (pos 0) in
    let y = get_or a.cells.now (a.f.top - 2 + 1) (pos 0) in
    let hx : SFits w64 x = search rules in
    let hy : SFits w64 y = search rules in
    let z = c.in_ok-cells.field-0 in
    let hz : SFits w64 z = search rules in
    let q = rw (to_z-of_z w64 x hx, to_z-of_z w64 y hy, e) at c.in_ok-cells.ensures in
    λ code room f h. rw (c.onward.ensures, e, to_z-of_z w64 z hz) (binary_on code room a.f a.cells.now f c.if-f-lt2.false c.requires.0.top (sym (h (Ok z) q)))

-- `unary`: the operator's value on the value on top.
use mathlib.Core.Path.{sym}
use lib.IntN.{pos}
use lib.ListN.{get_or}
use mir.Syntax.{w64}
use mir.Val.{SFits}
use mir.ValLaws.{to_z-of_z}
use borrow.Author.Rules.{rules}
use Rattle.std.specs.Prelude.{Ok}
use Rattle.machine.proofs.StepLaws.{unary_on}
use Rattle.machine.proofs.opr.unary.Goals as goal

pub returns : goal.returns
returns g c =
    let a = c.args in
    let k = c.in_ok-i.ensures in
    let x = get_or a.cells.now c.in_ok-i.i (pos 0) in
    let hx : SFits w64 x = search rules in
    let z = c.in_ok-cells.field-0 in
    let hz : SFits w64 z = search rules in
    let q = rw (to_z-of_z w64 x hx, k.1) at c.in_ok-cells.ensures in
    λ code room f h. rw (c.onward.ensures, to_z-of_z w64 z hz, k.1) (unary_on code room a.f a.cells.now f c.requires.0.top k.0 (sym (h (Ok z) q)))

-- `lod`: the cell's value is pushed.
use mathlib.Core.Path.{◌∙◌}
use lib.IntN.{pos}
use lib.ListN.{get_or}
use mir.Syntax.{w64}
use mir.Val.{SFits}
use mir.ValLaws.{to_z-of_z}
use borrow.Author.Rules.{rules}
use Rattle.std.proofs.lemmas.Result.{err_from_is_err_and}
use Rattle.machine.proofs.StepLaws.{lod_out, lod_on}
use Rattle.machine.proofs.stack.lod.Goals as goal

pub returns-in_err-i : goal.returns-in_err-i
returns-in_err-i c =
    let a = c.args in
    let h : SFits w64 a.f.base = search rules in
    let p = err_from_is_err_and c.from_residual.result c.from_residual.ensures.1 in
    let k = rw (to_z-of_z w64 a.a c.ranges.a, to_z-of_z w64 a.f.base h) at (c.in_err-i.ensures) in
    λ code room. rw (p.1, p.2 ∙ k.1) (lod_out code room a.f a.cells.now a.level a.a k.0)

pub returns : goal.returns
returns c =
    let a = c.args in
    let h : SFits w64 a.f.base = search rules in
    let z = get_or a.cells.now c.in_ok-i.i (pos 0) in
    let hz : SFits w64 z = search rules in
    let k = rw (to_z-of_z w64 a.a c.ranges.a, to_z-of_z w64 a.f.base h) at (c.in_ok-i.ensures) in
    λ code room. lod_on code room a.f a.cells.now a.level a.a k.0 (rw (to_z-of_z w64 z hz) at (c.push.ensures code room))

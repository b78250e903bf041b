-- `there`: from the base that many levels up.
use mathlib.Core.Path.{refl, ◌∙◌}
use mir.Syntax.{w64}
use mir.Val.{SFits}
use mir.ValLaws.{to_z-of_z}
use borrow.Author.Rules.{rules}
use Rattle.std.proofs.lemmas.Result.{err_from_is_err_and}
use Rattle.machine.proofs.CellLaws.{there_none, there_some}
use Rattle.machine.proofs.frames.there.Goals as goal

pub returns-in_err-up : goal.returns-in_err-up
returns-in_err-up c =
    let a = c.args in
    let p = err_from_is_err_and c.from_residual.result c.from_residual.ensures.1 in
    let k = rw (to_z-of_z w64 a.base c.ranges.base) at (c.in_err-up.ensures) in
    rw (p.1, p.2 ∙ k.1) (there_none a.cells.now a.level a.a a.base k.0, refl)

pub returns : goal.returns
returns c =
    let a = c.args in
    let b = c.in_ok-up.field-0 in
    let h : SFits w64 b = search rules in
    let k = rw (to_z-of_z w64 a.base c.ranges.base) at (c.in_ok-up.ensures) in
    rw (there_some a.cells.now a.level a.a a.base k) (rw (to_z-of_z w64 b h, to_z-of_z w64 a.a c.ranges.a) at c.from.ensures)

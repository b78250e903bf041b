-- `write`: the value on top is handed on.
use mathlib.Core.Path.{◌∙◌}
use lib.IntN.{pos}
use lib.ListN.{get_or}
use mir.Syntax.{w64}
use mir.Val.{SFits}
use mir.ValLaws.{to_z-of_z}
use borrow.Author.Rules.{rules}
use Rattle.std.proofs.lemmas.Result.{err_from_is_err_and}
use Rattle.machine.proofs.StepLaws.{write_none, write_on}
use Rattle.machine.proofs.opr.write.Goals as goal

pub returns-in_err-i : goal.returns-in_err-i
returns-in_err-i c =
    let a = c.args in
    let p = err_from_is_err_and c.from_residual.result c.from_residual.ensures.1 in
    let k = c.in_err-i.ensures in
    λ code room. rw (p.1, p.2 ∙ k.1) (write_none code room a.f a.cells.now k.0)

pub returns : goal.returns
returns c =
    let a = c.args in
    let k = c.in_ok-i.ensures in
    let z = get_or a.cells.now c.in_ok-i.i (pos 0) in
    let h : SFits w64 z = search rules in
    λ code room. rw (to_z-of_z w64 z h, k.1) (write_on code room a.f a.cells.now c.requires.pc k.0)

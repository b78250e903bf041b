-- `push`: the value is stored where there is a cell.
use mathlib.Core.Path.{◌∙◌}
use mir.Syntax.{w64}
use mir.ValLaws.{to_z-of_z}
use Rattle.std.proofs.lemmas.Result.{err_from_is_err_and}
use Rattle.machine.proofs.StepLaws.{push_out, push_on}
use Rattle.machine.proofs.stack.push.Goals as goal

pub returns-in_err-i : goal.returns-in_err-i
returns-in_err-i c =
    let a = c.args in
    let p = err_from_is_err_and c.from_residual.result c.from_residual.ensures.1 in
    let k = c.in_err-i.ensures in
    λ code room. rw (p.1, p.2 ∙ k.1) (push_out code room a.f a.cells.now a.z k.0)

pub returns : goal.returns
returns c =
    let a = c.args in
    let k = c.in_ok-i.ensures in
    λ code room. rw (c.onward.ensures, to_z-of_z w64 a.z c.ranges.z, k.1) (push_on code room a.f a.cells.now a.z k.0)

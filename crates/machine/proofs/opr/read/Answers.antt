-- `read`: the cell of a push is handed on.
use mathlib.Core.Path.{◌∙◌}
use Rattle.std.proofs.lemmas.Result.{err_from_is_err_and}
use Rattle.machine.proofs.StepLaws.{read_out, read_on}
use Rattle.machine.proofs.opr.read.Goals as goal

pub returns-in_err-i : goal.returns-in_err-i
returns-in_err-i c =
    let p = err_from_is_err_and c.from_residual.result c.from_residual.ensures.1 in
    let k = c.in_err-i.ensures in
    λ code room cells. rw (p.1, p.2 ∙ k.1) (read_out code room c.args.f cells k.0)

pub returns : goal.returns
returns c =
    let k = c.in_ok-i.ensures in
    λ code room cells. rw k.1 (read_on code room c.args.f cells c.requires.pc k.0)

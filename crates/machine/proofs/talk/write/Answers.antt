-- `write`: the number and two spaces, where they fit.
use mathlib.Core.Path.{◌∙◌}
use mir.Syntax.{w64}
use mir.ValLaws.{to_z-of_z}
use Rattle.std.proofs.lemmas.Result.{err_from_is_err_and}
use Rattle.machine.proofs.TalkLaws.{write_on, write_full}
use Rattle.machine.proofs.talk.write.Goals as goal

pub returns-in_err-end : goal.returns-in_err-end
returns-in_err-end c =
    let a = c.args in
    let p = err_from_is_err_and c.from_residual.result c.from_residual.ensures.1 in
    let k = rw (to_z-of_z w64 a.z c.ranges.z) at c.in_err-end.ensures in
    λ input cells. rw (p.1, p.2 ∙ k.0) (write_full input a.f a.t cells a.out.now c.requires.0.top c.requires.1 a.z k.1)

pub returns : goal.returns
returns c =
    let a = c.args in
    let k = rw (to_z-of_z w64 a.z c.ranges.z) at c.in_ok-end.ensures in
    λ input cells. rw (c.onward.ensures, c.wrote.ensures) (write_on input a.f a.t cells a.out.now c.requires.0.top c.requires.1 a.z k)

-- `newline`: one byte, where it fits.
use mathlib.Core.Path.{◌∙◌}
use Rattle.std.proofs.lemmas.Result.{err_from_is_err_and}
use Rattle.machine.proofs.TalkLaws.{line_on, line_full}
use Rattle.machine.proofs.talk.newline.Goals as goal

pub returns-in_err-end : goal.returns-in_err-end
returns-in_err-end c =
    let a = c.args in
    let p = err_from_is_err_and c.from_residual.result c.from_residual.ensures.1 in
    let k = c.in_err-end.ensures in
    λ input cells. rw (p.1, p.2 ∙ k.0) (line_full input a.f a.t cells a.out.now c.requires.0.top c.requires.1 k.1)

pub returns : goal.returns
returns c =
    let a = c.args in
    λ input cells. rw (c.onward.ensures, c.wrote.ensures) (line_on input a.f a.t cells a.out.now c.requires.0.top c.requires.1 c.in_ok-end.ensures)

-- `read`: a bad entry, no room for the prompt, or the line's number in its cell.
use mathlib.Core.Path.{◌∙◌}
use mir.Syntax.{w64}
use mir.Val.{SFits}
use mir.ValLaws.{to_z-of_z}
use borrow.Author.Rules.{rules}
use Rattle.std.proofs.lemmas.Result.{err_from_is_err_and}
use Rattle.machine.proofs.TalkLaws.{read_bad, read_full, read_on}
use Rattle.machine.proofs.talk.read.Goals as goal

pub returns-in_err-z : goal.returns-in_err-z
returns-in_err-z c =
    let a = c.args in
    let p = err_from_is_err_and c.from_residual.result c.from_residual.ensures.1 in
    let k = c.in_err-z.ensures in
    rw (p.1, p.2 ∙ k.0) (read_bad a.input.now a.f a.t a.cells.now a.out.now c.requires.0.top c.requires.1 a.i k.1)

pub returns-in_err-end : goal.returns-in_err-end
returns-in_err-end c =
    let a = c.args in
    let p = err_from_is_err_and c.from_residual-in_err-end.result c.from_residual-in_err-end.ensures.1 in
    let took = rw c.in_ok-z.was at c.next_entry.ensures in
    let k = c.in_err-end.ensures in
    rw (p.1, p.2 ∙ k.0) (read_full a.input.now a.f a.t a.cells.now a.out.now c.requires.0.top c.requires.1 a.i took.value k.1)

pub returns : goal.returns
returns c =
    let a = c.args in
    let took = rw c.in_ok-z.was at c.next_entry.ensures in
    let z = c.in_ok-z.z in
    let h : SFits w64 z = search rules in
    rw (c.onward.ensures, c.took.ensures, to_z-of_z w64 z h) (read_on a.input.now a.f a.t a.cells.now a.out.now c.requires.0.top c.requires.1 a.i c.requires.3 took c.in_ok-end.ensures)

-- The proof of `read_line`.
use borrow.Author.Rules.{rules}
use mir.Syntax.{w64}
use mir.ValLaws.{to_z-of_z}
use Rattle.std.proofs.lemmas.Result.{err_from_is_err_and}
use Rattle.walk.proofs.Lines.{enter_spent, enter_full, enter_bad, enter_unfit, enter_on}
use Rattle.walk.proofs.reading.read_line.Goals as goal

pub returns-then-progress-eq0 : goal.returns-then-progress-eq0
returns-then-progress-eq0 c = enter_spent _ _ c.args.progress.now c.if-progress-eq0.true

pub returns-then-progress-ge-CELLS : goal.returns-then-progress-ge-CELLS
returns-then-progress-ge-CELLS c = enter_full _ _ c.args.progress.now c.if-progress-eq0.false c.if-progress-ge-CELLS.true

pub returns-in_err-z : goal.returns-in_err-z
returns-in_err-z c =
    let p = err_from_is_err_and c.from_residual.result c.from_residual.ensures.1 in
    rw (p.1, p.2) (enter_bad _ _ c.args.progress.now c.if-progress-eq0.false c.if-progress-ge-CELLS.false c.in_err-z.was c.next_entry.ensures)

pub returns-in_err-progress : goal.returns-in_err-progress
returns-in_err-progress c =
    let p = err_from_is_err_and c.from_residual-in_err-progress.result c.from_residual-in_err-progress.ensures.1 in
    rw (p.1, p.2) (enter_unfit _ _ c.args.progress.now c.if-progress-eq0.false c.if-progress-ge-CELLS.false _ _ c.in_ok-z.was c.next_entry.ensures _ c.in_err-progress.was c.put_prompt.ensures)

pub returns : goal.returns
returns c = enter_on _ _ c.args.progress.now c.if-progress-eq0.false c.if-progress-ge-CELLS.false _ _ c.in_ok-z.was c.next_entry.ensures _ _ _ c.in_ok-progress.was c.put_prompt.ensures (to_z-of_z w64 c.in_ok-z.z (search rules))

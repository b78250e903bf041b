-- The proof of `write_one`.
use borrow.Author.Rules.{rules}
use mir.Syntax.{w64}
use mir.ValLaws.{to_z-of_z}
use Rattle.std.proofs.lemmas.Result.{err_from_is_err_and}
use Rattle.walk.specs.Holds.{with_clock}
use Rattle.walk.proofs.Outputs.{write_spent, write_stop, write_on}
use Rattle.walk.proofs.writing.write_one.Goals as goal

pub returns-in_err-z : goal.returns-in_err-z
returns-in_err-z c =
    let p = err_from_is_err_and c.from_residual.result c.from_residual.ensures.1 in
    rw (p.1, p.2) (write_stop _ _ _ _ c.args.env.now _ _ c.args.progress.now c.exp.ensures c.in_err-z.was)

pub returns-then-progress-eq0 : goal.returns-then-progress-eq0
returns-then-progress-eq0 c = write_on _ _ _ _ c.args.env.now _ _ c.args.progress.now c.exp.ensures c.in_ok-z.was (to_z-of_z w64 c.in_ok-z.z (search rules)) (write_spent _ _ (with_clock c.args.progress.now c.exp.new.clock) c.if-progress-eq0.true)

pub returns : goal.returns
returns c = write_on _ _ _ _ c.args.env.now _ _ c.args.progress.now c.exp.ensures c.in_ok-z.was (to_z-of_z w64 c.in_ok-z.z (search rules)) (c.wrote.ensures _ _ _ c.put_number.ensures)

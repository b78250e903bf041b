-- The proof of `settle`.
use Rattle.std.proofs.Common.{rules}
use mathlib.Core.Path.{ap}
use mir.Syntax.{w64}
use mir.ValLaws.{to_z-of_z}
use Rattle.std.proofs.lemmas.Result.{err_from_is_err_and}
use Rattle.numbers.specs.Answers.{val_of}
use Rattle.walk.proofs.Steps.{settle_spent, settle_on, settle_not}
use Rattle.walk.proofs.expressions.settle.Goals as goal

pub returns-then-clock-eq0 : goal.returns-then-clock-eq0
returns-then-clock-eq0 c = λ w t. settle_spent _ c.args.clock.now w t (val_of c.args.answer) c.if-clock-eq0.true

pub returns-in_err-z : goal.returns-in_err-z
returns-in_err-z c = λ w t.
    let p = err_from_is_err_and c.from_residual.result c.from_residual.ensures.1 in
    rw (p.1, p.2) (settle_not _ c.args.clock.now w t (val_of c.args.answer) _ (ap val_of c.in_err-z.was) c.if-clock-eq0.false)

pub returns : goal.returns
returns c = λ w t. settle_on _ c.args.clock.now w t (val_of c.args.answer) _ _ (ap val_of c.in_ok-z.was) (to_z-of_z w64 c.in_ok-z.z (search rules)) c.if-clock-eq0.false

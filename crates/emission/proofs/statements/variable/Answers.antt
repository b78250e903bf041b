-- The proof of `variable`.
use Rattle.emission.specs.Passed.{passed}
use Rattle.emission.proofs.Sought.{none_stored, wrong_stored, is_stored}
use Rattle.emission.proofs.statements.variable.Goals as goal

pub returns-in_err-y : goal.returns-in_err-y
returns-in_err-y c = λ t a. rw (passed c.from_residual.ensures.1) (none_stored (c.in_err-y.ensures t a))

pub returns-in-Variable : goal.returns-in-Variable
returns-in-Variable c = λ t a. is_stored c.in-Variable.is (c.in_ok-y.ensures t a)

pub returns-in_default : goal.returns-in_default
returns-in_default c = λ t a. wrong_stored c.in_default.not-Variable (c.in_ok-y.ensures t a)

-- `expressions::sum_op` meets its contract.
use mathlib.Core.Path.{refl}
use mathlib.Core.Logic.{inl, inr}
use Rattle.parser.specs.See.{Joins}
use Rattle.parser.proofs.expressions.sum_op.Goals as goal

pub returns-in-Add : goal.returns-in-Add
unfolding Joins
returns-in-Add c = inl (c.in-Add.is, refl)

pub returns-in-Sub : goal.returns-in-Sub
unfolding Joins
returns-in-Sub c = inr ((λ z. cc), (c.in-Sub.is, refl))

pub returns-in_default : goal.returns-in_default
unfolding Joins
returns-in_default c = (c.in_default.not-Add, c.in_default.not-Sub)

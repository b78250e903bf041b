-- `expressions::product_op` meets its contract.
use mathlib.Core.Path.{refl}
use mathlib.Core.Logic.{inl, inr}
use Rattle.parser.specs.See.{Joins}
use Rattle.parser.proofs.expressions.product_op.Goals as goal

pub returns-in-Mul : goal.returns-in-Mul
unfolding Joins
returns-in-Mul c = inl (c.in-Mul.is, refl)

pub returns-in-Div : goal.returns-in-Div
unfolding Joins
returns-in-Div c = inr ((λ z. cc), (c.in-Div.is, refl))

pub returns-in_default : goal.returns-in_default
unfolding Joins
returns-in_default c = (c.in_default.not-Mul, c.in_default.not-Div)

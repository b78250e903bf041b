-- `arithmetic::Compare::holds` meets its contract: equal bits are equal numbers.
use mathlib.Core.Path.{ap}
use mathlib.Core.Bool.{not}
use mir.Syntax.{w64}
use mir.ValLaws.{to_z-of_z}
use Rattle.numbers.specs.Arithmetic.{compare}
use Rattle.numbers.proofs.Bits.{same_bits}
use Rattle.numbers.proofs.arithmetic.Compare.holds.Goals as goal

pub returns-in-Equal : goal.returns-in-Equal
unfolding compare
returns-in-Equal c = rw c.in-Equal.is (same_bits c.args.a c.args.b c.ranges.a c.ranges.b)

pub returns-in-Unequal : goal.returns-in-Unequal
unfolding compare
returns-in-Unequal c = rw c.in-Unequal.is (ap not (same_bits c.args.a c.args.b c.ranges.a c.ranges.b))

pub returns-in-Less : goal.returns-in-Less
unfolding compare
returns-in-Less c = rw (c.in-Less.is, to_z-of_z w64 c.args.a c.ranges.a, to_z-of_z w64 c.args.b c.ranges.b)

pub returns-in-AtLeast : goal.returns-in-AtLeast
unfolding compare
returns-in-AtLeast c = rw (c.in-AtLeast.is, to_z-of_z w64 c.args.a c.ranges.a, to_z-of_z w64 c.args.b c.ranges.b)

pub returns-in-Greater : goal.returns-in-Greater
unfolding compare
returns-in-Greater c = rw (c.in-Greater.is, to_z-of_z w64 c.args.a c.ranges.a, to_z-of_z w64 c.args.b c.ranges.b)

pub returns-in-AtMost : goal.returns-in-AtMost
unfolding compare
returns-in-AtMost c = rw (c.in-AtMost.is, to_z-of_z w64 c.args.a c.ranges.a, to_z-of_z w64 c.args.b c.ranges.b)

-- `arithmetic::mul` meets its contract.
use mathlib.Core.Path.{ap, ◌∙◌}
use lib.IntN.{◌*ℤ◌}
use mir.Syntax.{w64}
use mir.ValLaws.{to_z-of_z}
use Rattle.numbers.specs.Arithmetic.{arith}
use Rattle.numbers.specs.Answers.{val_of}
use Rattle.numbers.proofs.Bits.{checked_so}
use Rattle.numbers.proofs.arithmetic.mul.Goals as goal

pub returns : goal.returns
unfolding arith
returns c =
    ap val_of c.ok_or.ensures.value
    ∙ checked_so (c.args.a *ℤ c.args.b) c.checked_mul.result (rw (to_z-of_z w64 c.args.a c.ranges.a, to_z-of_z w64 c.args.b c.ranges.b) at c.checked_mul.ensures)

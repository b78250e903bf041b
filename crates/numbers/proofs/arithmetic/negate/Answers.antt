-- `arithmetic::negate` meets its contract.
use mathlib.Core.Path.{ap, ◌∙◌}
use lib.IntN.{neg_ℤ}
use mir.Syntax.{w64}
use mir.ValLaws.{to_z-of_z}
use Rattle.numbers.specs.Answers.{val_of}
use Rattle.numbers.proofs.Bits.{checked_so}
use Rattle.numbers.proofs.arithmetic.negate.Goals as goal

pub returns : goal.returns
returns c =
    ap val_of c.ok_or.ensures.value
    ∙ checked_so (neg_ℤ c.args.a) c.checked_neg.result (rw (to_z-of_z w64 c.args.a c.ranges.a) at c.checked_neg.ensures)

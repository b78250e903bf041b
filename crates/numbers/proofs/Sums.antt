-- A sum of two i64, as `checked_add` tells it.
use lib.IntN.{ℤ, ◌+ℤ◌}
use mir.Syntax.{w64}
use mir.Val.{SFits}
use mir.ValLaws.{to_z-of_z}
use mathlib.Core.Path.{◌≡◌}
use Rattle.std.specs.Prelude.{Option as Maybe}
use Rattle.std.specs.Option.{SomeIff, ok_or}
use Rattle.numbers.specs.declared.refusal.Refusal.TheVariants.{ResultOutside}
use Rattle.numbers.specs.Answers.{val_of}
use Rattle.numbers.specs.Arithmetic.{arith, add}
use Rattle.numbers.proofs.Bits.{back, checked_so}

-- it is there exactly where it is within i64
pub sum_told : (a b : ℤ) (r : Maybe ℤ) → SFits w64 a → SFits w64 b → SomeIff r (SFits w64 (back a +ℤ back b)) (back a +ℤ back b) → val_of (ok_or r ResultOutside) ≡ arith add a b
unfolding arith
sum_told a b r ha hb h = checked_so (a +ℤ b) r (rw (to_z-of_z w64 a ha, to_z-of_z w64 b hb) at h)

-- Laws of i64 arithmetic: when a sum, a product and a quotient are within i64.
use mathlib.Core.Path.{◌≡◌, refl, ap, ◌∙◌}
use mathlib.Core.Bool.{Bool, true, false}
use Prim.Native.Nat.{ℕ, zero, suc, ◌-◌, ◌<◌}
use native.Mathlib.Omega.{arith}
use lib.IntN.{ℤ, pos, negsuc, neg_ℤ, sub_ℕ, ◌-ℤ◌}
use lib.Signed.{mag, quot_z}
use borrow.Author.Tests.{lt-ltb, ltb-true, ne_eqb}
use mir.Syntax.{w64}
use mir.Val.{SFits}
use Rattle.numbers.specs.Limits.{least_magnitude}
use Rattle.numbers.specs.Panel.{result_outside, division_by_zero}
use Rattle.numbers.specs.Arithmetic.{val, fault, fits, checked, eq_z, quotient}

-- what fits is a value, and what does not is 19
pub fits_bits : (z : ℤ) → fits z ≡ true → SFits w64 z
unfolding fits
fits_bits z e = record { sfits = omega (arith, ltb-true (mag z) least_magnitude e) }

pub checked_val : (z : ℤ) → fits z ≡ true → checked z ≡ val z
unfolding checked
checked_val z e = rw (e, checked)

pub checked_fault : (z : ℤ) → fits z ≡ false → checked z ≡ fault result_outside
unfolding checked
checked_fault z e = rw (e, checked)

sub_neg : (a b : ℕ) → a < b → sub_ℕ a b ≡ negsuc (b - suc a)
sub_neg a b h = simp (lt-ltb a b h)

-- impossible
pub clash : {X : Type 0} → ◌≡◌ {A = Bool} true false → X
clash e = let z : ◌≡◌ {A = ℕ} 0 1 = cc in absurd (omega arith)

-- 0 - a is -a
pub zero_minus : (a : ℤ) → pos 0 -ℤ a ≡ neg_ℤ a
zero_minus (pos zero) = refl
zero_minus (pos (suc n)) = sub_neg 0 (suc n) (omega arith) ∙ ap negsuc (omega arith)
zero_minus (negsuc n) = ap pos (omega arith)

-- a quotient is 20 by zero, and else the quotient where it fits
pub by_zero : (a b : ℤ) → b ≡ pos 0 → quotient a b ≡ fault division_by_zero
unfolding quotient eq_z
by_zero a b e = rw e

pub by_other : (a b : ℤ) → (b ≡ pos 0 → ⊥) → quotient a b ≡ checked (quot_z a b)
unfolding quotient eq_z
by_other a (pos n) d = rw (ne_eqb n 0 (λ e. d (ap pos e)), quotient)
by_other a (negsuc n) d = refl

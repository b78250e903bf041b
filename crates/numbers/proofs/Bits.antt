-- What the code reads: a signed number is handed over as its bits, and read back.
use mathlib.Core.Path.{◌≡◌, refl, sym, ap, ◌∙◌}
use mathlib.Core.Bool.{Bool, true, false}
use Prim.Native.Nat.{ℕ}
use native.Mathlib.Omega.{arith}
use lib.IntN.{ℤ, pos, negsuc}
use lib.Signed.{lt_z, mag}
use lib.Dec.{eqb}
use borrow.Author.Tests.{eq-eqb, ne_eqb, eqb-true, eqb-false, lt-ltb}
use mir.Syntax.{w64}
use mir.Val.{SFits, to_z, of_z}
use mir.ValLaws.{to_z-of_z}
use Rattle.std.specs.Prelude.{Option as Maybe, Some, None}
use Rattle.std.specs.Option.{SomeIff, ok_or}
use Rattle.numbers.specs.Limits.{least_magnitude}
use Rattle.numbers.specs.Panel.{result_outside}
use Rattle.numbers.specs.declared.refusal.Refusal.TheVariants.{ResultOutside}
use Rattle.numbers.specs.Answers.{val_of}
use Rattle.numbers.specs.Arithmetic.{val, fault, fits, checked, eq_z}
use Rattle.numbers.proofs.Signs.{fits_bits, checked_val, checked_fault}

-- a number as it is read back
abbrev pub back : ℤ → ℤ
back z = to_z w64 (of_z w64 z)

-- what a callee says of a signed argument, said of the number itself
pub plain : {X : Type 0} {r : X} (f : ℤ → X) (a : ℤ) → SFits w64 a → r ≡ f (back a) → r ≡ f a
plain f a h e = e ∙ ap f (to_z-of_z w64 a h)

-- so of two arguments
pub plain_2 : {X : Type 0} {r : X} (f : ℤ → ℤ → X) (a b : ℤ) → SFits w64 a → SFits w64 b → r ≡ f (back a) (back b) → r ≡ f a b
plain_2 f a b ha hb e = e ∙ (λ i. f (to_z-of_z w64 a ha i) (to_z-of_z w64 b hb i))

-- equal bits are equal numbers
pub same_bits : (a b : ℤ) → SFits w64 a → SFits w64 b → eqb (of_z w64 a) (of_z w64 b) ≡ eq_z a b
unfolding eq_z
same_bits (pos a) (pos b) ha hb = refl
same_bits (pos a) (negsuc b) ha hb = ne_eqb a (of_z w64 (negsuc b)) (λ e. omega (arith, ha.sfits, hb.sfits))
same_bits (negsuc a) (pos b) ha hb = ne_eqb (of_z w64 (negsuc a)) b (λ e. omega (arith, ha.sfits, hb.sfits))
same_bits (negsuc a) (negsuc b) ha hb = by (eqb a b) refl
  where
    by : (t : Bool) → eqb a b ≡ t → eqb (of_z w64 (negsuc a)) (of_z w64 (negsuc b)) ≡ eqb a b
    by true e = let s : a ≡ b = eqb-true a b e in eq-eqb (of_z w64 (negsuc a)) (of_z w64 (negsuc b)) (ap (λ (n : ℕ). of_z w64 (negsuc n)) s) ∙ sym e
    by false e = ne_eqb (of_z w64 (negsuc a)) (of_z w64 (negsuc b)) (λ s. eqb-false a b e (omega (arith, ha.sfits, hb.sfits))) ∙ sym e

-- a number from its bits
pub from_bits : (a b : ℤ) → SFits w64 a → SFits w64 b → of_z w64 a ≡ of_z w64 b → a ≡ b
from_bits a b ha hb e = sym (to_z-of_z w64 a ha) ∙ ap (to_z w64) e ∙ to_z-of_z w64 b hb

-- a sign that was tested
pub sign : {s : Bool} (b : ℤ) → SFits w64 b → lt_z (back b) (pos 0) ≡ s → lt_z b (pos 0) ≡ s
sign b hb e = rw (to_z-of_z w64 b hb) at e

-- a result that is there exactly where it is within i64
pub checked_so : (z : ℤ) (r : Maybe ℤ) → SomeIff r (SFits w64 z) z → val_of (ok_or r ResultOutside) ≡ checked z
unfolding fits
checked_so z (Some x) (h, e) = ap val e ∙ sym (checked_val z (lt-ltb (mag z) least_magnitude (omega (arith, h.sfits))))
checked_so z None d = by (fits z) refl
  where
    by : (t : Bool) → fits z ≡ t → fault result_outside ≡ checked z
    by true e = absurd (d (fits_bits z e))
    by false e = sym (checked_fault z e)

-- Laws of fields: the value of digits, and what a field without bytes, with a sign and without one means.
use mathlib.Core.Path.{◌≡◌, refl}
use mathlib.Core.Bool.{Bool, true, false, ◌&&◌}
use mathlib.Core.List.{List, [], ◌∷◌}
use mathlib.Core.Option.{none, some}
use Prim.Native.Nat.{ℕ, ◌+◌, ◌-◌, ◌*◌, ◌≤◌, ◌<◌}
use native.Mathlib.Omega.{arith}
use native.Mathlib.Numerals.{add-one}
use lib.Dec.{leb}
use lib.ListN.{length, drop, get_or, drop_of_length-le}
use lib.Seq.{drop-cons}
use borrow.Author.Tests.{le-leb, lt-leb, leb-true, eq-eqb, ne_eqb}
use Rattle.numbers.specs.Limits.{greatest, least_magnitude}
use Rattle.numbers.specs.Bytes.{is_digit, every, digits}
use Rattle.numbers.specs.Line.{magnitude, plus, minus, value_of}

module _ (v : ℕ) (s : List ℕ) (i : ℕ) where
  pub digits_end : length s ≤ i → digits v (drop i s) ≡ v
  unfolding digits
  digits_end h = rw (drop_of_length-le s h)

  pub digits_more : i < length s → digits v (drop i s) ≡ digits (v * 10 + (get_or s i 0 - 48)) (drop (i + 1) s)
  unfolding digits
  digits_more h = rw (drop-cons s i 0 h, add-one i)

-- a digit lies from 48 to 57
pub digit_low : (b : ℕ) → is_digit b ≡ true → 48 ≤ b
unfolding is_digit
digit_low b e = by (leb 48 b) refl
  where
    by : (t : Bool) → leb 48 b ≡ t → 48 ≤ b
    by true h = leb-true 48 b h
    by false h = let z : ◌≡◌ {A = ℕ} 0 1 = cc (rw h at e) in absurd (omega arith)

pub digit_high : (b : ℕ) → is_digit b ≡ true → b ≤ 57
unfolding is_digit
digit_high b e = leb-true b 57 (rw (le-leb 48 b (digit_low b e)) at e)

-- a value only grows by more digits
pub digits_ge : (v : ℕ) (s : List ℕ) → v ≤ digits v s
unfolding digits
digits_ge v [] = omega arith
digits_ge v (b ∷ s) = omega (arith, digits_ge (v * 10 + (b - 48)) s)

and_false : (b : Bool) → (b && false) ≡ false
and_false true = refl
and_false false = refl

module _ (most : ℕ) where
  pub magnitude_empty : (s : List ℕ) → length s ≡ 0 → magnitude most s ≡ none
  unfolding magnitude
  magnitude_empty [] e = refl
  magnitude_empty (b ∷ s) e = absurd (omega arith)

  pub magnitude_other : (s : List ℕ) → every is_digit s ≡ false → magnitude most s ≡ none
  unfolding magnitude
  magnitude_other [] e = refl
  magnitude_other (b ∷ s) e = rw (e, magnitude)

  pub magnitude_over : (s : List ℕ) → most < digits 0 s → magnitude most s ≡ none
  unfolding magnitude
  magnitude_over [] h = refl
  magnitude_over (b ∷ s) h = rw (lt-leb (digits 0 (b ∷ s)) most h, and_false (every is_digit (b ∷ s)), magnitude)

  pub magnitude_some : (s : List ℕ) → (length s ≡ 0 → ⊥) → every is_digit s ≡ true → digits 0 s ≤ most → magnitude most s ≡ some (digits 0 s)
  unfolding magnitude
  magnitude_some [] d e h = absurd (d refl)
  magnitude_some (b ∷ s) d e h = rw (e, le-leb (digits 0 (b ∷ s)) most h, magnitude)

  pub magnitude_most : (s : List ℕ) (n : ℕ) → magnitude most s ≡ some n → n ≤ most
  unfolding magnitude
  magnitude_most [] n e = let z : ◌≡◌ {A = ℕ} 0 1 = cc in absurd (omega arith)
  magnitude_most (b ∷ s) n e = by (leb (digits 0 (b ∷ s)) most) refl
    where
      by : (t : Bool) → leb (digits 0 (b ∷ s)) most ≡ t → n ≤ most
      by true h = all (every is_digit (b ∷ s)) refl
        where
          all : (t : Bool) → every is_digit (b ∷ s) ≡ t → n ≤ most
          all true g = let z : digits 0 (b ∷ s) ≡ n = cc (rw (g, h, magnitude) at e) in omega (arith, leb-true (digits 0 (b ∷ s)) most h)
          all false g = let z : ◌≡◌ {A = ℕ} 0 1 = cc (rw (g, magnitude) at e) in absurd (omega arith)
      by false h = let z : ◌≡◌ {A = ℕ} 0 1 = cc (rw (h, and_false (every is_digit (b ∷ s)), magnitude) at e) in absurd (omega arith)

-- the value of a field, by its first byte
pub value_none : (s : List ℕ) → length s ≡ 0 → value_of s ≡ none
unfolding value_of
value_none [] e = refl
value_none (b ∷ s) e = absurd (omega arith)

pub value_minus : (s : List ℕ) → (length s ≡ 0 → ⊥) → get_or s 0 0 ≡ 45 → value_of s ≡ minus (magnitude least_magnitude (drop 1 s))
unfolding value_of
value_minus [] d e = absurd (d refl)
value_minus (b ∷ s) d e = rw (eq-eqb b 45 e, value_of)

pub value_plus : (s : List ℕ) → (length s ≡ 0 → ⊥) → (get_or s 0 0 ≡ 45 → ⊥) → get_or s 0 0 ≡ 43 → value_of s ≡ plus (magnitude greatest (drop 1 s))
unfolding value_of
value_plus [] d m e = absurd (d refl)
value_plus (b ∷ s) d m e = rw (ne_eqb b 45 m, eq-eqb b 43 e, value_of)

pub value_plain : (s : List ℕ) → (length s ≡ 0 → ⊥) → (get_or s 0 0 ≡ 45 → ⊥) → (get_or s 0 0 ≡ 43 → ⊥) → value_of s ≡ plus (magnitude greatest s)
unfolding value_of
value_plain [] d m p = absurd (d refl)
value_plain (b ∷ s) d m p = rw (ne_eqb b 45 m, ne_eqb b 43 p, value_of)

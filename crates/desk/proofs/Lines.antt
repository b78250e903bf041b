-- Laws of lines: where the last line end stands, and how many there are.
use mathlib.Core.Path.{◌≡◌, refl, sym, ap, ◌∙◌}
use mathlib.Core.Bool.{Bool, true, false, cond}
use mathlib.Core.List.{List}
use Prim.Native.Nat.{ℕ, zero, suc, ◌+◌, ◌<◌}
use native.Mathlib.Nat.{not-suc-le-zero}
use native.Mathlib.Numerals.{add-one}
use native.Mathlib.Omega.{arith}
use borrow.Author.Tests.{eq-eqb, ne_eqb, eqb-true, eqb-false}
use lib.Dec.{eqb}
use lib.ListN.{length, get_or}
use Rattle.std.specs.List.{count_by}
use Rattle.std.proofs.lemmas.List.Recursion.{is_sum_by}
use Rattle.desk.specs.Entries.{ends_line, line_ends, whole_below, whole_in}

-- a line ends at i, and none ends behind it
module _ (s : List ℕ) (i : ℕ) (here : get_or s i 0 ≡ 10) where
  below : (n : ℕ) → i < n → ((k : ℕ) → i < k → k < n → get_or s k 0 ≡ 10 → ⊥) → whole_below n s ≡ suc i
  unfolding whole_below
  below zero h later = absurd (not-suc-le-zero h)
  below (suc n) h later = by (eqb n i) refl (λ a. below n a (λ k b c. later k b (omega (arith, c))))
    where
      by : (t : Bool) → eqb n i ≡ t → (i < n → whole_below n s ≡ suc i) → whole_below (suc n) s ≡ suc i
      by true e front = let same : n ≡ i = eqb-true n i e in rw same (rw (eq-eqb (get_or s i 0) 10 here, whole_below))
      by false e front =
          let more : i < n = omega (arith, eqb-false n i e) in
          rw (ne_eqb (get_or s n 0) 10 (later n more (omega arith)), whole_below) (front more)

  pub whole_at : i < length s → ((k : ℕ) → i < k → k < length s → get_or s k 0 ≡ 10 → ⊥) → i + 1 ≡ whole_in s
  unfolding whole_in
  whole_at h later = add-one i ∙ sym (below (length s) h later)

-- no line ends
none_below : (s : List ℕ) (n : ℕ) → ((k : ℕ) → k < n → get_or s k 0 ≡ 10 → ⊥) → whole_below n s ≡ 0
unfolding whole_below
none_below s zero h = refl
none_below s (suc n) h = rw (ne_eqb (get_or s n 0) 10 (h n (omega arith)), whole_below) (none_below s n (λ k b. h k (omega (arith, b))))

pub none_whole : (s : List ℕ) → ((k : ℕ) → k < length s → get_or s k 0 ≡ 10 → ⊥) → 0 ≡ whole_in s
unfolding whole_in
none_whole s none = sym (none_below s (length s) none)

-- the line ends are counted
counts : (b : ℕ) → ends_line b ≡ cond (eqb b 10) 1 0
unfolding ends_line
counts b = by (eqb b 10) refl
  where
    by : (t : Bool) → eqb b 10 ≡ t → ends_line b ≡ cond (eqb b 10) 1 0
    by true e = rw (e, ends_line)
    by false e = rw (e, ends_line)

pub ends_counted : (s : List ℕ) → line_ends s ≡ count_by (λ b. eqb b 10) s
unfolding line_ends
ends_counted = is_sum_by line_ends (λ b. cond (eqb b 10) 1 0) refl (λ b s. ap (λ n. n + line_ends s) (counts b))

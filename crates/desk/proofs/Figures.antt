-- The fewest digits that hold a number, as the kit's `io` defines them, are its decimal.
use mathlib.Core.Path.{◌≡◌, refl, sym, ap, ◌∙◌}
use mathlib.Core.Bool.{Bool, true, false}
use mathlib.Core.List.{List, [], ◌∷◌, ◌++◌, append-nil}
use Prim.Native.Nat.{ℕ, zero, suc, ◌+◌, ◌-◌, ◌*◌, ◌/◌, ◌%◌, ◌^◌, ◌≤◌, ◌<◌}
use native.Mathlib.Nat.{pow-suc, mod-lt, mod-eq_of_lt, le-div_iff_mul-le, div-lt_iff_lt-mul, one-le-pow, pow-le-pow_right, not-suc-le-zero}
use native.Mathlib.Omega.{arith}
use borrow.Author.Tests.{lt-ltb, le-ltb, ltb-true, leb-true, leb-false}
use lib.Dec.{lit<, leb}
use lib.IntN.{ℤ, pos, negsuc, nat_abs}
use lib.Signed.{lt_z}
use lib.ListN.{length, take, drop, replicate}
use lib.Seq.{append_snoc}
use Rattle.io.specs.Digits.{last_digits, hex_digit_ascii, IsDigitCount}
use Rattle.numbers.specs.Screen.{decimal_of, decimal, many_digits}
use Rattle.desk.specs.Page.{count, number, right}

-- a digit's byte
figure : (d : ℕ) → d < 10 → hex_digit_ascii d ≡ 48 + d
figure d h = rw (lt-ltb d 10 h)

-- one digit, and one digit more
spells : (f k n : ℕ) (l : List ℕ) → k < f → n < 10 ^ suc k → (0 < k → 10 ^ k ≤ n) → decimal_of f n l ≡ last_digits 10 (suc k) n ++ l
unfolding decimal_of
spells zero k n l h top low = absurd (not-suc-le-zero h)
spells (suc f) zero n l h top low =
    let small : n < 10 = omega (arith, rw (pow-suc 10 0) at top) in
    rw (lt-ltb n 10 small, decimal_of) (rw (figure (n % 10) (mod-lt n (lit< tt)), mod-eq_of_lt small))
spells (suc f) (suc k) n l h top low =
    let large : 10 ^ k * 10 ≤ n = rw (pow-suc 10 k) at (low (omega arith)) in
    let big : 10 ≤ n = omega (arith, large, one-le-pow k 10 (lit< tt)) in
    rw (le-ltb n 10 big, decimal_of)
    (spells f k (n / 10) ((48 + n % 10) ∷ l) (omega arith)
    ((div-lt_iff_lt-mul (lit< tt)).1 (rw (pow-suc 10 (suc k)) at top))
    (λ _. (le-div_iff_mul-le (lit< tt)).1 large)
    ∙ rw (figure (n % 10) (mod-lt n (lit< tt))) (sym (append_snoc (last_digits 10 (suc k) (n / 10)) (48 + n % 10) l)))

-- a number within u64 has at most 20 digits
few : (n r : ℕ) → n < 2 ^ 64 → IsDigitCount 10 1 n r → r ≤ many_digits
few n r h f = by (leb r 20) refl
  where
    by : (t : Bool) → leb r 20 ≡ t → r ≤ many_digits
    by true e = leb-true r 20 e
    by false e =
        let more : 20 < r = leb-false r 20 e in
        absurd (omega (arith, h, f.2 (omega arith), pow-le-pow_right {n = 10} (lit< tt) {i = 20} {j = r - 1} (omega arith)))

-- what `io::decimal` writes is the number's decimal
pub figures : (n r : ℕ) → n < 2 ^ 64 → IsDigitCount 10 1 n r → last_digits 10 r n ≡ count n
unfolding count
figures n zero h f = absurd (not-suc-le-zero f.0)
figures n (suc k) h f =
    sym (append-nil (last_digits 10 (suc k) n))
    ∙ sym (spells many_digits k n [] (few n (suc k) h f) f.1 (λ p. rw sub_one' at (f.2 (omega arith))))
  where
    sub_one' : suc k - 1 ≡ k
    sub_one' = omega arith

-- four blanks less k
abbrev pub four : List ℕ
four = 32 ∷ 32 ∷ 32 ∷ 32 ∷ []

blanks : (k : ℕ) → k < 4 → take (4 - k) (drop k four) ≡ replicate (4 - k) 32
blanks zero h = refl
blanks (suc zero) h = refl
blanks (suc (suc zero)) h = refl
blanks (suc (suc (suc zero))) h = refl
blanks (suc (suc (suc (suc k)))) h = absurd (omega arith)

-- a count of less than four digits, and a longer one
pub right_short : (n k : ℕ) → k ≡ length (count n) → k < 4 → take (4 - k) (drop k four) ++ count n ≡ right n
unfolding right
right_short n k e h = ap (λ (l : List ℕ). l ++ count n) (blanks k h ∙ ap (λ (j : ℕ). replicate (4 - j) 32) e)

pub right_long : (n : ℕ) → 4 ≤ length (count n) → count n ≡ right n
unfolding right
right_long n h = let none : 4 - length (count n) ≡ 0 = omega arith in sym (ap (λ (j : ℕ). replicate j 32 ++ count n) none)

-- a number by its sign
pub number_negative : (x : ℤ) → lt_z x (pos 0) ≡ true → (45 ∷ []) ++ count (nat_abs x) ≡ number x
unfolding number count decimal
number_negative (pos n) h = absurd (omega (arith, ltb-true n 0 h))
number_negative (negsuc n) h = refl

pub number_positive : (x : ℤ) → lt_z x (pos 0) ≡ false → count (nat_abs x) ≡ number x
unfolding number count decimal
number_positive (pos n) h = refl
number_positive (negsuc n) h = let clash : ◌≡◌ {A = ℕ} 0 1 = cc in absurd (omega (arith, clash))

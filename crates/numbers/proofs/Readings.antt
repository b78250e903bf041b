-- What the decimal writer writes, the line reader reads: the digits of a number mean that number, and no blank is among them.
use mathlib.Core.Path.{◌≡◌, refl, sym, ap, ◌∙◌}
use mathlib.Core.Bool.{Bool, true, false}
use mathlib.Core.List.{List, [], ◌∷◌}
use mathlib.Core.Option.{some}
use Prim.Native.Nat.{ℕ, zero, suc, ◌+◌, ◌/◌, ◌%◌, ◌^◌, ◌≤◌, ◌<◌}
use native.Mathlib.Omega.{arith}
use lib.IntN.{ℤ, pos, negsuc}
use lib.ListN.{length, get_or}
use borrow.Author.Tests.{le-leb, lt-leb, ltb-true, ne_eqb}
use Rattle.numbers.specs.Limits.{greatest, least_magnitude}
use Rattle.numbers.specs.Bytes.{is_blank, is_digit, every, digits}
use Rattle.numbers.specs.Line.{not_blank, magnitude, plus, minus, value_of}
use Rattle.numbers.specs.Screen.{many_digits, decimal_of, decimal}
use Rattle.numbers.specs.Arithmetic.{fits}
use Rattle.numbers.proofs.Signs.{clash}
use Rattle.numbers.proofs.Fields.{digit_low, magnitude_some, value_minus, value_plain}
use Rattle.numbers.proofs.Decimals.{by_ten, only, next}

-- Tests on all bytes.

-- a byte that passes, in front of others that do
pub every_cons : (p : ℕ → Bool) (b : ℕ) (s : List ℕ) → p b ≡ true → every p s ≡ true → every p (b ∷ s) ≡ true
every_cons p b s e h = rw (e, every) h

-- the first of bytes that all pass, and the others
module _ (p : ℕ → Bool) (b : ℕ) (s : List ℕ) (h : every p (b ∷ s) ≡ true) where
  pub every_first : p b ≡ true
  every_first = by (p b) refl
    where
      by : (t : Bool) → p b ≡ t → p b ≡ true
      by true e = e
      by false e = clash (sym (rw (e, every) at h))

  pub every_rest : every p s ≡ true
  every_rest = rw (every_first, every) at h

-- where one test follows from another
pub every_so : (p q : ℕ → Bool) → ((b : ℕ) → p b ≡ true → q b ≡ true) → (s : List ℕ) → every p s ≡ true → every q s ≡ true
every_so p q so [] h = refl
every_so p q so (b ∷ s) h = every_cons q b s (so b (every_first p b s h)) (every_so p q so s (every_rest p b s h))

-- Digits.

-- what is below ten, from byte 48 on, is one
digit_is : (d : ℕ) → d < 10 → is_digit (48 + d) ≡ true
unfolding is_digit
digit_is d h = rw (le-leb 48 (48 + d) (omega arith), le-leb (48 + d) 57 (omega arith))

-- no digit is a blank
digit_solid : (b : ℕ) → is_digit b ≡ true → not_blank b ≡ true
unfolding is_blank
digit_solid b e =
    let low : 48 ≤ b = digit_low b e in
    rw (le-leb 9 b (omega arith), lt-leb b 13 (omega arith), ne_eqb b 32 (λ h. omega arith))

-- all that is written in front of digits is digits
all_digits : (f n : ℕ) (l : List ℕ) → every is_digit l ≡ true → every is_digit (decimal_of f n l) ≡ true
unfolding decimal_of
all_digits zero n l h = h
all_digits (suc f) n l h =
    by_ten n
    (λ small. rw (only f n l small) (every_cons is_digit (48 + n) l (digit_is n small) h))
    (λ large. rw (next f n l large) (all_digits f (n / 10) ((48 + n % 10) ∷ l) (every_cons is_digit (48 + n % 10) l (digit_is (n % 10) (omega arith)) h)))

-- a number without a sign is digits
pub decimal_digits : (n : ℕ) → every is_digit (decimal (pos n)) ≡ true
unfolding decimal
decimal_digits n = all_digits many_digits n [] refl

-- How many there are.

-- what is in front of a list makes it no shorter
no_fewer : (f n : ℕ) (l : List ℕ) → length l ≤ length (decimal_of f n l)
unfolding decimal_of
no_fewer zero n l = omega arith
no_fewer (suc f) n l =
    by_ten n
    (λ small. rw (only f n l small) (omega arith))
    (λ large. rw (next f n l large) (omega (arith, no_fewer f (n / 10) ((48 + n % 10) ∷ l))))

-- at least one
one_written : (f n : ℕ) (l : List ℕ) → length l < length (decimal_of (suc f) n l)
one_written f n l =
    by_ten n
    (λ small. rw (only f n l small) (omega arith))
    (λ large. rw (next f n l large) (omega (arith, no_fewer f (n / 10) ((48 + n % 10) ∷ l))))

-- so no number is without bytes
pub decimal_some : (x : ℤ) → 0 < length (decimal x)
unfolding decimal
decimal_some (pos n) = one_written 19 n []
decimal_some (negsuc n) = omega arith

-- no more than the power of ten says
few : (f k n : ℕ) (l : List ℕ) → n < 10 ^ suc k → length (decimal_of f n l) ≤ suc k + length l
unfolding decimal_of
few zero k n l h = omega arith
few (suc f) zero n l h = rw (only f n l (omega arith)) (omega arith)
few (suc f) (suc k) n l h =
    by_ten n
    (λ small. rw (only f n l small) (omega arith))
    (λ large. rw (next f n l large) (omega (arith, few f k (n / 10) ((48 + n % 10) ∷ l) (omega arith))))

-- of a number written alone
pub decimal_few : (k n : ℕ) → n < 10 ^ suc k → length (decimal (pos n)) ≤ suc k
unfolding decimal
decimal_few k n h = omega (arith, few many_digits k n [] h)

-- What they mean.

-- a value that is n may be read on from n
value_first : (n m : ℕ) (l : List ℕ) → m ≡ n → digits m l ≡ digits n l
value_first n m l e = rw e

-- the digits of n in front of others are read as n
read_on : (f n : ℕ) (l : List ℕ) → n < 10 ^ suc f → digits 0 (decimal_of (suc f) n l) ≡ digits n l
unfolding digits
read_on zero n l h = rw (only 0 n l (omega arith)) (value_first n _ l (omega arith))
read_on (suc f) n l h =
    by_ten n
    (λ small. rw (only (suc f) n l small) (value_first n _ l (omega arith)))
    (λ large. rw (next (suc f) n l large) (read_on f (n / 10) ((48 + n % 10) ∷ l) (omega arith) ∙ value_first n _ l (omega arith)))

-- the digits of n mean n
pub digits_decimal : (n : ℕ) → n < 10 ^ 20 → digits 0 (decimal (pos n)) ≡ n
unfolding decimal digits
digits_decimal n h = read_on 19 n [] h

-- and are a magnitude up to any bound that n keeps
pub magnitude_decimal : (most n : ℕ) → n ≤ most → n < 10 ^ 20 → magnitude most (decimal (pos n)) ≡ some n
magnitude_decimal most n g h =
    let means : digits 0 (decimal (pos n)) ≡ n = digits_decimal n h in
    let there : 0 < length (decimal (pos n)) = decimal_some (pos n) in
    magnitude_some most (decimal (pos n)) (λ e. omega arith) (decimal_digits n) (omega arith) ∙ ap (λ (k : ℕ). some k) means

-- A number with its sign.

-- digits begin with a digit
begins_low : (s : List ℕ) → 0 < length s → every is_digit s ≡ true → 48 ≤ get_or s 0 0
begins_low [] g h = absurd (omega arith)
begins_low (b ∷ s) g h = digit_low b (every_first is_digit b s h)

-- so does a number without a sign
first_digit : (n : ℕ) → 48 ≤ get_or (decimal (pos n)) 0 0
first_digit n = begins_low (decimal (pos n)) (decimal_some (pos n)) (decimal_digits n)

-- a magnitude behind a minus
value_below : (n : ℕ) → n < least_magnitude → value_of (decimal (negsuc n)) ≡ some (negsuc n)
unfolding decimal minus
value_below n h = value_minus (decimal (negsuc n)) (λ e. omega arith) refl ∙ ap minus (magnitude_decimal least_magnitude (suc n) (omega arith) (omega arith))

-- and one without
value_from : (n : ℕ) → n < least_magnitude → value_of (decimal (pos n)) ≡ some (pos n)
unfolding plus
value_from n h =
    let there : 0 < length (decimal (pos n)) = decimal_some (pos n) in
    let first : 48 ≤ get_or (decimal (pos n)) 0 0 = first_digit n in
    value_plain (decimal (pos n)) (λ e. omega arith) (λ e. omega arith) (λ e. omega arith) ∙ ap plus (magnitude_decimal greatest n (omega arith) (omega arith))

-- what is written within i64 is read as it was
pub value_decimal : (x : ℤ) → fits x ≡ true → value_of (decimal x) ≡ some x
unfolding fits
value_decimal (pos n) h = value_from n (ltb-true n least_magnitude h)
value_decimal (negsuc n) h = value_below n (ltb-true n least_magnitude h)

-- no blank is among the bytes of a number
pub decimal_solid : (x : ℤ) → every not_blank (decimal x) ≡ true
unfolding is_blank decimal
decimal_solid (pos n) = every_so is_digit not_blank digit_solid (decimal (pos n)) (decimal_digits n)
decimal_solid (negsuc n) = every_cons not_blank 45 (decimal (pos (suc n))) refl (every_so is_digit not_blank digit_solid (decimal (pos (suc n))) (decimal_digits (suc n)))

-- Laws of decimals: how many digits a number has, and what stands in a part that is filled with them from the last to the first.
use mathlib.Core.Path.{◌≡◌, refl, sym, ap, ◌∙◌}
use mathlib.Core.Bool.{Bool, true, false}
use mathlib.Core.List.{List, [], ◌∷◌, ◌++◌, append-nil}
use Prim.Native.Nat.{ℕ, zero, suc, ◌+◌, ◌-◌, ◌/◌, ◌%◌, ◌^◌, ◌≤◌, ◌<◌}
use native.Mathlib.Nat.{one-le-pow}
use native.Mathlib.Numerals.{add-one}
use native.Mathlib.Omega.{arith}
use lib.IntN.{ℤ, pos, negsuc, nat_abs}
use lib.Signed.{lt_z}
use lib.Dec.{ltb, lit<}
use lib.ListN.{length, take, drop, set, length-append, length-drop, length-set, drop_of_length-le}
use lib.Seq.{set_split, drop_at, drop-length, length-take-le}
use borrow.Author.Tests.{lt-ltb, le-ltb, ltb-true, ltb-false}
use borrow.Rule.Slice.PartMut.{put_mid}
use Rattle.numbers.specs.Screen.{many_digits, decimal_of, decimal}
use Rattle.numbers.proofs.Signs.{clash}

-- a number has one digit, or more
pub by_ten : {P : Type 0} (n : ℕ) → (n < 10 → P) → (10 ≤ n → P) → P
by_ten {P} n one more = by (ltb n 10) refl
  where
    by : (b : Bool) → ltb n 10 ≡ b → P
    by true e = one (ltb-true n 10 e)
    by false e = more (ltb-false n 10 e)

pub only : (f n : ℕ) (l : List ℕ) → n < 10 → decimal_of (suc f) n l ≡ (48 + n) ∷ l
unfolding decimal_of
only f n l h = rw (lt-ltb n 10 h, decimal_of)

pub next : (f n : ℕ) (l : List ℕ) → 10 ≤ n → decimal_of (suc f) n l ≡ decimal_of f (n / 10) ((48 + n % 10) ∷ l)
unfolding decimal_of
next f n l h = rw (le-ltb n 10 h, decimal_of)

-- digits in front of a list
in_front_lem : (f n : ℕ) (l t : List ℕ) → decimal_of f n (l ++ t) ≡ decimal_of f n l ++ t
unfolding decimal_of
in_front_lem zero n l t = refl
in_front_lem (suc f) n l t =
    by_ten n
    (λ h. rw (only f n (l ++ t) h, only f n l h))
    (λ h. rw (next f n (l ++ t) h, next f n l h) (in_front_lem f (n / 10) ((48 + n % 10) ∷ l) t))

one_longer : (f n d : ℕ) → length (decimal_of f n (d ∷ [])) ≡ suc (length (decimal_of f n []))
one_longer f n d = ap length (in_front_lem f n [] (d ∷ [])) ∙ length-append (decimal_of f n []) (d ∷ []) ∙ add-one (length (decimal_of f n []))

-- The digits of a number, by how many there are.

-- the k last digits of n, in front of l
unfoldable pub last_digits_of : ℕ → ℕ → List ℕ → List ℕ
last_digits_of zero n l = l
last_digits_of (suc k) n l = last_digits_of k (n / 10) ((48 + n % 10) ∷ l)

all_digits : (f n : ℕ) (l : List ℕ) → last_digits_of (length (decimal_of f n [])) n l ≡ decimal_of f n l
unfolding decimal_of last_digits_of
all_digits zero n l = refl
all_digits (suc f) n l =
    by_ten n
    (λ h. let small : n % 10 ≡ n = omega arith in rw (only f n [] h, only f n l h) (rw small))
    (λ h. rw (next f n [] h, next f n l h, one_longer f (n / 10) (48 + n % 10), last_digits_of) (all_digits f (n / 10) ((48 + n % 10) ∷ l)))

-- none of them is written yet
pub digits_begin : (n : ℕ) (l : List ℕ) → length l ≡ length (decimal (pos n)) → last_digits_of (length l) n (drop (length l) l) ≡ decimal (pos n)
unfolding decimal
digits_begin n l e = rw (drop-length l, e) (all_digits many_digits n [])

-- what stands from a place on, after a store there
drop_set_here : (l : List ℕ) (i d : ℕ) → i < length l → drop i (set l i d) ≡ d ∷ drop (suc i) l
drop_set_here l i d h = rw (set_split l i d h) (drop_at (take i l) (d ∷ drop (suc i) l) i (length-take-le i l (omega arith)))

-- one more, in front of those that stand from the next place on
pub digit_more : (k n d : ℕ) (l : List ℕ) → k < length l → d ≡ 48 + n % 10 → last_digits_of k (n / 10) (drop k (set l k d)) ≡ last_digits_of (suc k) n (drop (suc k) l)
unfolding last_digits_of
digit_more k n d l h e = rw (drop_set_here l k d h, e)

-- two more
pub pair_more : (left n d e : ℕ) (l : List ℕ) → 2 ≤ left → left ≤ length l → d ≡ 48 + n % 100 % 10 → e ≡ 48 + n % 100 / 10 % 10
    → last_digits_of (left - 2) (n / 100) (drop (left - 2) (set (set l (left - 1) d) (left - 2) e)) ≡ last_digits_of left n (drop left l)
pair_more zero n d e l p h g f = absurd (omega arith)
pair_more (suc zero) n d e l p h g f = absurd (omega arith)
pair_more (suc (suc k)) n d e l p h g f =
    let one : suc (suc k) - 1 ≡ suc k = omega arith in
    let two : suc (suc k) - 2 ≡ k = omega arith in
    let tenth : n / 100 ≡ n / 10 / 10 = omega arith in
    rw (one, two, tenth) (digit_more k (n / 10) e (set l (suc k) d) (simp length-set (omega arith)) (omega arith) ∙ digit_more (suc k) n d l h (omega arith))

-- How many digits there are.

-- more than a number has may be asked for
enough : (f n : ℕ) (l : List ℕ) → n < 10 ^ suc f → decimal_of (suc (suc f)) n l ≡ decimal_of (suc f) n l
enough zero n l h = let one : n < 10 = omega arith in only 1 n l one ∙ sym (only 0 n l one)
enough (suc f) n l h =
    by_ten n
    (λ one. only (suc (suc f)) n l one ∙ sym (only (suc f) n l one))
    (λ more. rw (next (suc (suc f)) n l more, next (suc f) n l more) (enough f (n / 10) ((48 + n % 10) ∷ l) (omega arith)))

longer : (f n : ℕ) → 10 ≤ n → n < 10 ^ suc (suc f) → length (decimal_of (suc (suc f)) n []) ≡ suc (length (decimal_of (suc (suc f)) (n / 10) []))
longer f n p h = rw (next (suc f) n [] p) (one_longer (suc f) (n / 10) (48 + n % 10) ∙ ap (λ (l : List ℕ). suc (length l)) (sym (enough f (n / 10) [] (omega arith))))

-- a number from 10 on has one more than its tenth
one_more_lem : (n : ℕ) → 10 ≤ n → n < 2 ^ 64 → length (decimal (pos n)) ≡ suc (length (decimal (pos (n / 10))))
unfolding decimal
one_more_lem n p h = longer 18 n p (omega arith)

-- and from 10,000 on, four more than its ten-thousandth
pub four_more : (n : ℕ) → 10000 ≤ n → n < 2 ^ 64 → length (decimal (pos n)) ≡ 4 + length (decimal (pos (n / 10000)))
four_more n p h =
    let e : n / 10 / 10 / 10 / 10 ≡ n / 10000 = omega arith in
    omega (arith, one_more_lem n (omega arith) h, one_more_lem (n / 10) (omega arith) (omega arith), one_more_lem (n / 10 / 10) (omega arith) (omega arith), one_more_lem (n / 10 / 10 / 10) (omega arith) (omega arith), ap (λ (k : ℕ). length (decimal (pos k))) e)

-- from one power of ten to the next
pub so_many : (k n : ℕ) → (0 < k → 10 ^ k ≤ n) → n < 10 ^ suc k → n < 2 ^ 64 → length (decimal (pos n)) ≡ suc k
unfolding decimal
so_many zero n low high h = ap length (only 19 n [] (omega arith))
so_many (suc k) n low high h =
    let large : 10 ^ suc k ≤ n = low (omega arith) in
    let one : 1 ≤ 10 ^ k = one-le-pow k 10 (lit< tt) in
    one_more_lem n (omega arith) h ∙ ap suc (so_many k (n / 10) (λ _. omega arith) (omega arith) (omega arith))

at_most : (f n : ℕ) (l : List ℕ) → length (decimal_of f n l) ≤ f + length l
unfolding decimal_of
at_most zero n l = omega arith
at_most (suc f) n l =
    by_ten n
    (λ h. rw (only f n l h) (omega arith))
    (λ h. rw (next f n l h) (omega (arith, at_most f (n / 10) ((48 + n % 10) ∷ l))))

-- a minus, and `many_digits`
pub decimal_most : (x : ℤ) → length (decimal x) ≤ 21
unfolding decimal
decimal_most (pos n) = omega (arith, at_most many_digits n [])
decimal_most (negsuc n) = omega (arith, at_most many_digits (suc n) [])

-- A number by its sign and magnitude.

pub decimal_plain : (x : ℤ) (n : ℕ) → n ≡ nat_abs x → lt_z x (pos 0) ≡ false → decimal (pos n) ≡ decimal x
decimal_plain (pos m) n h e = ap (λ (k : ℕ). decimal (pos k)) h
decimal_plain (negsuc m) n h e = clash e

pub decimal_signed : (x : ℤ) (n : ℕ) → n ≡ nat_abs x → lt_z x (pos 0) ≡ true → 45 ∷ decimal (pos n) ≡ decimal x
unfolding decimal
decimal_signed (pos m) n h e = clash (sym e ∙ le-ltb m 0 (omega arith))
decimal_signed (negsuc m) n h e = rw h

-- a minus at the front
pub sign_put : (l : List ℕ) (d : ℕ) → 0 < length l → take 1 (set l 0 d) ≡ d ∷ []
sign_put [] d h = absurd (omega arith)
sign_put (x ∷ l) d h = refl

-- what follows it is filled
pub rest_filled : (k : ℕ) (l ds : List ℕ) → put_mid k (length l - k) l ds ≡ take k l ++ ds
rest_filled k l ds =
    let short : length (drop k l) ≤ length l - k = omega (arith, length-drop k l) in
    let none : drop (length l - k) (drop k l) ≡ [] = drop_of_length-le (drop k l) short in
    rw none (ap (λ (t : List ℕ). take k l ++ t) (append-nil ds))

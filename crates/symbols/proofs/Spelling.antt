-- Laws of names as parts of the text.
use Rattle.std.proofs.Common.{◌≡◌, refl, sym, ap, ◌∙◌, Bool, true, false, ◌&&◌, List, [], ◌∷◌, ℕ, ◌+◌, ◌-◌, ◌*◌, ◌%◌, ◌≤◌, ◌<◌, add-one, eqb, eq-eqb, eqb-true, length, take, drop, get_or, length-drop, drop-cons}
use Rattle.std.proofs.Math.Nat.{mod-add-mod}
use Rattle.std.proofs.Math.Seq.{take-length}
use Rattle.std.proofs.Math.ListN.{drop_of_length-le}
use lib.Pointwise.{pointwise}
use Rattle.numbers.specs.Bytes.{eq_list}
use Rattle.symbols.specs.Table.{part, hash_from, hash_of}

-- a part of the text is a slice of it
pub part_of : (s : List ℕ) (a n : ℕ) → a + n ≤ length s → take n (take (length s - a) (drop a s)) ≡ part s a n
unfolding part
part_of s a n h = let e : length (drop a s) ≡ length s - a = length-drop a s in rw (sym e, take-length)

-- one byte more of a hash
pub hash_more : (w : List ℕ) (i h b : ℕ) → i < length w → b ≡ get_or w i 0 → hash_from h (drop i w) ≡ hash_of w → hash_from ((h * 16777619 % 4294967296 + b) % 4294967296) (drop (i + 1) w) ≡ hash_of w
unfolding hash_from
hash_more w i h b l e q = rw (mod-add-mod (h * 16777619) 4294967296 b, add-one, e) (rw (drop-cons w i 0 l) at q)

-- the hash of all
pub hash_end : (w : List ℕ) (i h : ℕ) → length w ≤ i → hash_from h (drop i w) ≡ hash_of w → h ≡ hash_of w
unfolding hash_from
hash_end w i h l q = rw (drop_of_length-le w l) at q

-- equal names are equal lists
both : (x y : ℕ) (xs ys : List ℕ) (b : Bool) → b ≡ eqb x y → (b ≡ true → xs ≡ ys) → b ≡ true → x ∷ xs ≡ y ∷ ys
both x y xs ys b h f k = let p = f k in let q = eqb-true x y (sym h ∙ k) in cc

first_true : (b r : Bool) → elim b [ true ↦ r | false ↦ false ] ≡ true → b ≡ true
first_true true r h = refl
first_true false r h = cc

then_true : (b r : Bool) → elim b [ true ↦ r | false ↦ false ] ≡ true → r ≡ true
then_true true r h = h
then_true false r h = cc

pub eq_same : (u v : List ℕ) → eq_list u v ≡ true → u ≡ v
eq_same [] [] e = refl
eq_same [] (y ∷ ys) e = cc
eq_same (x ∷ xs) [] e = cc
eq_same (x ∷ xs) (y ∷ ys) e = both x y xs ys (eqb x y) refl (λ h. eq_same xs ys (then_true (eqb x y) (eq_list xs ys) e)) (first_true (eqb x y) (eq_list xs ys) e)

pub same_eq : (u v : List ℕ) → u ≡ v → eq_list u v ≡ true
same_eq u v e = rw (sym e) (itself u)
  where
    itself : (u : List ℕ) → eq_list u u ≡ true
    itself [] = refl
    itself (x ∷ xs) = rw (eq-eqb x x refl, eq_list) (itself xs)

-- slices are compared as lists are
pub compared : (u v : List ℕ) → pointwise eqb u v ≡ eq_list u v
compared [] [] = refl
compared [] (y ∷ ys) = refl
compared (x ∷ xs) [] = refl
compared (x ∷ xs) (y ∷ ys) = by (eqb x y) (compared xs ys)
  where
    by : (b : Bool) {r s : Bool} → r ≡ s → (b && r) ≡ elim b [ true ↦ s | false ↦ false ]
    by true e = e
    by false e = refl

-- names whose hashes differ are different
pub hash_differs : (u v : List ℕ) (h k : ℕ) → h ≡ hash_of u → k ≡ hash_of v → (h ≡ k → ⊥) → false ≡ eq_list u v
hash_differs u v h k e f n = differ (eq_list u v) refl
  where
    differ : (b : Bool) → b ≡ eq_list u v → false ≡ b
    differ false q = refl
    differ true q = absurd (n (e ∙ ap hash_of (eq_same u v (sym q)) ∙ sym f))

-- Laws of tables whose rows are kept, exported: what was sound is sound, the rows and the scopes are the same.
use Rattle.std.specs.Prelude.{◌≡◌, Bool, true, false, List, [], ◌∷◌, eqb, length, get_or}
use Rattle.std.proofs.Math.Path.{refl}
use Rattle.std.proofs.Common.{sym, ap, ◌∙◌, add-one, length-append, drop-cons, eqb-true}
use Prim.Native.Nat.{ℕ, zero, suc, ◌+◌, ◌-◌, ◌≤◌, ◌<◌}
use native.Mathlib.Omega.{arith}
use Prim.Native.Char.{code}
use Rattle.numbers.specs.Limits.{table_places}
use Rattle.numbers.specs.Bytes.{bytes, eq_list, is_letter}
use Rattle.symbols.specs.declared.Symbol.{Symbol}
use Rattle.symbols.specs.Symbols.{procedure, Rows}
use Rattle.symbols.specs.ByNumbers.{kind_numbered}
use Rattle.symbols.specs.Table.{part, first, scope, name_at, kind_of, kind_for, row_at, rows_in, is_hash, Named, Linked, Sound, Scoped, Kept, Grown}
use Rattle.symbols.specs.Chains.{positive, name_kept, scope_kept}

-- no rows
pub sound_start : (s xs : List ℕ) → table_places ≤ length xs → Sound s xs 0
sound_start s xs r = record {
  linked = record { most = omega arith; room = r; older = λ i h. absurd (omega arith); before = λ i h. absurd (omega arith); again = λ i h. absurd (omega arith) };
  named = λ i h. absurd (omega arith);
  hashed = λ i h. absurd (omega arith);
  same = λ i h. absurd (omega arith);
  one = λ i j h. absurd (omega arith);
  owned = λ i h. absurd (omega arith);
  alone = λ i j h. absurd (omega arith);
}

pub rows_length : (s xs : List ℕ) (k : ℕ) → length (rows_in s xs k) ≡ k
unfolding rows_in
rows_length s xs zero = refl
rows_length s xs (suc k) = length-append (rows_in s xs k) (row_at s xs k ∷ []) ∙ rw (rows_length s xs k, add-one)

module _ (n k : ℕ) (s xs ys : List ℕ) (enough : 9 ≤ n) (g : Sound s xs k) (kp : Kept n k xs ys) where
  linked_kept : Linked ys k
  linked_kept = record {
    most = g.linked.most;
    room = omega (arith, g.linked.room, kp.lasts);
    older = λ i h. omega (arith, g.linked.older i h, kp.at i 4 h (omega arith));
    before = λ i h. omega (arith, g.linked.before i h, kp.at i 3 h (omega arith));
    again = λ i h.
        let b = g.linked.before i h in
        rw (kp.at i 3 h (omega arith)) (kp.at (first xs i) 3 (omega (arith, b)) (omega arith) ∙ g.linked.again i h);
  }

  same_name : (i : ℕ) → i < k → name_at s ys i ≡ name_at s xs i
  same_name i h = name_kept n k s xs ys enough g.linked kp i h

  pub sound_kept : Sound s ys k
  sound_kept = record {
    linked = linked_kept;
    named = λ i h. rw (kp.at i 0 h (omega arith), kp.at i 1 h (omega arith)) (g.named i h);
    hashed = λ i h. kp.at i 2 h (omega arith) ∙ g.hashed i h ∙ rw (same_name i h);
    same = λ i h.
        let b = g.linked.before i h in
        rw (kp.at i 3 h (omega arith)) (same_name (first xs i) (omega (arith, b)) ∙ g.same i h ∙ sym (same_name i h));
    one = λ i j h l e. kp.at i 3 h (omega arith) ∙ g.one i j h l (sym (same_name i h) ∙ e ∙ same_name j l) ∙ sym (kp.at j 3 l (omega arith));
    owned = λ i h z.
        let e = kp.at i 4 h (omega arith) in
        let o = g.linked.older i h in
        let nz : scope xs i ≡ 0 → ⊥ = λ q. z (e ∙ q) in
        rw (e, kp.at (scope xs i - 1) 5 (omega (arith, o, positive (scope xs i) nz)) (omega arith)) (g.owned i h nz);
    alone = λ i j h l p q e w.
        g.alone i j h l (ap kind_of (sym (kp.at i 5 h (omega arith))) ∙ p) (ap kind_of (sym (kp.at j 5 l (omega arith))) ∙ q)
        (sym (kp.at i 4 h (omega arith)) ∙ e ∙ kp.at j 4 l (omega arith)) (sym (same_name i h) ∙ w ∙ same_name j l);
  }

-- the rows, where values are kept too
module _ (n k : ℕ) (s xs ys : List ℕ) (enough : 11 ≤ n) (g : Sound s xs k) (kp : Kept n k xs ys) where
  row_kept : (i : ℕ) → i < k → row_at s ys i ≡ row_at s xs i
  unfolding row_at
  row_kept i h =
      let nine : 9 ≤ n = omega arith in
      let o = g.linked.older i h in
      rw (name_kept n k s xs ys nine g.linked kp i h, kp.at i 5 h (omega arith), kp.at i 9 h (omega arith), kp.at i 10 h (omega arith), kp.at i 6 h (omega arith), kp.at i 7 h (omega arith), kp.at i 8 h (omega arith), kp.at i 4 h (omega arith), scope_kept n k s xs ys nine g.linked kp (scope xs i) (omega (arith, o)))

  rows_up_to : (i : ℕ) → i ≤ k → rows_in s ys i ≡ rows_in s xs i
  unfolding rows_in
  rows_up_to zero h = refl
  rows_up_to (suc i) h = rw (row_kept i (omega arith), rows_up_to i (omega arith))

  pub rows_kept : rows_in s ys k ≡ rows_in s xs k
  rows_kept = rows_up_to k (omega arith)

-- scopes
pub scoped_main : (xs : List ℕ) (k : ℕ) → Scoped xs k 0
scoped_main xs k = record { known = omega arith; owner = λ h. absurd (h refl) }

pub scoped_kept : (n k m : ℕ) (xs ys : List ℕ) (p : ℕ) → 9 ≤ n → k ≤ m → Kept n k xs ys → Scoped xs k p → Scoped ys m p
scoped_kept n k m xs ys p e l kp w = record {
  known = omega (arith, w.known);
  owner = λ z. rw (kp.at (p - 1) 5 (omega (arith, w.known, positive p z)) (omega arith)) (w.owner z);
}

-- the scope of a procedure that was just declared
pub scoped_new : (o : Rows) (s xs : List ℕ) (k : ℕ) (y : Symbol) (ys : List ℕ) (m : ℕ) → kind_for y.kind ≡ procedure → Grown o s xs k y ys m → Scoped ys m m
scoped_new o s xs k y ys m e w =
    let q : m - 1 ≡ k = omega (arith, w.one) in
    record { known = omega arith; owner = λ z. rw (q, w.new_kind) (kind_numbered y.kind ∙ e) }

-- one change after another
pub kept_on : (n k a b m : ℕ) (xs ys zs : List ℕ) → n ≤ a → n ≤ b → k ≤ m → Kept a k xs ys → Kept b m ys zs → Kept n k xs zs
kept_on n k a b m xs ys zs p q l f g = record {
  lasts = g.lasts ∙ f.lasts;
  at = λ i j h e. g.at i j (omega arith) (omega arith) ∙ f.at i j h (omega arith);
}

-- a name that starts with a letter
pub letter_named : (s : List ℕ) (a n : ℕ) → a + n ≤ length s → is_letter (get_or s a 0) ≡ true → Named s a n
unfolding is_letter part bytes
letter_named s a n h l = record { lies = h; plain = plain n h }
  where
    letter : (b : Bool) → b ≡ eqb (get_or s a 0) (code "#") → b ≡ false
    letter false e = refl
    letter true e = let z = eqb-true (get_or s a 0) (code "#") (sym e) in sym (rw z at l)

    plain : (n : ℕ) → a + n ≤ length s → is_hash (part s a n) ≡ false
    plain zero h = refl
    plain (suc n) h = rw (drop-cons s a 0 (omega arith)) (rw (letter (eqb (get_or s a 0) (code "#")) refl, eq_list))

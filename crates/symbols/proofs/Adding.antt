-- Laws of rows that are added, and of an entry that is set: the older rows keep their meaning.
use mathlib.Core.Path.{◌≡◌, refl, sym, ap, ◌∙◌}
use mathlib.Core.Bool.{Bool, true, false}
use mathlib.Core.List.{List, [], ◌∷◌, ◌++◌}
use Prim.Native.Nat.{ℕ, zero, suc, ◌+◌, ◌-◌, ◌*◌, ◌≤◌, ◌<◌}
use native.Mathlib.Omega.{arith}
use native.Mathlib.Numerals.{add-one}
use borrow.Rule.Slice.PartMut.{put_mid}
use Rattle.std.proofs.lemmas.Slice.{take-put_mid}
use borrow.Author.Count.{below_more}
use lib.Dec.{eqb}
use lib.ListN.{length, take, set, get_or, length-set, get_or-append}
use lib.Seq.{length-take-le, get_or-take, get_or-append-add, get_or_at, get_or-set_same, get_or-set_other, ext_get_or}
use borrow.Author.Tests.{lt-ltb, le-ltb, eqb-true, eqb-false}
use Rattle.numbers.specs.Limits.{max_rows, row_share}
use Rattle.std.specs.Prelude.{Result, Ok, Err}
use Rattle.numbers.specs.declared.refusal.Refusal.{Refusal}
use Rattle.numbers.specs.declared.refusal.Refusal.TheVariants.{NameTaken, TooManyRows}
use Rattle.symbols.specs.declared.Symbol.{Symbol}
use Rattle.symbols.specs.Symbols.{procedure, Row, no_row, declared, one_more, fresh}
use Rattle.symbols.specs.Table.{part, field, offset, extent, hash, first, scope, kind, name_at, scope_at, kind_of, kind_for, row_at, rows_in, hash_of, value_of, row_of, Named, Linked, Sound, Kept, Declares, Adds, Became, with_value}
use Rattle.symbols.specs.Steps.{FirstOf, new, known, numbers_of}
use Rattle.symbols.specs.ByNumbers.{kind_numbered}
use Rattle.symbols.specs.Chains.{positive, chain_cons, chain_kept, chain_fuel, name_kept, scope_kept}
use Rattle.symbols.specs.Kept.{rows_length, sound_kept, rows_kept}
use Rattle.symbols.proofs.Spelling.{eq_same, same_eq}
use Rattle.symbols.proofs.Search.{declared_has}

-- a row that is written at u
pub put_down : (u : ℕ) (xs ws row : List ℕ) → u ≤ length xs → ws ≡ row → length row ≡ 12 → take (u + 12) (put_mid u (u + 12 - u) xs ws) ≡ take u xs ++ row
put_down u xs ws row h e l = take-put_mid u (u + 12 - u) xs ws (u + 12) (rw e (omega (arith, l))) h ∙ rw e

-- what the first row of the new row's name is good for
record First (s xs ys : List ℕ) (u : ℕ) (w : List ℕ) (f : ℕ) : Type 0 where
  before : f ≤ u
  same : name_at s ys f ≡ name_at s ys u
  again : first ys f ≡ f
  one : (i : ℕ) → i < u → name_at s xs i ≡ w → first xs i ≡ f

module _ (s xs ys : List ℕ) (u : ℕ) (y : Symbol) (h f : ℕ) (d : Declares s xs u y) (ul : u < max_rows) (q : h ≡ hash_of (part s y.at y.len))
    (long : length ys ≡ length xs) (e : take (12 * u + 12) ys ≡ take (12 * u) xs ++ numbers_of y h f) where
  room : 12 * u + 12 ≤ length xs
  room = omega (arith, d.sound.linked.room)

  number : (j : ℕ) → j < 12 → field ys u j ≡ get_or (numbers_of y h f) j 0
  number j l =
      let n : length (take (12 * u) xs) ≡ 12 * u = length-take-le (12 * u) xs (omega (arith, room)) in
      sym (get_or-take (12 * u + 12) ys (12 * u + j) 0 (omega arith)) ∙ ap (λ (t : List ℕ). get_or t (12 * u + j) 0) e
      ∙ ap (λ (m : ℕ). get_or (take (12 * u) xs ++ numbers_of y h f) (m + j) 0) (sym n) ∙ get_or-append-add (take (12 * u) xs) (numbers_of y h f) j 0

  kept : Kept row_share u xs ys
  kept = record {
    lasts = long;
    at = λ i j l b.
        let n : length (take (12 * u) xs) ≡ 12 * u = length-take-le (12 * u) xs (omega (arith, room)) in
        sym (get_or-take (12 * u + 12) ys (12 * i + j) 0 (omega arith)) ∙ ap (λ (t : List ℕ). get_or t (12 * i + j) 0) e
        ∙ get_or-append (take (12 * u) xs) (numbers_of y h f) 0 (12 * i + j) (omega (arith, n)) ∙ get_or-take (12 * u) xs (12 * i + j) 0 (omega arith);
  }

  name_old : (i : ℕ) → i < u → name_at s ys i ≡ name_at s xs i
  name_old i l = name_kept 12 u s xs ys (omega arith) d.sound.linked kept i l

  name_new : name_at s ys u ≡ part s y.at y.len
  unfolding name_at
  name_new = rw (number 0 (omega arith), number 1 (omega arith))

  row_new : row_at s ys u ≡ row_of s xs y
  unfolding row_at row_of
  row_new = rw (name_new, number 5 (omega arith), kind_numbered y.kind, number 9 (omega arith), number 10 (omega arith), number 6 (omega arith), number 7 (omega arith), number 8 (omega arith), number 4 (omega arith), scope_kept 12 u s xs ys (omega arith) d.sound.linked kept y.scope d.scoped.known)

  rows_new : rows_in s ys (u + 1) ≡ rows_in s xs u ++ (row_of s xs y ∷ [])
  unfolding rows_in
  rows_new = rw add-one (rw (row_new, rows_kept 12 u s xs ys (omega arith) d.sound kept))

  scope_new : scope_at s ys (u + 1) ≡ part s y.at y.len ∷ scope_at s xs y.scope
  unfolding scope_at
  scope_new =
      let b = d.scoped.known in
      rw add-one (chain_cons 511 s ys u ∙ rw (name_new, number 4 (omega arith), chain_kept 12 u s xs ys (omega arith) d.sound.linked kept 511 y.scope (omega (arith, b)) b, chain_fuel u s xs d.sound.linked 511 max_rows y.scope (omega (arith, b)) (omega (arith, b)) b))

  first_is : FirstOf s xs u (part s y.at y.len) f → First s xs ys u (part s y.at y.len) f
  first_is (new r a) = record {
    before = omega arith;
    same = rw r;
    again = rw r (number 3 (omega arith) ∙ r);
    one = λ i l t. absurd (let z : ◌≡◌ {A = Bool} true false = sym (same_eq (name_at s xs i) (part s y.at y.len) t) ∙ a i l in let n : ◌≡◌ {A = ℕ} 0 1 = cc in omega arith);
  }
  first_is (known i r l t) =
      let b = d.sound.linked.before i l in
      let t' = eq_same (name_at s xs i) (part s y.at y.len) t in
      record {
        before = omega (arith, b, r);
        same = rw r (name_old (first xs i) (omega (arith, b)) ∙ d.sound.same i l ∙ t' ∙ sym name_new);
        again = rw r (kept.at (first xs i) 3 (omega (arith, b)) (omega arith) ∙ d.sound.linked.again i l);
        one = λ j m v. d.sound.one j i m l (v ∙ sym t') ∙ sym r;
      }

  module _ (ff : FirstOf s xs u (part s y.at y.len) f) (un : kind_for y.kind ≡ procedure → declared (rows_in s xs u) (part s y.at y.len) (scope_at s xs y.scope) ≡ false) where
    linked_new : Linked ys (u + 1)
    linked_new =
        let k = first_is ff in
        record {
          most = omega arith;
          room = omega (arith, d.sound.linked.room);
          older = below_more (λ i. scope ys i ≤ i) u (λ i l. omega (arith, kept.at i 4 l (omega arith), d.sound.linked.older i l)) (omega (arith, number 4 (omega arith), d.scoped.known));
          before = below_more (λ i. first ys i ≤ i) u (λ i l. omega (arith, kept.at i 3 l (omega arith), d.sound.linked.before i l)) (omega (arith, number 3 (omega arith), k.before));
          again = below_more (λ i. first ys (first ys i) ≡ first ys i) u
              (λ i l. let b = d.sound.linked.before i l in rw (kept.at i 3 l (omega arith)) (kept.at (first xs i) 3 (omega (arith, b)) (omega arith) ∙ d.sound.linked.again i l))
              (rw (number 3 (omega arith)) k.again);
        }

    not_beside : (i : ℕ) → i < u → kind_of (kind ys u) ≡ procedure → scope ys i ≡ scope ys u → name_at s ys i ≡ name_at s ys u → ⊥
    not_beside i l k t r =
        let a = un (sym (kind_numbered y.kind) ∙ ap kind_of (sym (number 5 (omega arith))) ∙ k) in
        let b = declared_has s xs (part s y.at y.len) y.scope i u l (sym (name_old i l) ∙ r ∙ name_new) (sym (kept.at i 4 l (omega arith)) ∙ t ∙ number 4 (omega arith)) in
        let z : ◌≡◌ {A = Bool} true false = sym b ∙ a in
        let n : ◌≡◌ {A = ℕ} 0 1 = cc in omega arith

    sound_new : Sound s ys (u + 1)
    sound_new =
        let k = first_is ff in
        record {
          linked = linked_new;
          named = below_more (λ i. Named s (offset ys i) (extent ys i)) u
              (λ i l. rw (kept.at i 0 l (omega arith), kept.at i 1 l (omega arith)) (d.sound.named i l))
              (rw (number 0 (omega arith), number 1 (omega arith)) d.named);
          hashed = below_more (λ i. hash ys i ≡ hash_of (name_at s ys i)) u
              (λ i l. kept.at i 2 l (omega arith) ∙ d.sound.hashed i l ∙ rw (name_old i l))
              (number 2 (omega arith) ∙ q ∙ rw name_new);
          same = below_more (λ i. name_at s ys (first ys i) ≡ name_at s ys i) u
              (λ i l. let b = d.sound.linked.before i l in rw (kept.at i 3 l (omega arith)) (name_old (first xs i) (omega (arith, b)) ∙ d.sound.same i l ∙ sym (name_old i l)))
              (rw (number 3 (omega arith)) k.same);
          one = λ i j l m.
              below_more (λ i. name_at s ys i ≡ name_at s ys j → first ys i ≡ first ys j) u
              (λ i l.
              below_more (λ j. name_at s ys i ≡ name_at s ys j → first ys i ≡ first ys j) u
              (λ j m t. kept.at i 3 l (omega arith) ∙ d.sound.one i j l m (sym (name_old i l) ∙ t ∙ name_old j m) ∙ sym (kept.at j 3 m (omega arith)))
              (λ t. kept.at i 3 l (omega arith) ∙ k.one i l (sym (name_old i l) ∙ t ∙ name_new) ∙ sym (number 3 (omega arith)))
              j m)
              (below_more (λ j. name_at s ys u ≡ name_at s ys j → first ys u ≡ first ys j) u
              (λ j m t. number 3 (omega arith) ∙ sym (k.one j m (sym (name_old j m) ∙ sym t ∙ name_new)) ∙ sym (kept.at j 3 m (omega arith)))
              (λ t. refl) j m)
              i l;
          owned = below_more (λ i. (scope ys i ≡ 0 → ⊥) → kind_of (kind ys (scope ys i - 1)) ≡ procedure) u
              (λ i l z.
              let c = kept.at i 4 l (omega arith) in
              let o = d.sound.linked.older i l in
              let nz : scope xs i ≡ 0 → ⊥ = λ r. z (c ∙ r) in
              rw (c, kept.at (scope xs i - 1) 5 (omega (arith, o, positive (scope xs i) nz)) (omega arith)) (d.sound.owned i l nz))
              (λ z.
              let c = number 4 (omega arith) in
              let o = d.scoped.known in
              let nz : y.scope ≡ 0 → ⊥ = λ r. z (c ∙ r) in
              rw (c, kept.at (y.scope - 1) 5 (omega (arith, o, positive y.scope nz)) (omega arith)) (d.scoped.owner nz));
          alone = λ i j l m.
              below_more (λ i. kind_of (kind ys i) ≡ procedure → kind_of (kind ys j) ≡ procedure → scope ys i ≡ scope ys j → name_at s ys i ≡ name_at s ys j → i ≡ j) u
              (λ i l.
              below_more (λ j. kind_of (kind ys i) ≡ procedure → kind_of (kind ys j) ≡ procedure → scope ys i ≡ scope ys j → name_at s ys i ≡ name_at s ys j → i ≡ j) u
              (λ j m a b t r. d.sound.alone i j l m (ap kind_of (sym (kept.at i 5 l (omega arith))) ∙ a) (ap kind_of (sym (kept.at j 5 m (omega arith))) ∙ b) (sym (kept.at i 4 l (omega arith)) ∙ t ∙ kept.at j 4 m (omega arith)) (sym (name_old i l) ∙ r ∙ name_old j m))
              (λ a b t r. absurd (not_beside i l b t r))
              j m)
              (below_more (λ j. kind_of (kind ys u) ≡ procedure → kind_of (kind ys j) ≡ procedure → scope ys u ≡ scope ys j → name_at s ys u ≡ name_at s ys j → u ≡ j) u
              (λ j m a b t r. absurd (not_beside j m a (sym t) (sym r)))
              (λ a b t r. refl) j m)
              i l;
        }

    pub add_made : Adds (one_more (rows_in s xs u) (row_of s xs y)) s xs u y ys (Ok (u + 1))
    unfolding Adds one_more
    add_made = record {
      one = refl;
      is = rw (lt-ltb (length (rows_in s xs u)) max_rows (omega (arith, rows_length s xs u)), one_more) (rw rows_new);
      sound = sound_new;
      kept = kept;
      new_kind = number 5 (omega arith);
      new_scope = scope_new;
    }

pub add_full : (s xs ys : List ℕ) (u : ℕ) (y : Symbol) (r : Row) → max_rows ≤ u → Adds (one_more (rows_in s xs u) r) s xs u y ys (Err TooManyRows)
unfolding Adds one_more
add_full s xs ys u y r h = rw (le-ltb (length (rows_in s xs u)) max_rows (omega (arith, rows_length s xs u)), one_more)

module _ (s xs ys : List ℕ) (u : ℕ) (y : Symbol) (b : Bool) (eb : b ≡ declared (rows_in s xs u) (part s y.at y.len) (scope_at s xs y.scope)) where
  pub fresh_not : b ≡ true → Adds (fresh (rows_in s xs u) (row_of s xs y)) s xs u y ys (Err NameTaken)
  unfolding Adds fresh row_of
  fresh_not t = let q : declared (rows_in s xs u) (part s y.at y.len) (scope_at s xs y.scope) ≡ true = sym eb ∙ t in rw (q, fresh)

  fresh_is : b ≡ false → fresh (rows_in s xs u) (row_of s xs y) ≡ one_more (rows_in s xs u) (row_of s xs y)
  unfolding fresh row_of
  fresh_is t = let q : declared (rows_in s xs u) (part s y.at y.len) (scope_at s xs y.scope) ≡ false = sym eb ∙ t in rw (q, fresh)

  pub fresh_on : (r : Result ℕ Refusal) → b ≡ false → Adds (one_more (rows_in s xs u) (row_of s xs y)) s xs u y ys r → Adds (fresh (rows_in s xs u) (row_of s xs y)) s xs u y ys r
  fresh_on r t h = rw (fresh_is t) h

-- an entry that is set
row_of_lem : (s xs : List ℕ) (k i : ℕ) → i < k → get_or (rows_in s xs k) i no_row ≡ row_at s xs i
unfolding rows_in
row_of_lem s xs zero i h = absurd (omega arith)
row_of_lem s xs (suc k) i h = which (eqb i k) refl (row_of_lem s xs k i)
  where
    which : (b : Bool) → b ≡ eqb i k → (i < k → get_or (rows_in s xs k) i no_row ≡ row_at s xs i) → get_or (rows_in s xs k ++ (row_at s xs k ∷ [])) i no_row ≡ row_at s xs i
    which true e f = let z : i ≡ k = eqb-true i k (sym e) in rw z (get_or_at (rows_in s xs k) (row_at s xs k) [] no_row k (rows_length s xs k))
    which false e f =
        let z = eqb-false i k (sym e) in
        let l : i < k = omega (arith, z) in
        get_or-append (rows_in s xs k) (row_at s xs k ∷ []) no_row i (omega (arith, rows_length s xs k)) ∙ f l

module _ (s xs : List ℕ) (used k v : ℕ) (g : Sound s xs used) (h : k < used) where
  abbrev entered : List ℕ
  entered = set (set xs (12 * k + 9) v) (12 * k + 10) 0

  lies : 12 * k + 12 ≤ length xs
  lies = omega (arith, g.linked.most, g.linked.room)

  other : (i f : ℕ) → (12 * i + f ≡ 12 * k + 9 → ⊥) → (12 * i + f ≡ 12 * k + 10 → ⊥) → field entered i f ≡ field xs i f
  other i f n m = get_or-set_other (set xs (12 * k + 9) v) (12 * k + 10) (12 * i + f) 0 0 m ∙ get_or-set_other xs (12 * k + 9) (12 * i + f) v 0 n

  kept_nine : Kept 9 used xs entered
  kept_nine = record {
    lasts = length-set (set xs (12 * k + 9) v) (12 * k + 10) 0 ∙ length-set xs (12 * k + 9) v;
    at = λ i f l b. other i f (λ e. omega arith) (λ e. omega arith);
  }

  new_low : field entered k 9 ≡ v
  new_low = get_or-set_other (set xs (12 * k + 9) v) (12 * k + 10) (12 * k + 9) 0 0 (λ e. omega arith) ∙ get_or-set_same xs (12 * k + 9) v 0 (omega (arith, lies))

  new_high : field entered k 10 ≡ 0
  new_high = get_or-set_same (set xs (12 * k + 9) v) (12 * k + 10) 0 0 (omega (arith, lies, length-set xs (12 * k + 9) v))

  abbrev valued : Row → ℕ → Row
  valued r n = record { name = r.name; kind = r.kind; value = n; level = r.level; addr = r.addr; size = r.size; scope = r.scope }

  row_entered : (i : ℕ) → i < used → row_at s entered i ≡ valued (row_at s xs i) (value_of (field entered i 9) (field entered i 10))
  unfolding row_at
  row_entered i l =
      let o = g.linked.older i l in
      let at = kept_nine.at in
      rw (name_kept 9 used s xs entered (omega arith) g.linked kept_nine i l, at i 5 l (omega arith), at i 6 l (omega arith), at i 7 l (omega arith), at i 8 l (omega arith), at i 4 l (omega arith), scope_kept 9 used s xs entered (omega arith) g.linked kept_nine (scope xs i) (omega (arith, o)))

  row_here : row_at s entered k ≡ valued (row_at s xs k) v
  row_here = let e : value_of (field entered k 9) (field entered k 10) ≡ v = omega (arith, new_low, new_high) in row_entered k h ∙ ap (valued (row_at s xs k)) e

  row_there : (i : ℕ) → i < used → (i ≡ k → ⊥) → row_at s entered i ≡ row_at s xs i
  unfolding row_at
  row_there i l n = row_entered i l ∙ rw (other i 9 (λ e. n (omega arith)) (λ e. omega arith), other i 10 (λ e. omega arith) (λ e. n (omega arith)))

  same_row : (i : ℕ) → i < used → (b : Bool) → b ≡ eqb i k → get_or (rows_in s entered used) i no_row ≡ get_or (with_value (rows_in s xs used) k v) i no_row
  same_row i l true e =
      let z : i ≡ k = eqb-true i k (sym e) in
      let r : get_or (rows_in s xs used) k no_row ≡ row_at s xs k = row_of_lem s xs used k h in
      rw z (row_of_lem s entered used k h ∙ row_here ∙ sym (get_or-set_same (rows_in s xs used) k (valued (get_or (rows_in s xs used) k no_row) v) no_row (omega (arith, rows_length s xs used)) ∙ ap (λ (t : Row). valued t v) r))
  same_row i l false e =
      let n = eqb-false i k (sym e) in
      row_of_lem s entered used i l ∙ row_there i l n ∙ sym (get_or-set_other (rows_in s xs used) k i (valued (get_or (rows_in s xs used) k no_row) v) no_row n ∙ row_of_lem s xs used i l)

  pub entry_set : Became 9 s xs used (with_value (rows_in s xs used) k v) entered
  entry_set = record {
    sound = sound_kept 9 used s xs entered (omega arith) g kept_nine;
    rows_are = ext_get_or no_row (rows_in s entered used) (with_value (rows_in s xs used) k v)
        (rows_length s entered used ∙ sym (length-set (rows_in s xs used) k (valued (get_or (rows_in s xs used) k no_row) v) ∙ rows_length s xs used))
        (λ i l. same_row i (omega (arith, rows_length s entered used)) (eqb i k) refl);
    kept = kept_nine;
  }

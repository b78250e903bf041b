-- Laws of the search for a row: the newest that is seen, a name in one scope, the first row of a name.
use Rattle.std.proofs.Common.{◌≡◌, refl, sym, ap, ◌∙◌, Bool, true, false, ◌&&◌, List, [], ◌∷◌, ◌++◌, ℕ, zero, suc, ◌-◌, ◌≤◌, ◌<◌, arith, eqb, eq-eqb, eqb-true}
use borrow.Author.Tests.{eqb-false}
use Rattle.std.specs.Prelude.{Option as Found, Some, None, is_some}
use Rattle.std.proofs.Math.Option.{Option, none, some}
use Rattle.numbers.specs.Limits.{max_rows}
use Rattle.numbers.specs.Bytes.{bytes, eq_list}
use Rattle.symbols.specs.Symbols.{procedure, Scope, Row, is_in, all_in, same_scope, find_in, find, declared}
use Rattle.symbols.specs.Table.{part, offset, extent, hash, first, scope, kind, name_at, chain, scope_at, kind_of, row_at, rows_in, hash_of, is_hash, firsts, among, all_among, is_open, Sound, Scoped, Seen, Finds}
use Rattle.symbols.specs.Steps.{Legible, Newest, found, nowhere, FirstOf, new, known}
use Rattle.symbols.specs.Chains.{chain_end, chain_cons, chain_step, firsts_end, firsts_cons}
use lib.Pointwise.{pointwise}
use Rattle.symbols.proofs.Spelling.{compared, eq_same, same_eq, hash_differs}

-- two tests that follow from each other
pub bool_iff : (a b : Bool) → (a ≡ true → b ≡ true) → (b ≡ true → a ≡ true) → a ≡ b
bool_iff true b f g = sym (f refl)
bool_iff false true f g = g refl
bool_iff false false f g = refl

or : (b r : Bool) → r ≡ true → elim b [ true ↦ true | false ↦ r ] ≡ true
or true r h = refl
or false r h = h

-- whether a row has the name w
module _ (s xs : List ℕ) (k : ℕ) (w : List ℕ) (h : ℕ) (l : Legible s xs k) (q : h ≡ hash_of w) where
  pub name_differs : (hash xs k ≡ h → ⊥) → false ≡ eq_list (name_at s xs k) w
  name_differs d = hash_differs (name_at s xs k) w (hash xs k) h l.hashed q d

-- one of two tests fails
pub not_first : (a b v : Bool) → v ≡ false → false ≡ a → v ≡ (a && b)
not_first true b v e f = absurd (cc f)
not_first false b v e f = e

pub not_second : (a b v : Bool) → v ≡ false → v ≡ b → v ≡ (a && b)
not_second true b v e f = f
not_second false b v e f = e

-- two names that are compared
pub name_compared : (s xs : List ℕ) (k : ℕ) (u w : List ℕ) (r : Bool) → u ≡ part s (offset xs k) (extent xs k) → r ≡ pointwise eqb u w → r ≡ eq_list (name_at s xs k) w
unfolding name_at
name_compared s xs k u w r e q = q ∙ compared u w ∙ rw e

-- the newest row that passes
swap : {A : Type 0} (a b : Bool) (y p q : A)
    → ◌≡◌ {A = A} (elim a [ true ↦ elim b [ true ↦ y | false ↦ p ] | false ↦ elim b [ true ↦ y | false ↦ q ] ]) (elim b [ true ↦ y | false ↦ elim a [ true ↦ p | false ↦ q ] ])
swap true true y p q = refl
swap true false y p q = refl
swap false true y p q = refl
swap false false y p q = refl

module _ (w : List ℕ) (cur : Scope) where
  abbrev hits : Row → Bool
  hits r = eq_list r.name w && all_in r.scope cur

  abbrev beside : Row → Bool
  beside r = eq_list r.name w && same_scope r.scope cur

  find_more : (rs : List Row) (r : Row) (best : Option Row) → find_in (rs ++ (r ∷ [])) w cur best ≡ elim (hits r) [ true ↦ some r | false ↦ find_in rs w cur best ]
  unfolding find_in
  find_more [] r best = refl
  find_more (x ∷ rs) r best =
      ap (λ (o : Option Row). elim (hits x) [ true ↦ o | false ↦ find_in (rs ++ (r ∷ [])) w cur best ]) (find_more rs r (some x))
      ∙ ap (λ (o : Option Row). elim (hits x) [ true ↦ elim (hits r) [ true ↦ some r | false ↦ find_in rs w cur (some x) ] | false ↦ o ]) (find_more rs r best)
      ∙ swap (hits x) (hits r) (some r) (find_in rs w cur (some x)) (find_in rs w cur best)

  declared_more : (rs : List Row) (r : Row) → declared (rs ++ (r ∷ [])) w cur ≡ elim (beside r) [ true ↦ true | false ↦ declared rs w cur ]
  unfolding declared
  declared_more [] r = refl
  declared_more (x ∷ rs) r = ap (λ (o : Bool). elim (beside x) [ true ↦ true | false ↦ o ]) (declared_more rs r) ∙ either (beside x) (beside r) (declared rs w cur)
    where
      either : (a b c : Bool) → ◌≡◌ {A = Bool} (elim a [ true ↦ true | false ↦ elim b [ true ↦ true | false ↦ c ] ]) (elim b [ true ↦ true | false ↦ elim a [ true ↦ true | false ↦ c ] ])
      either true true c = refl
      either true false c = refl
      either false true c = refl
      either false false c = refl

list_itself : (l : Scope) → same_scope l l ≡ true
unfolding same_scope
list_itself [] = refl
list_itself (w ∷ l) = rw (same_eq w w refl, same_scope) (list_itself l)

-- a row of that name in that scope
pub declared_has : (s xs : List ℕ) (w : List ℕ) (p i k : ℕ) → i < k → name_at s xs i ≡ w → scope xs i ≡ p → declared (rows_in s xs k) w (scope_at s xs p) ≡ true
unfolding rows_in row_at
declared_has s xs w p i zero h e q = absurd (omega arith)
declared_has s xs w p i (suc k) h e q =
    declared_more w (scope_at s xs p) (rows_in s xs k) (row_at s xs k)
    ∙ either (eqb i k) refl (declared (rows_in s xs k) w (scope_at s xs p)) (λ l. declared_has s xs w p i k l e q)
  where
    either : (b : Bool) → b ≡ eqb i k → (r : Bool) → (i < k → r ≡ true) → elim (eq_list (name_at s xs k) w && same_scope (scope_at s xs (scope xs k)) (scope_at s xs p)) [ true ↦ true | false ↦ r ] ≡ true
    either true t r f =
        let z : i ≡ k = eqb-true i k (sym t) in
        let n : eq_list (name_at s xs k) w ≡ true = same_eq (name_at s xs k) w (ap (name_at s xs) (sym z) ∙ e) in
        let m : scope xs k ≡ p = ap (scope xs) (sym z) ∙ q in
        rw (n, m, list_itself (scope_at s xs p))
    either false t r f =
        let z = eqb-false i k (sym t) in
        or (eq_list (name_at s xs k) w && same_scope (scope_at s xs (scope xs k)) (scope_at s xs p)) r (f (omega (arith, z)))

-- what each step from k down to i leaves as it is
back : {A : Type 0} (f : ℕ → A) (k i : ℕ) → i ≤ k → ((j : ℕ) → i ≤ j → j < k → f (suc j) ≡ f j) → f k ≡ f i
back f zero i h g = let e : i ≡ 0 = omega arith in rw e
back f (suc k) i h g = by (eqb i (suc k)) refl (λ l. back f k i l (λ j a b. g j a (omega arith)))
  where
    by : (b : Bool) → b ≡ eqb i (suc k) → (i ≤ k → f k ≡ f i) → f (suc k) ≡ f i
    by true e r = ap f (sym (eqb-true i (suc k) (sym e)))
    by false e r = let n = eqb-false i (suc k) (sym e) in g k (omega (arith, n)) (omega arith) ∙ r (omega (arith, n))

-- the newest row by what a test's answers are
abbrev pub Passes : (ℕ → Bool) → ℕ → Bool → Type 0
Passes t j b = b ≡ t j

pub newest_by : {P : ℕ → Bool → Type 0} (t : ℕ → Bool) {k : ℕ} {r : Found ℕ} → ((j : ℕ) (b : Bool) → P j b → b ≡ t j) → Newest P k r → Newest (Passes t) k r
newest_by t f (found {i} h p n) = found h (f i true p) (λ j a b. f j false (n j a b))
newest_by t f (nowhere n) = nowhere (λ j a. f j false (n j a))

-- names are compared by their first rows
module _ (s xs : List ℕ) (k : ℕ) (g : Sound s xs k) where
  names_firsts : (i j : ℕ) → i < k → j < k → eq_list (name_at s xs i) (name_at s xs j) ≡ eqb (first xs i) (first xs j)
  names_firsts i j h l = bool_iff (eq_list (name_at s xs i) (name_at s xs j)) (eqb (first xs i) (first xs j))
      (λ t. eq-eqb (first xs i) (first xs j) (g.one i j h l (eq_same (name_at s xs i) (name_at s xs j) t)))
      (λ t. same_eq (name_at s xs i) (name_at s xs j) (sym (g.same i h) ∙ ap (name_at s xs) (eqb-true (first xs i) (first xs j) t) ∙ g.same j l))

  plain_name : (i : ℕ) → i < k → is_hash (name_at s xs i) ≡ false
  unfolding name_at
  plain_name i h = (g.named i h).plain

  hash_in : (f p : ℕ) → p ≤ f → p ≤ k → is_in (bytes "#") (chain f s xs p) ≡ true
  unfolding is_in bytes
  hash_in zero zero h l = rw (chain_end 0 s xs)
  hash_in zero (suc p) h l = absurd (omega arith)
  hash_in (suc f) zero h l = rw (chain_end (suc f) s xs)
  hash_in (suc f) (suc p) h l =
      let o = g.linked.older p (omega arith) in
      rw (chain_cons f s xs p) (or (eq_list (bytes "#") (name_at s xs p)) (is_in (bytes "#") (chain f s xs (scope xs p))) (hash_in f (scope xs p) (omega (arith, o)) (omega (arith, o))))

  in_among : (i : ℕ) → i < k → (f p : ℕ) → p ≤ f → p ≤ k → is_in (name_at s xs i) (chain f s xs p) ≡ among (first xs i) (firsts f xs p)
  unfolding is_in among
  in_among i b zero zero h l = rw (chain_end 0 s xs, firsts_end 0 xs) (rw (plain_name i b, is_in))
  in_among i b zero (suc p) h l = absurd (omega arith)
  in_among i b (suc f) zero h l = rw (chain_end (suc f) s xs, firsts_end (suc f) xs) (rw (plain_name i b, is_in))
  in_among i b (suc f) (suc p) h l =
      let o = g.linked.older p (omega arith) in
      rw (chain_cons f s xs p, firsts_cons f xs p)
      (ap (λ (t : Bool). elim t [ true ↦ true | false ↦ is_in (name_at s xs i) (chain f s xs (scope xs p)) ]) (names_firsts i p b (omega arith))
      ∙ ap (λ (t : Bool). elim (eqb (first xs i) (first xs p)) [ true ↦ true | false ↦ t ]) (in_among i b f (scope xs p) (omega (arith, o)) (omega (arith, o))))

  all_among_lem : (p : ℕ) → p ≤ k → (f q : ℕ) → q ≤ f → q ≤ k → all_in (chain f s xs q) (chain max_rows s xs p) ≡ all_among (firsts f xs q) (firsts max_rows xs p)
  unfolding all_in all_among
  all_among_lem p j zero zero h l = rw (chain_end 0 s xs, firsts_end 0 xs) (rw (hash_in max_rows p (omega (arith, g.linked.most)) j, all_in))
  all_among_lem p j zero (suc q) h l = absurd (omega arith)
  all_among_lem p j (suc f) zero h l = rw (chain_end (suc f) s xs, firsts_end (suc f) xs) (rw (hash_in max_rows p (omega (arith, g.linked.most)) j, all_in))
  all_among_lem p j (suc f) (suc q) h l =
      let o = g.linked.older q (omega arith) in
      rw (chain_cons f s xs q, firsts_cons f xs q)
      (ap (λ (t : Bool). elim t [ true ↦ all_in (chain f s xs (scope xs q)) (chain max_rows s xs p) | false ↦ false ]) (in_among q (omega arith) max_rows p (omega (arith, g.linked.most)) j)
      ∙ ap (λ (t : Bool). elim (among (first xs q) (firsts max_rows xs p)) [ true ↦ t | false ↦ false ]) (all_among_lem p j f (scope xs q) (omega (arith, o)) (omega (arith, o))))

  -- what the table shows is the rule
  pub sees : (p q : ℕ) → Seen xs k p → q ≤ k → is_open xs q ≡ all_in (scope_at s xs q) (scope_at s xs p)
  unfolding scope_at
  sees p q w h = w.shows q h ∙ sym (all_among_lem p w.known max_rows q (omega (arith, g.linked.most)) h)

  row_scoped : (i : ℕ) → i < k → Scoped xs k (scope xs i)
  row_scoped i h = record { known = omega (arith, g.linked.older i h); owner = g.owned i h }

  hash_not : (i : ℕ) → i < k → eq_list (bytes "#") (name_at s xs i) ≡ true → ⊥
  hash_not i h t =
      let z : is_hash (name_at s xs i) ≡ true = same_eq (name_at s xs i) (bytes "#") (sym (eq_same (bytes "#") (name_at s xs i) t)) in
      let y = plain_name i h in
      let o : ◌≡◌ {A = Bool} true false = sym z ∙ y in
      let x : ◌≡◌ {A = ℕ} 0 1 = cc in omega arith

  heads : (a b : List ℕ) (l m : Scope) → same_scope (a ∷ l) (b ∷ m) ≡ true → (eq_list a b ≡ true) × (same_scope l m ≡ true)
  unfolding same_scope
  heads a b l m h = parts (eq_list a b) (same_scope l m) h
    where
      parts : (x y : Bool) → elim x [ true ↦ y | false ↦ false ] ≡ true → (x ≡ true) × (y ≡ true)
      parts true y h = (refl, h)
      parts false y h = absurd (let z : ◌≡◌ {A = ℕ} 0 1 = cc in omega arith)

  scopes_not : (f e p : ℕ) → suc p ≤ e → suc p ≤ k → same_scope (chain f s xs 0) (chain e s xs (suc p)) ≡ true → ⊥
  scopes_not f e p h l t = hash_not p (omega arith) (heads (bytes "#") (name_at s xs p) [] (chain (e - 1) s xs (scope xs p)) (rw (chain_end f s xs, chain_step e s xs p h) at t)).0

  not_scopes : (f e q : ℕ) → suc q ≤ f → suc q ≤ k → same_scope (chain f s xs (suc q)) (chain e s xs 0) ≡ true → ⊥
  not_scopes f e q h l t =
      let z : is_hash (name_at s xs q) ≡ true = (heads (name_at s xs q) (bytes "#") (chain (f - 1) s xs (scope xs q)) [] (rw (chain_step f s xs q h, chain_end e s xs) at t)).0 in
      let y = plain_name q (omega arith) in
      let o : ◌≡◌ {A = Bool} true false = sym z ∙ y in
      let x : ◌≡◌ {A = ℕ} 0 1 = cc in omega arith

  owner_is : (q : ℕ) → Scoped xs k (suc q) → kind_of (kind xs q) ≡ procedure
  owner_is q u = let e : suc q - 1 ≡ q = omega arith in rw e at (u.owner (λ z. omega arith))

  -- scope lists that are the same are of one procedure
  lists_same : (f q e p : ℕ) → q ≤ f → p ≤ e → Scoped xs k q → Scoped xs k p → same_scope (chain f s xs q) (chain e s xs p) ≡ true → q ≡ p
  lists_same zero zero e zero h l u v t = refl
  lists_same zero zero e (suc p) h l u v t = absurd (scopes_not 0 e p l v.known t)
  lists_same zero (suc q) e p h l u v t = absurd (omega arith)
  lists_same (suc f) zero e zero h l u v t = refl
  lists_same (suc f) zero e (suc p) h l u v t = absurd (scopes_not (suc f) e p l v.known t)
  lists_same (suc f) (suc q) e zero h l u v t = absurd (not_scopes (suc f) e q h u.known t)
  lists_same (suc f) (suc q) e (suc p) h l u v t =
      let a = u.known in
      let b = v.known in
      let o₁ = g.linked.older q (omega arith) in
      let o₂ = g.linked.older p (omega arith) in
      let w = heads (name_at s xs q) (name_at s xs p) (chain f s xs (scope xs q)) (chain (e - 1) s xs (scope xs p)) (rw (chain_cons f s xs q, chain_step e s xs p l) at t) in
      let r = lists_same f (scope xs q) (e - 1) (scope xs p) (omega (arith, o₁)) (omega (arith, o₂)) (row_scoped q (omega arith)) (row_scoped p (omega arith)) w.1 in
      ap suc (g.alone q p (omega arith) (omega arith) (owner_is q u) (owner_is p v) r (eq_same (name_at s xs q) (name_at s xs p) w.0))

  -- the same-scope test by numbers
  pub same_scopes : (q p : ℕ) → Scoped xs k q → Scoped xs k p → eqb q p ≡ same_scope (scope_at s xs q) (scope_at s xs p)
  unfolding scope_at
  same_scopes q p u v = bool_iff (eqb q p) (same_scope (chain max_rows s xs q) (chain max_rows s xs p))
      (λ t. rw (eqb-true q p t) (list_itself (chain max_rows s xs p)))
      (λ t. eq-eqb q p (lists_same max_rows q max_rows p (omega (arith, g.linked.most, u.known)) (omega (arith, g.linked.most, v.known)) u v t))

  module _ (w : List ℕ) where
    abbrev pub seen_at : ℕ → Bool
    seen_at j = eq_list (name_at s xs j) w && is_open xs (scope xs j)

    find_step : (p : ℕ) → Seen xs k p → (j : ℕ) → j < k → find (rows_in s xs (suc j)) w (scope_at s xs p) ≡ elim (seen_at j) [ true ↦ some (row_at s xs j) | false ↦ find (rows_in s xs j) w (scope_at s xs p) ]
    unfolding find rows_in row_at
    find_step p v j h =
        let o = g.linked.older j h in
        find_more w (scope_at s xs p) (rows_in s xs j) (row_at s xs j) none
        ∙ ap (λ (t : Bool). elim (eq_list (name_at s xs j) w && t) [ true ↦ some (row_at s xs j) | false ↦ find (rows_in s xs j) w (scope_at s xs p) ]) (sym (sees p (scope xs j) v (omega (arith, o))))

    find_skip : (p : ℕ) → Seen xs k p → (i : ℕ) → i ≤ k → ((j : ℕ) → i ≤ j → j < k → false ≡ seen_at j) → find (rows_in s xs k) w (scope_at s xs p) ≡ find (rows_in s xs i) w (scope_at s xs p)
    find_skip p v i h f = back (λ m. find (rows_in s xs m) w (scope_at s xs p)) k i h (λ j a b. find_step p v j b ∙ rw (← f j a b))

    pub search_found : {r : Found ℕ} → Newest (Passes seen_at) k r → (p : ℕ) → Seen xs k p → Finds s xs k r (find (rows_in s xs k) w (scope_at s xs p))
    unfolding Finds rows_in find find_in
    search_found (found {i} h t n) p v = record { below = h; is = find_skip p v (suc i) h (λ j a b. n j a b) ∙ find_step p v i h ∙ rw (← t) }
    search_found (nowhere n) p v = find_skip p v 0 (omega arith) (λ j a b. n j b)

    module _ (p : ℕ) (v : Scoped xs k p) where
      abbrev pub beside_at : ℕ → Bool
      beside_at j = eq_list (name_at s xs j) w && eqb (scope xs j) p

      declared_step : (j : ℕ) → j < k → declared (rows_in s xs (suc j)) w (scope_at s xs p) ≡ elim (beside_at j) [ true ↦ true | false ↦ declared (rows_in s xs j) w (scope_at s xs p) ]
      unfolding rows_in row_at
      declared_step j h =
          declared_more w (scope_at s xs p) (rows_in s xs j) (row_at s xs j)
          ∙ ap (λ (t : Bool). elim (eq_list (name_at s xs j) w && t) [ true ↦ true | false ↦ declared (rows_in s xs j) w (scope_at s xs p) ]) (sym (same_scopes (scope xs j) p (row_scoped j h) v))

      declared_skip : (i : ℕ) → i ≤ k → ((j : ℕ) → i ≤ j → j < k → false ≡ beside_at j) → declared (rows_in s xs k) w (scope_at s xs p) ≡ declared (rows_in s xs i) w (scope_at s xs p)
      declared_skip i h f = back (λ m. declared (rows_in s xs m) w (scope_at s xs p)) k i h (λ j a b. declared_step j b ∙ rw (← f j a b))

      pub look_found : {r : Found ℕ} → Newest (Passes beside_at) k r → is_some r ≡ declared (rows_in s xs k) w (scope_at s xs p)
      unfolding rows_in declared
      look_found (found {i} h t n) = sym (declared_skip (suc i) h (λ j a b. n j a b) ∙ declared_step i h ∙ rw (← t))
      look_found (nowhere n) = sym (declared_skip 0 (omega arith) (λ j a b. n j b))

    abbrev pub named_at : ℕ → Bool
    named_at j = eq_list (name_at s xs j) w

    pub first_known : (i : ℕ) → Newest (Passes named_at) k (Some i) → FirstOf s xs k w (first xs i)
    first_known i (found h t n) = known i refl h (sym t)

    pub first_new : Newest (Passes named_at) k None → FirstOf s xs k w k
    first_new (nowhere n) = new refl (λ j h. sym (n j h))

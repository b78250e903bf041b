-- Laws of declarations: a row by its numbers, and a loop over a list that declares each member.
use mathlib.Core.Path.{◌≡◌, refl, sym, ap, ◌∙◌}
use mathlib.Core.Bool.{Bool, true, false}
use mathlib.Core.List.{List, [], ◌∷◌, ◌++◌}
use Prim.Native.Nat.{ℕ, suc, ◌+◌, ◌*◌, ◌≤◌, ◌<◌}
use native.Mathlib.Omega.{arith}
use native.Mathlib.Numerals.{add-one}
use lib.Dec.{ltb}
use lib.ListN.{length, get_or, take, drop, length-append}
use lib.Seq.{get_or-drop, get_or-take}
use Rattle.std.specs.Prelude.{Result, Ok, Err}
use Rattle.numbers.specs.Limits.{row_share, max_rows}
use Rattle.numbers.specs.declared.refusal.Refusal.{Refusal}
use Rattle.numbers.specs.Refusals.{number_of}
use Rattle.numbers.specs.Panel.{name_taken, too_many_rows}
use Rattle.numbers.specs.Bytes.{is_letter}
use Rattle.numbers.specs.Stack.{links}
use Rattle.lexer.specs.Tokens.{Name}
use Rattle.tree.specs.Tree.{Const}
use Rattle.tree.specs.Layout.{Node, constant_kind, list_kind, procedure_kind, half, literal, no_more, member, count, size, enc, encs, Stands}
use Rattle.tree.specs.Nodes.{list_nodes, name_node, const_node, names_node}
use Rattle.tree.specs.Named.{NameIn, Each, NamedConst}
use Rattle.tree.specs.Reading.{After, word_at, literal_at, branch_at, two_at}
use Rattle.tree.specs.Standing.{NameAt, HasName}
use Rattle.tree.specs.Parts.{name_first, list_count}
use Rattle.symbols.specs.declared.Kind.{Kind as CodeKind}
use Rattle.symbols.specs.declared.Kind.TheVariants.{Variable}
use Rattle.symbols.specs.declared.Symbol.{Symbol}
use Rattle.symbols.specs.Symbols.{procedure, Row, Rows, rows, refuse_rows, Scope, and_rows, one_more, fresh, declared, const_row, var_row, proc_row, const_rows, var_rows, arg_rows}
use Rattle.symbols.specs.Table.{part, kind_for, rows_in, scope_at, row_of, Named, Sound, Scoped, Kept, Grown, Adds, Declares}
use Rattle.symbols.specs.Chains.{scope_kept}
use Rattle.symbols.specs.Kept.{rows_length, scoped_kept, scoped_new, kept_on, letter_named}
use Rattle.symbols.specs.ByNumbers.{name_is}
use Rattle.translator.specs.declared.declarations.Frame.{Frame}
use Rattle.translator.specs.Rows.{Can, Rowed, Declared, rowed, unrowed, add_name, name_rows, constant_of, variable_of, procedure_of, ConstAt, ListAt, HeadingAt, HasHeading, head_rows, Headed, headed, unheaded}

letters : (w : List ℕ) → is_letter (get_or w 0 0) ≡ true → 1 ≤ length w
unfolding is_letter
letters [] l = let z : ◌≡◌ {A = ℕ} 0 1 = cc in absurd (omega arith)
letters (x ∷ w) l = omega arith

first_byte : (s : List ℕ) (a n : ℕ) (w : List ℕ) → 1 ≤ n → take n (drop a s) ≡ w → get_or s a 0 ≡ get_or w 0 0
first_byte s a n w h e =
    let z : a + 0 ≡ a = omega arith in
    ap (λ (x : ℕ). get_or s x 0) (sym z) ∙ sym (get_or-drop a s 0 0) ∙ sym (get_or-take n (drop a s) 0 0 h) ∙ ap (λ (l : List ℕ). get_or l 0 0) e

-- a name of the tree is one that may be declared
pub declarable : (s : List ℕ) (m : Name) (a n : ℕ) → a ≡ m.at → n ≡ length m.text → NameIn s m → Named s a n
declarable s m a n ea en h =
    letter_named s a n (omega (arith, h.fits))
    (ap is_letter (ap (λ (x : ℕ). get_or s x 0) ea ∙ first_byte s m.at (length m.text) m.text (letters m.text h.letter) h.is) ∙ h.letter)

-- what the table answers
answered : {o : Rows} {s xs : List ℕ} {k : ℕ} (y : Symbol) {ys : List ℕ} (r : Result ℕ Refusal) → Adds o s xs k y ys r → Declared o s xs k ys r
unfolding Adds
answered y (Ok m) w = rowed {m = m} (record { is = w.is; sound = w.sound; above = omega (arith, w.one); kept = w.kept })
answered y (Err e) w = unrowed {e = e} w

-- a constant by its numbers
pub record ConstNumbers (s tr : List ℕ) (i : ℕ) (c : Const) : Type 0 where
  pub value : get_or tr (i + 10) 0 + half * get_or tr (i + 11) 0 ≡ c.value
  pub fits : i + 12 ≤ length tr
  pub named : Named s (get_or tr (i + 6) 0) (get_or tr (i + 7) 0)
  pub text_is : part s (get_or tr (i + 6) 0) (get_or tr (i + 7) 0) ≡ c.id.text

pub const_numbers : {s tr : List ℕ} {i : ℕ} {c : Const} → ConstAt s tr i c → ConstNumbers s tr i c
const_numbers {s} {tr} {i} {c} a =
    let f = name_first tr i constant_kind c.id (member (literal 0 c.value) no_more) a.stands in
    let w = two_at tr (i + 8) (literal 0 c.value) no_more f.others in
    let v = literal_at tr (i + 8) 0 c.value w.one in
    let e₁₀ : i + 8 + 2 ≡ i + 10 = omega arith in
    let e₁₁ : i + 8 + 3 ≡ i + 11 = omega arith in
    let v₁₀ = rw e₁₀ at v.at2 in
    let v₁₁ = rw e₁₁ at v.at3 in
    record {
      value = omega (arith, v₁₀, v₁₁);
      fits = omega (arith, w.fits, w.least);
      named = declarable s c.id (get_or tr (i + 6) 0) (get_or tr (i + 7) 0) f.at6 f.at7 a.named.0;
      text_is = name_is {s = s} {n = c.id} (get_or tr (i + 6) 0) (get_or tr (i + 7) 0) f.at6 f.at7 a.named.0;
    }

-- a name that the tree declares lies in the text
pub const_declares : {s tr xs : List ℕ} {i k : ℕ} {f : Frame} {y : Symbol} {c : Const} → y ≡ constant_of tr i f → Sound s xs k → Scoped xs k f.scope → ConstAt s tr i c → Declares s xs k y
const_declares e g h a = rw e (record { sound = g; named = (const_numbers a).named; scoped = h })

pub var_declares : {s tr xs : List ℕ} {i k : ℕ} {f : Frame} {y : Symbol} → y ≡ variable_of tr i f → Can s xs k f → HasName s tr i → Declares s xs k y
var_declares {s} {tr} {xs} {i} {k} {f} {y} e g h =
    let m = h.name in
    let w = word_at tr i 0 m.at (length m.text) h.at.stands in
    rw e (record { sound = g.sound; named = declarable s m (get_or tr (i + 2) 0) (get_or tr (i + 3) 0) w.at2 w.at3 h.at.named; scoped = g.scoped })

-- the row that the numbers say is the constant's
pub const_row_lem : {s tr xs ys : List ℕ} {i k : ℕ} {f : Frame} {y : Symbol} (r : Result ℕ Refusal) (rs : List Row) → y ≡ constant_of tr i f
    → Adds (fresh rs (row_of s xs y)) s xs k y ys r → (c : Const) → ConstAt s tr i c → Declared (fresh rs (const_row c f.level f.address (scope_at s xs f.scope))) s xs k ys r
unfolding row_of
const_row_lem {s} {tr} {xs} {ys} {i} {k} {f} {y} r rs e h c a =
    let n = const_numbers a in
    rw (← n.text_is, ← n.value) (rw e at (answered y r h))

-- a variable or an argument
pub name_row : {s tr xs ys : List ℕ} {i k : ℕ} {f : Frame} {y : Symbol} (r : Result ℕ Refusal) (rs : List Row) {b c : Bool} → b ≡ c → y ≡ variable_of tr i f
    → Adds (add_name c rs (row_of s xs y)) s xs k y ys r → (m : Name) → NameAt s tr i m → Declared (add_name b rs (var_row m f.level f.address (scope_at s xs f.scope))) s xs k ys r
unfolding row_of
name_row {s} {tr} {xs} {ys} {i} {k} {f} {y} r rs q e h m a =
    let w = word_at tr i 0 m.at (length m.text) a.stands in
    rw (q, ← name_is {s = s} {n = m} (get_or tr (i + 2) 0) (get_or tr (i + 3) 0) w.at2 w.at3 a.named) (rw e at (answered y r h))

-- a variable is no procedure
pub no_procedure : {A : Type 0} (k : CodeKind) → k ≡ Variable → kind_for k ≡ procedure → A
no_procedure k e h = let q = rw e at h in let z : ◌≡◌ {A = ℕ} 0 1 = cc in absurd (omega arith)

-- a list, member by member: each by `add`, at the address a, a step further on for the next
unfoldable pub each_rows : {A : Type 0} → (List Row → ℕ → A → Rows) → (ℕ → ℕ) → List Row → ℕ → List A → Rows
each_rows add step rs a [] = rows rs
each_rows add step rs a (x ∷ l) = and_rows (add rs a x) λ r. each_rows add step r (step a) l

and_same : (x : Rows) (f g : List Row → Rows) → ((rs : List Row) → f rs ≡ g rs) → and_rows x f ≡ and_rows x g
and_same (rows rs) f g h = h rs
and_same (refuse_rows e) f g h = refl

abbrev pub add_const : ℕ → Scope → List Row → ℕ → Const → Rows
add_const l sc rs a c = fresh rs (const_row c l a sc)

abbrev pub add_var : Bool → ℕ → Scope → List Row → ℕ → Name → Rows
add_var b l sc rs a m = add_name b rs (var_row m l a sc)

pub const_each : (rs : List Row) (l a : ℕ) (sc : Scope) (cs : List Const) → const_rows rs l a sc cs ≡ each_rows (add_const l sc) (λ x. x) rs a cs
unfolding const_rows each_rows
const_each rs l a sc [] = refl
const_each rs l a sc (c ∷ cs) = and_same (fresh rs (const_row c l a sc)) _ _ λ r. const_each r l a sc cs

pub names_each : (b : Bool) (rs : List Row) (l a : ℕ) (sc : Scope) (ns : List Name) → name_rows b rs l a sc ns ≡ each_rows (add_var b l sc) (λ x. x + 1) rs a ns
unfolding var_rows arg_rows each_rows
names_each true rs l a sc [] = refl
names_each false rs l a sc [] = refl
names_each true rs l a sc (n ∷ ns) = and_same (fresh rs (var_row n l a sc)) _ _ λ r. ap (λ (x : ℕ). var_rows r l x sc ns) (sym (add-one a)) ∙ names_each true r l (a + 1) sc ns
names_each false rs l a sc (n ∷ ns) = and_same (one_more rs (var_row n l a sc)) _ _ λ r. ap (λ (x : ℕ). arg_rows r l x sc ns) (sym (add-one a)) ∙ names_each false r l (a + 1) sc ns

-- the table xs of k rows has grown to ys of m rows, and the scope p is what it was
pub record Grows (s xs : List ℕ) (k p : ℕ) (ys : List ℕ) (m : ℕ) : Type 0 where
  pub sound : Sound s ys m
  pub above : k ≤ m
  pub kept : Kept row_share k xs ys
  pub scoped : Scoped ys m p
  pub scope_is : scope_at s ys p ≡ scope_at s xs p

pub grows_start : {s xs : List ℕ} {k : ℕ} {f : Frame} → Can s xs k f → Grows s xs k f.scope xs k
grows_start g = record { sound = g.sound; above = omega arith; kept = record { lasts = refl; at = λ i f h l. refl }; scoped = g.scoped; scope_is = refl }

pub grows_more : {o : Rows} {s xs ys zs : List ℕ} {k p u m : ℕ} → Grows s xs k p ys u → Rowed o s ys u zs m → Grows s xs k p zs m
grows_more {o} {s} {xs} {ys} {zs} {k} {p} {u} {m} g w = record {
  sound = w.sound;
  above = omega (arith, g.above, w.above);
  kept = kept_on row_share k row_share row_share u xs ys zs (omega arith) (omega arith) g.above g.kept w.kept;
  scoped = scoped_kept row_share u m ys zs p (omega arith) w.above w.kept g.scoped;
  scope_is = scope_kept row_share u s ys zs (omega arith) g.sound.linked w.kept p g.scoped.known ∙ g.scope_is;
}

pub rowed_at : {o : Rows} {s xs ys : List ℕ} {k m : ℕ} → Declared o s xs k ys (Ok m) → Rowed o s xs k ys m
rowed_at (rowed w) = w

pub row_refusal : {o o' : Rows} {s xs ys xs' ys' : List ℕ} {k k' : ℕ} {e : Refusal} → ((n : ℕ) → o ≡ refuse_rows n → o' ≡ refuse_rows n) → Declared o s xs k ys (Err e) → Declared o' s xs' k' ys' (Err e)
row_refusal {e} g (unrowed h) = unrowed (g (number_of e) h)

pub same_rows : {o o' : Rows} {s xs ys : List ℕ} {k : ℕ} {r : Result ℕ Refusal} → o ≡ o' → Declared o' s xs k ys r → Declared o s xs k ys r
same_rows e h = rw e h

-- the four numbers of a list's node are there
pub list_fits : {A : Type 0} {node : A → Node} {P : A → Type 0} {tr : List ℕ} {i : ℕ} {l : List A} → ListAt node P tr i l → i + 4 ≤ length tr
list_fits {A} {node} {P} {tr} {i} {l} a = omega (arith, (branch_at tr i list_kind 0 (list_nodes node l) a.stands).fits)

-- how far a loop over a list has come
pub record Rowing {A : Type 0} (node : A → Node) (P : A → Type 0) (tr : List ℕ) (add : List Row → ℕ → A → Rows) (step : ℕ → ℕ) (N i : ℕ) (rs₀ : List Row) (a₀ : ℕ) (l : List A) (k j a : ℕ) (rs : List Row) : Type 0 where
  pub rest : List A
  pub counted : k + count (list_nodes node rest) ≡ N
  pub stands : Stands tr j (encs (list_nodes node rest))
  pub named : Each P rest
  pub so : each_rows add step rs₀ a₀ l ≡ each_rows add step rs a rest
  pub beyond : i < j

module _ {A : Type 0} (node : A → Node) (P : A → Type 0) (tr : List ℕ) (add : List Row → ℕ → A → Rows) (step : ℕ → ℕ) (N i : ℕ) (rs₀ : List Row) (a₀ : ℕ) where
  abbrev pub RowLoop : ℕ → ℕ → ℕ → List Row → Type 0
  RowLoop k j a rs = (l : List A) → ListAt node P tr i l → Rowing node P tr add step N i rs₀ a₀ l k j a rs

  pub rows_start : N ≡ get_or tr (i + 2) 0 → RowLoop 0 (i + 4) a₀ rs₀
  rows_start e l x = let f = branch_at tr i list_kind 0 (list_nodes node l) x.stands in record { rest = l; counted = omega (arith, f.at2); stands = f.members; named = x.named; so = refl; beyond = omega arith }

  -- the members that are left: none, or one and others
  pub record Next (j a : ℕ) (rs : List Row) (k : ℕ) (l : List A) : Type 0 where
    pub head : A
    pub tail : List A
    pub stands : Stands tr j (enc (node head))
    pub others : Stands tr (j + size (node head)) (encs (list_nodes node tail))
    pub named : P head
    pub tail_named : Each P tail
    pub counted : k + 1 + count (list_nodes node tail) ≡ N
    pub so : each_rows add step rs₀ a₀ l ≡ and_rows (add rs a head) λ r. each_rows add step r (step a) tail
    pub fits : j + 4 ≤ length tr
    pub beyond : i < j

  rows_next : {j a : ℕ} {rs : List Row} {k : ℕ} {l : List A} → k < N → Rowing node P tr add step N i rs₀ a₀ l k j a rs → Next j a rs k l
  unfolding each_rows list_nodes count Each
  rows_next {j} {a} {rs} {k} {l} h w = of w.rest w.counted w.stands w.named w.so
    where
      of : (t : List A) → k + count (list_nodes node t) ≡ N → Stands tr j (encs (list_nodes node t)) → Each P t → each_rows add step rs₀ a₀ l ≡ each_rows add step rs a t → Next j a rs k l
      of [] c st nm so = absurd (omega (arith, c))
      of (x ∷ t) c st nm so =
          let v = two_at tr j (node x) (list_nodes node t) st in
          record { head = x; tail = t; stands = v.one; others = v.others; named = nm.0; tail_named = nm.1; counted = omega (arith, c); so = so; fits = omega (arith, v.fits, v.least); beyond = w.beyond }

  rows_none : {j a : ℕ} {rs : List Row} {k : ℕ} {l : List A} → N ≤ k → Rowing node P tr add step N i rs₀ a₀ l k j a rs → each_rows add step rs₀ a₀ l ≡ rows rs
  unfolding each_rows list_nodes count
  rows_none {j} {a} {rs} {k} {l} h w = of w.rest w.counted w.so
    where
      of : (t : List A) → k + count (list_nodes node t) ≡ N → each_rows add step rs₀ a₀ l ≡ each_rows add step rs a t → each_rows add step rs₀ a₀ l ≡ rows rs
      of [] c so = so
      of (x ∷ t) c so = absurd (omega (arith, c))

  module _ {k j a : ℕ} {rs : List Row} (inv : RowLoop k j a rs) where
    pub rows_head : k < N → (l : List A) → ListAt node P tr i l → Next j a rs k l
    rows_head h l x = rows_next h (inv l x)

    pub rows_done : {s xs ys : List ℕ} {p u m : ℕ} → N ≤ k → rs ≡ rows_in s ys m → Grows s xs u p ys m → (l : List A) → ListAt node P tr i l → Declared (each_rows add step rs₀ a₀ l) s xs u ys (Ok m)
    rows_done {m} h e g l x = rowed {m = m} (record { is = rows_none h (inv l x) ∙ ap rows e; sound = g.sound; above = g.above; kept = g.kept })

    module _ (h : k < N) {s ys zs : List ℕ} {u : ℕ} where
      pub rows_stop : {e : Refusal} → ((x : A) → Stands tr j (enc (node x)) → P x → Declared (add rs a x) s ys u zs (Err e)) → {xs : List ℕ} {v : ℕ} (zs' : List ℕ) (l : List A) → ListAt node P tr i l → Declared (each_rows add step rs₀ a₀ l) s xs v zs' (Err e)
      rows_stop ens zs' l x = let n = rows_next h (inv l x) in row_refusal (λ e q. n.so ∙ ap (λ (o : Rows). and_rows o λ t. each_rows add step t (step a) n.tail) q) (ens n.head n.stands n.named)

      pub rows_more : {m j' : ℕ} → ((x : A) → Stands tr j (enc (node x)) → P x → Declared (add rs a x) s ys u zs (Ok m)) → After tr j j' → RowLoop (k + 1) j' (step a) (rows_in s zs m)
      rows_more ens f l x =
          let n = rows_next h (inv l x) in
          let w = rowed_at (ens n.head n.stands n.named) in
          let je = f (node n.head) n.stands in
          record {
            rest = n.tail;
            counted = n.counted;
            stands = rw je n.others;
            named = n.tail_named;
            so = n.so ∙ ap (λ (o : Rows). and_rows o λ t. each_rows add step t (step a) n.tail) w.is;
            beyond = omega (arith, n.beyond);
          }

-- as many rows more as the list is long

one_length : (q : List Row) (r : Row) (t : List Row) (b : Bool) → ◌≡◌ {A = Rows} (elim b [ true ↦ rows (q ++ (r ∷ [])) | false ↦ refuse_rows too_many_rows ]) (rows t) → length t ≡ length q + 1
one_length q r t true e = let z : t ≡ q ++ (r ∷ []) = cc in rw z (length-append q (r ∷ []))
one_length q r t false e = let z : ◌≡◌ {A = ℕ} 0 1 = cc in absurd (omega arith)

more_length : (q : List Row) (r : Row) (t : List Row) → one_more q r ≡ rows t → length t ≡ length q + 1
unfolding one_more
more_length q r t e = one_length q r t (ltb (length q) max_rows) e

fresh_length : (q : List Row) (r : Row) (t : List Row) → fresh q r ≡ rows t → length t ≡ length q + 1
unfolding fresh
fresh_length q r t e = of (declared q r.name r.scope) e
  where
    of : (b : Bool) → ◌≡◌ {A = Rows} (elim b [ true ↦ refuse_rows name_taken | false ↦ one_more q r ]) (rows t) → length t ≡ length q + 1
    of true e = let z : ◌≡◌ {A = ℕ} 0 1 = cc in absurd (omega arith)
    of false e = more_length q r t e

name_length : (b : Bool) (q : List Row) (r : Row) (t : List Row) → add_name b q r ≡ rows t → length t ≡ length q + 1
name_length true q r t e = fresh_length q r t e
name_length false q r t e = more_length q r t e

pub name_one : {s ys zs : List ℕ} {u m : ℕ} (b : Bool) (r : Row) → Rowed (add_name b (rows_in s ys u) r) s ys u zs m → m ≡ u + 1
name_one {s} {ys} {zs} {u} {m} b r w = omega (arith, name_length b (rows_in s ys u) r (rows_in s zs m) w.is, rows_length s ys u, rows_length s zs m)

-- what was declared first, where all was
pub and_inv : (x : Rows) (f : List Row → Rows) (t : List Row) → and_rows x f ≡ rows t → (q : List Row) × (x ≡ rows q) × (f q ≡ rows t)
and_inv (rows q) f t e = (q, refl, e)
and_inv (refuse_rows n) f t e = let z : ◌≡◌ {A = ℕ} 0 1 = cc in absurd (omega arith)

each_length : {A : Type 0} (add : List Row → ℕ → A → Rows) (step : ℕ → ℕ) → ((q : List Row) (a : ℕ) (x : A) (t : List Row) → add q a x ≡ rows t → length t ≡ length q + 1)
    → (q : List Row) (a : ℕ) (l : List A) (t : List Row) → each_rows add step q a l ≡ rows t → length t ≡ length q + length l
unfolding each_rows
each_length add step h q a [] t e = let z : t ≡ q = cc in rw z (omega arith)
each_length add step h q a (x ∷ l) t e =
    let w = and_inv (add q a x) (λ r. each_rows add step r (step a) l) t e in
    omega (arith, h q a x w.0 w.1, each_length add step h w.0 (step a) l t w.2)

pub names_length : (b : Bool) (q : List Row) (l a : ℕ) (sc : Scope) (ns : List Name) (t : List Row) → name_rows b q l a sc ns ≡ rows t → length t ≡ length q + length ns
names_length b q l a sc ns t e = each_length (add_var b l sc) (λ x. x + 1) (λ q a x t h. name_length b q (var_row x l a sc) t h) q a ns t (sym (names_each b q l a sc ns) ∙ e)

-- a procedure by its numbers
pub record HeadNumbers (s tr : List ℕ) (i : ℕ) (m : Name) (ar : List Name) : Type 0 where
  pub fits : i + 12 ≤ length tr
  pub named : Named s (get_or tr (i + 6) 0) (get_or tr (i + 7) 0)
  pub text_is : part s (get_or tr (i + 6) 0) (get_or tr (i + 7) 0) ≡ m.text
  pub size_is : get_or tr (i + 10) 0 ≡ length ar
  pub args_at : ListAt name_node (NameIn s) tr (i + 8) ar

pub head_numbers : {s tr : List ℕ} {i : ℕ} {m : Name} {ar : List Name} → HeadingAt s tr i m ar → HeadNumbers s tr i m ar
head_numbers {s} {tr} {i} {m} {ar} a =
    let f = name_first tr i procedure_kind m (member (names_node ar) a.others) a.stands in
    let w = two_at tr (i + 8) (names_node ar) a.others f.others in
    let b = branch_at tr (i + 8) list_kind 0 (list_nodes name_node ar) w.one in
    let e₁₀ : i + 8 + 2 ≡ i + 10 = omega arith in
    record {
      fits = omega (arith, w.fits, w.least);
      named = declarable s m (get_or tr (i + 6) 0) (get_or tr (i + 7) 0) f.at6 f.at7 a.named;
      text_is = name_is {s = s} {n = m} (get_or tr (i + 6) 0) (get_or tr (i + 7) 0) f.at6 f.at7 a.named;
      size_is = (rw e₁₀ at b.at2) ∙ list_count name_node ar;
      args_at = record { stands = w.one; named = a.args_named };
    }

proc_row_lem : {s tr : List ℕ} (xs : List ℕ) {i : ℕ} (f : Frame) {m : Name} {ar : List Name} → HeadingAt s tr i m ar → row_of s xs (procedure_of tr i f) ≡ proc_row m (length ar) f.level f.address (scope_at s xs f.scope)
unfolding row_of
proc_row_lem {s} {tr} xs {i} f {m} {ar} a = let n = head_numbers a in rw (n.text_is, n.size_is)

module _ (s tr xs ys : List ℕ) (i k : ℕ) (f : Frame) where
  abbrev proc : Symbol
  proc = procedure_of tr i f

  pub proc_declares : {y : Symbol} → y ≡ proc → Can s xs k f → HasHeading s tr i → Declares s xs k y
  proc_declares e g h = rw e (record { sound = g.sound; named = (head_numbers h.at).named; scoped = g.scoped })

  pub heading_stop : {y : Symbol} → y ≡ proc → {e : Refusal} → Adds (fresh (rows_in s xs k) (row_of s xs y)) s xs k y ys (Err e) → (zs : List ℕ) (m : Name) (ar : List Name) → HeadingAt s tr i m ar → Headed m ar s xs k f zs (Err e)
  unfolding head_rows Adds
  heading_stop q {e} h zs m ar a =
      unheaded {e = e} (ap (λ (o : Rows). and_rows o λ r1. arg_rows r1 (suc f.level) links (m.text ∷ scope_at s xs f.scope) ar) (ap (fresh (rows_in s xs k)) (sym (proc_row_lem xs f a)) ∙ (rw q at h)))

  module _ {y : Symbol} (q : y ≡ proc) {u : ℕ} (he : Adds (fresh (rows_in s xs k) (row_of s xs y)) s xs k y ys (Ok u)) where
    pub grown : Grown (fresh (rows_in s xs k) (row_of s xs proc)) s xs k proc ys u
    unfolding Adds
    grown = rw q at he

    pub inner_can : Can s ys u (record { scope = u; level = f.level + 1; address = 3 })
    inner_can = record { sound = grown.sound; scoped = scoped_new _ s xs k proc ys u refl grown; low = omega arith }

    pub heading_made : {zs : List ℕ} {r : Result ℕ Refusal} → ((l : List Name) → ListAt name_node (NameIn s) tr (i + 8) l → Declared (arg_rows (rows_in s ys u) (f.level + 1) 3 (scope_at s ys u) l) s ys u zs r)
        → (m : Name) (ar : List Name) → HeadingAt s tr i m ar → Headed m ar s xs k f zs r
    unfolding head_rows
    heading_made {zs} {r} h m ar a = of r (h ar (head_numbers a).args_at)
      where
        scope_new : scope_at s ys u ≡ m.text ∷ scope_at s xs f.scope
        scope_new = grown.new_scope ∙ ap (λ (w : List ℕ). w ∷ scope_at s xs f.scope) (head_numbers a).text_is

        first_is : head_rows (rows_in s xs k) m ar f.level f.address (scope_at s xs f.scope) ≡ arg_rows (rows_in s ys u) (f.level + 1) 3 (scope_at s ys u) ar
        first_is = ap (λ (o : Rows). and_rows o λ r1. arg_rows r1 (suc f.level) links (m.text ∷ scope_at s xs f.scope) ar) (ap (fresh (rows_in s xs k)) (sym (proc_row_lem xs f a)) ∙ grown.is)
            ∙ ap (λ (c : Scope). arg_rows (rows_in s ys u) (suc f.level) links c ar) (sym scope_new) ∙ ap (λ (l : ℕ). arg_rows (rows_in s ys u) l links (scope_at s ys u) ar) (sym (add-one f.level))

        of : (r : Result ℕ Refusal) → Declared (arg_rows (rows_in s ys u) (f.level + 1) 3 (scope_at s ys u) ar) s ys u zs r → Headed m ar s xs k f zs r
        of (Err e) (unrowed x) = unheaded {e = e} (first_is ∙ x)
        of (Ok n) (rowed w) =
            let e₁ : u ≡ k + 1 = grown.one in
            headed {n = n}
            (record {
              rowed = record { is = first_is ∙ w.is; sound = w.sound; above = omega (arith, w.above); kept = kept_on row_share k row_share row_share u xs ys zs (omega arith) (omega arith) (omega arith) grown.kept w.kept };
              inner = rw (← e₁) (scoped_kept row_share u n ys zs u (omega arith) w.above w.kept inner_can.scoped);
              inner_is = rw (← e₁) (scope_kept row_share u s ys zs (omega arith) grown.sound.linked w.kept u (omega arith) ∙ scope_new);
              more = omega (arith, names_length false (rows_in s ys u) (f.level + 1) 3 (scope_at s ys u) ar (rows_in s zs n) w.is, rows_length s ys u, rows_length s zs n);
            })

-- what a member's declaration gives, in the scope that the list started with
module _ {s tr xs ys zs : List ℕ} {j k p u : ℕ} {r : Result ℕ Refusal} (l a : ℕ) (g : Grows s xs k p ys u) where
  pub as_const : ((c : Const) → ConstAt s tr j c → Declared (fresh (rows_in s ys u) (const_row c l a (scope_at s ys p))) s ys u zs r)
      → (c : Const) → Stands tr j (enc (const_node c)) → NamedConst s c → Declared (add_const l (scope_at s xs p) (rows_in s ys u) a c) s ys u zs r
  as_const h c st nm = rw (← g.scope_is) (h c (record { stands = st; named = nm }))

  pub as_name : (b : Bool) → ((m : Name) → NameAt s tr j m → Declared (add_name b (rows_in s ys u) (var_row m l a (scope_at s ys p))) s ys u zs r)
      → (m : Name) → Stands tr j (enc (name_node m)) → NameIn s m → Declared (add_var b l (scope_at s xs p) (rows_in s ys u) a m) s ys u zs r
  as_name b h m st nm = rw (← g.scope_is) (h m (record { stands = st; named = nm }))

-- Laws of what is declared in a block: constants, variables, and then procedures.
use mathlib.Core.Path.{◌≡◌, refl, sym, ap, ◌∙◌}
use mathlib.Core.Bool.{true}
use mathlib.Core.List.{List}
use Prim.Native.Nat.{ℕ, ◌+◌, ◌≤◌}
use native.Mathlib.Omega.{arith}
use lib.ListN.{length, get_or}
use Rattle.std.specs.Prelude.{Result, Ok, Err}
use Rattle.numbers.specs.Limits.{row_share}
use Rattle.numbers.specs.declared.refusal.Refusal.{Refusal}
use Rattle.numbers.specs.Stack.{links}
use Rattle.lexer.specs.Tokens.{Name}
use Rattle.tree.specs.Tree.{Const, Procs}
use Rattle.tree.specs.Layout.{Node, Nodes, list_kind, member}
use Rattle.tree.specs.Nodes.{list_nodes, name_node, consts_node, names_node, procs_node}
use Rattle.tree.specs.Reading.{Two, two_at, next_at, branch_at, After}
use Rattle.tree.specs.Parts.{list_count}
use Rattle.symbols.specs.Symbols.{Scope, Row, Rows, const_rows, var_rows}
use Rattle.symbols.specs.Table.{rows_in, scope_at, Kept}
use Rattle.symbols.specs.Chains.{scope_kept}
use Rattle.symbols.specs.Kept.{rows_length, scoped_kept, kept_on}
use Rattle.translator.specs.declared.procedures.Place.{Place}
use Rattle.translator.specs.Translate.{Done, with_rows, procs_code}
use Rattle.translator.specs.Rows.{Can, Rowed, Declared, unrowed, ConstsAt, NamesAt}
use Rattle.translator.specs.Blocks.{inside_code, Start, Means, through, not, ProcsAt, InsideAt, HasInside}
use Rattle.translator.proofs.Rowing.{rowed_at, names_length}

-- the same, from an older table
pub means_on : {o o' : Done} {s xs zs : List ℕ} {k w : ℕ} {ds : List ℕ} {n : ℕ} {ys es : List ℕ} {r : Result Place Refusal} (c : ℕ) → 9 ≤ c → o' ≡ o → k ≤ w → Kept c k xs zs → Means o s zs w ds n ys es r → Means o' s xs k ds n ys es r
means_on {o} {o'} {s} {xs} {zs} {k} {w} {ds} {n} {ys} {es} c h e l kp (through {q} t) = through {q = q} (record {
  code = t.code;
  is = e ∙ t.is;
  sound = t.sound;
  above = omega (arith, t.above);
  kept = kept_on 9 k c 9 w xs zs ys h (omega arith) l kp t.kept;
  low = t.low;
  ends = t.ends;
  lies = t.lies;
  most = t.most;
})
means_on c h e l kp (not {e = x} q) = not {e = x} (e ∙ q)

-- a refusal of a declaration
pub refused_rows : {o : Done} {x : Rows} {s xs ys s' xs' : List ℕ} {k k' : ℕ} {ds : List ℕ} {n : ℕ} {ys' es : List ℕ} {e : Refusal} (f : List Row → Done) → o ≡ with_rows x f → Declared x s xs k ys (Err e) → Means o s' xs' k' ds n ys' es (Err e)
refused_rows {e} f q (unrowed h) = not {e = e} (q ∙ ap (λ (y : Rows). with_rows y f) h)

module _ {s tr : List ℕ} {i : ℕ} {cs : List Const} {vs : List Name} {ps : Procs} (a : InsideAt s tr i cs vs ps) where
  part₁ : Two tr i (consts_node cs) (member (names_node vs) (member (procs_node ps) a.others))
  part₁ = two_at tr i (consts_node cs) (member (names_node vs) (member (procs_node ps) a.others)) a.stands

  part₂ : {j : ℕ} → After tr i j → Two tr j (names_node vs) (member (procs_node ps) a.others)
  part₂ {j} f = next_at tr i j (consts_node cs) (names_node vs) (member (procs_node ps) a.others) f part₁

  part₃ : {j j₂ : ℕ} → After tr i j → After tr j j₂ → Two tr j₂ (procs_node ps) a.others
  part₃ {j} {j₂} f g = next_at tr j j₂ (names_node vs) (procs_node ps) a.others g (part₂ f)

  pub consts_at : ConstsAt s tr i cs
  consts_at = record { stands = part₁.one; named = a.consts_named }

  pub vars_at : {j : ℕ} → After tr i j → NamesAt s tr j vs
  vars_at f = record { stands = (part₂ f).one; named = a.vars_named }

  pub procs_at : {j j₂ : ℕ} → After tr i j → After tr j j₂ → ProcsAt s tr j₂ ps
  procs_at f g = record { stands = (part₃ f g).one; named = a.procs_named }

  pub vars_size : {j : ℕ} → After tr i j → get_or tr (j + 2) 0 ≡ length vs
  vars_size {j} f = (branch_at tr j list_kind 0 (list_nodes name_node vs) (part₂ f).one).at2 ∙ list_count name_node vs

  pub vars_fit : {j : ℕ} → After tr i j → (i + 4 ≤ j) × (j + 4 ≤ length tr)
  vars_fit f = (omega (arith, f (consts_node cs) part₁.one, part₁.least), omega (arith, (part₂ f).fits, (part₂ f).least))

  pub procs_fit : {j j₂ : ℕ} → After tr i j → After tr j j₂ → (i + 8 ≤ j₂) × (j₂ + 4 ≤ length tr)
  procs_fit f g = (omega (arith, f (consts_node cs) part₁.one, part₁.least, g (names_node vs) (part₂ f).one, (part₂ f).least), omega (arith, (part₃ f g).fits, (part₃ f g).least))

  -- what stands after them
  pub rest_at : {j j₂ j₃ : ℕ} → After tr i j → After tr j j₂ → After tr j₂ j₃ → (t : Node) (ts : Nodes) → a.others ≡ member t ts → Two tr j₃ t ts
  rest_at {j} {j₂} {j₃} f g h t ts e = next_at tr j₂ j₃ (procs_node ps) t ts h (rw e at (part₃ f g))

module _ (s tr xs ds : List ℕ) (i : ℕ) (p : Place) (G : Start s xs ds p) where
  abbrev whole : List Const → List Name → Procs → Done
  whole cs vs ps = inside_code cs vs ps p.frame.level (scope_at s xs p.frame.scope) p.frame.address (rows_in s xs p.used) p.n

  pub consts_stop : {ys : List ℕ} {e : Refusal} → ((l : List Const) → ConstsAt s tr i l → Declared (const_rows (rows_in s xs p.used) p.frame.level p.frame.address (scope_at s xs p.frame.scope) l) s xs p.used ys (Err e))
      → {ys' es : List ℕ} (cs : List Const) (vs : List Name) (ps : Procs) → InsideAt s tr i cs vs ps → Means (whole cs vs ps) s xs p.used ds p.n ys' es (Err e)
  unfolding inside_code
  consts_stop hc cs vs ps a = refused_rows (λ r1. with_rows (var_rows r1 p.frame.level p.frame.address (scope_at s xs p.frame.scope) vs) λ r2. procs_code ps p.frame.level (scope_at s xs p.frame.scope) (p.frame.address + length vs) r2 p.n) refl (hc cs (consts_at a))

  module _ {ys : List ℕ} {u : ℕ} (hc : (l : List Const) → ConstsAt s tr i l → Declared (const_rows (rows_in s xs p.used) p.frame.level p.frame.address (scope_at s xs p.frame.scope) l) s xs p.used ys (Ok u)) where
    first : {cs : List Const} {vs : List Name} {ps : Procs} → InsideAt s tr i cs vs ps → Rowed (const_rows (rows_in s xs p.used) p.frame.level p.frame.address (scope_at s xs p.frame.scope) cs) s xs p.used ys u
    first {cs} a = rowed_at (hc cs (consts_at a))

    scope₁ : {cs : List Const} {vs : List Name} {ps : Procs} → InsideAt s tr i cs vs ps → scope_at s ys p.frame.scope ≡ scope_at s xs p.frame.scope
    scope₁ a = scope_kept row_share p.used s xs ys (omega arith) G.sound.linked (first a).kept p.frame.scope G.scoped.known

    pub vars_can : HasInside s tr i → Can s ys u p.frame
    vars_can h = let w = first h.at in record { sound = w.sound; scoped = scoped_kept row_share p.used u xs ys p.frame.scope (omega arith) w.above w.kept G.scoped; low = omega (arith, G.low, w.above) }

    module _ {j : ℕ} (f : After tr i j) where
      on_vars : (cs : List Const) (vs : List Name) (ps : Procs) → InsideAt s tr i cs vs ps → whole cs vs ps ≡ with_rows (var_rows (rows_in s ys u) p.frame.level p.frame.address (scope_at s ys p.frame.scope) vs) (λ r2. procs_code ps p.frame.level (scope_at s xs p.frame.scope) (p.frame.address + length vs) r2 p.n)
      unfolding inside_code
      on_vars cs vs ps a =
          ap (λ (x : Rows). with_rows x λ r1. with_rows (var_rows r1 p.frame.level p.frame.address (scope_at s xs p.frame.scope) vs) λ r2. procs_code ps p.frame.level (scope_at s xs p.frame.scope) (p.frame.address + length vs) r2 p.n) (first a).is
          ∙ ap (λ (x : Scope). with_rows (var_rows (rows_in s ys u) p.frame.level p.frame.address x vs) λ r2. procs_code ps p.frame.level (scope_at s xs p.frame.scope) (p.frame.address + length vs) r2 p.n) (sym (scope₁ a))

      pub vars_stop : {zs : List ℕ} {e : Refusal} → ((l : List Name) → NamesAt s tr j l → Declared (var_rows (rows_in s ys u) p.frame.level p.frame.address (scope_at s ys p.frame.scope) l) s ys u zs (Err e))
          → {ys' es : List ℕ} (cs : List Const) (vs : List Name) (ps : Procs) → InsideAt s tr i cs vs ps → Means (whole cs vs ps) s xs p.used ds p.n ys' es (Err e)
      vars_stop hv cs vs ps a = refused_rows (λ r2. procs_code ps p.frame.level (scope_at s xs p.frame.scope) (p.frame.address + length vs) r2 p.n) (on_vars cs vs ps a) (hv vs (vars_at a f))

      module _ {zs : List ℕ} {w : ℕ} (hv : (l : List Name) → NamesAt s tr j l → Declared (var_rows (rows_in s ys u) p.frame.level p.frame.address (scope_at s ys p.frame.scope) l) s ys u zs (Ok w)) where
        second : {cs : List Const} {vs : List Name} {ps : Procs} → InsideAt s tr i cs vs ps → Rowed (var_rows (rows_in s ys u) p.frame.level p.frame.address (scope_at s ys p.frame.scope) vs) s ys u zs w
        second {cs} {vs} a = rowed_at (hv vs (vars_at a f))

        kept₂ : {cs : List Const} {vs : List Name} {ps : Procs} → InsideAt s tr i cs vs ps → Kept row_share p.used xs zs
        kept₂ a = kept_on row_share p.used row_share row_share u xs ys zs (omega arith) (omega arith) (first a).above (first a).kept (second a).kept

        scope₂ : {cs : List Const} {vs : List Name} {ps : Procs} → InsideAt s tr i cs vs ps → scope_at s zs p.frame.scope ≡ scope_at s xs p.frame.scope
        scope₂ a = scope_kept row_share p.used s xs zs (omega arith) G.sound.linked (kept₂ a) p.frame.scope G.scoped.known

        pub place_low : HasInside s tr i → p.frame.address + get_or tr (j + 2) 0 ≤ w + links
        place_low h =
            let a = h.at in
            omega (arith, G.low, (first a).above, vars_size a f, names_length true (rows_in s ys u) p.frame.level p.frame.address (scope_at s ys p.frame.scope) h.vars (rows_in s zs w) (second a).is, rows_length s ys u, rows_length s zs w)

        pub place_start : HasInside s tr i → {es : List ℕ} → length es ≡ length ds → Start s zs es (record { frame = record { scope = p.frame.scope; level = p.frame.level; address = p.frame.address + get_or tr (j + 2) 0 }; used = w; n = p.n })
        place_start h e =
            let a = h.at in
            record {
              sound = (second a).sound;
              scoped = scoped_kept row_share p.used w xs zs p.frame.scope (omega arith) (omega (arith, (first a).above, (second a).above)) (kept₂ a) G.scoped;
              level = omega (arith, G.level, (first a).above, (second a).above);
              low = place_low h;
              room = omega (arith, G.room);
              most = G.most;
            }

        pub procs_made : {j₂ : ℕ} → After tr j j₂ → {ys' es : List ℕ} {r : Result Place Refusal}
            → ((t : Procs) → ProcsAt s tr j₂ t → Means (procs_code t p.frame.level (scope_at s zs p.frame.scope) (p.frame.address + get_or tr (j + 2) 0) (rows_in s zs w) p.n) s zs w ds p.n ys' es r)
            → (cs : List Const) (vs : List Name) (ps : Procs) → InsideAt s tr i cs vs ps → Means (whole cs vs ps) s xs p.used ds p.n ys' es r
        procs_made g h cs vs ps a =
            means_on row_share (omega arith)
            (on_vars cs vs ps a
            ∙ ap (λ (x : Rows). with_rows x λ r2. procs_code ps p.frame.level (scope_at s xs p.frame.scope) (p.frame.address + length vs) r2 p.n) (second a).is
            ∙ ap (λ (x : Scope). procs_code ps p.frame.level x (p.frame.address + length vs) (rows_in s zs w) p.n) (sym (scope₂ a))
            ∙ ap (λ (x : ℕ). procs_code ps p.frame.level (scope_at s zs p.frame.scope) (p.frame.address + x) (rows_in s zs w) p.n) (sym (vars_size a f)))
            (omega (arith, (first a).above, (second a).above)) (kept₂ a) (h ps (procs_at a f g))

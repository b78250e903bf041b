-- Laws of a name's value and place, by what it finds.
use mathlib.Core.Path.{◌≡◌, sym, ap, ◌∙◌}
use mathlib.Core.List.{List}
use mathlib.Core.Option.{Option, none, some}
use Prim.Native.Nat.{ℕ, ◌+◌, ◌-◌, ◌*◌, ◌≤◌, ◌<◌}
use native.Mathlib.Omega.{arith}
use lib.IntN.{ℤ, pos}
use lib.ListN.{length, get_or}
use Rattle.numbers.specs.Limits.{greatest}
use Rattle.numbers.specs.Stack.{links}
use Rattle.std.proofs.Common.{Option as Found, Some, None}
use Rattle.symbols.specs.declared.Kind.{Kind as CodeKind}
use Rattle.symbols.specs.declared.Kind.TheVariants.{Constant, Variable, Procedure}
use Rattle.symbols.specs.declared.Symbol.{Symbol}
use Rattle.symbols.specs.Symbols.{Kind, main_scope, Row, find}
use Rattle.symbols.specs.Table.{field, kind, scope_at, kind_for, value_of, row_at, rows_in, symbol_at, Sound, Hit, Finds}
use Rattle.symbols.specs.Chains.{scope_main}
use Rattle.symbols.specs.ByNumbers.{coded_for}
use Rattle.walk.specs.Walk.{value_by, value_in, place_in}

module _ (s xs : List ℕ) (k : ℕ) (w : List ℕ) (r : Found ℕ) (f : Finds s xs k r (find (rows_in s xs k) w (scope_at s xs 0))) where
  is_none : r ≡ None → find (rows_in s xs k) w main_scope ≡ none
  unfolding Finds
  is_none e = ap (find (rows_in s xs k) w) (sym (scope_main s xs)) ∙ (rw e at f)

  pub nothing_value : (vs : List ℤ) → r ≡ None → pos 0 ≡ value_in (find (rows_in s xs k) w main_scope) vs
  nothing_value vs e = rw (is_none e)

  pub nothing_place : r ≡ None → 0 ≡ place_in (find (rows_in s xs k) w main_scope)
  nothing_place e = rw (is_none e)

  module _ (i : ℕ) (e : r ≡ Some i) where
    hit : Hit s xs k i (find (rows_in s xs k) w (scope_at s xs 0))
    unfolding Finds
    hit = rw e at f

    row_is : find (rows_in s xs k) w main_scope ≡ some (row_at s xs i)
    row_is = ap (find (rows_in s xs k) w) (sym (scope_main s xs)) ∙ hit.is

    pub row_lies : Sound s xs k → 12 * i + 12 ≤ length xs
    row_lies g = omega (arith, hit.below, g.linked.most, g.linked.room)

    module _ (y : Symbol) (d : y ≡ symbol_at xs i) where
      pub row_small : ((j : ℕ) → j < k → value_of (field xs j 9) (field xs j 10) ≤ greatest) → y.low + 4294967296 * y.high ≤ greatest
      row_small h = rw d (h i hit.below)

      value_by_lem : (vs : List ℤ) → value_in (find (rows_in s xs k) w main_scope) vs ≡ value_by (row_at s xs i) (kind_for y.kind) vs
      unfolding row_at
      value_by_lem vs = ap (λ (o : Option Row). value_in o vs) row_is ∙ ap (λ (a : Kind). value_by (row_at s xs i) a vs) (sym (ap (λ (u : Symbol). kind_for u.kind) d ∙ coded_for (kind xs i)))

      pub const_value : (vs : List ℤ) → y.kind ≡ Constant → pos (y.low + 4294967296 * y.high) ≡ value_in (find (rows_in s xs k) w main_scope) vs
      unfolding row_at
      const_value vs q = sym (value_by_lem vs ∙ ap (λ (a : CodeKind). value_by (row_at s xs i) (kind_for a) vs) q ∙ rw d)

      pub var_value : (vs : List ℤ) (p : ℕ) (z : ℤ) → y.kind ≡ Variable → p ≡ y.address - links → z ≡ get_or vs p (pos 0) → z ≡ value_in (find (rows_in s xs k) w main_scope) vs
      unfolding row_at
      var_value vs p z q a b = b ∙ rw (a, d) (sym (value_by_lem vs ∙ ap (λ (a : CodeKind). value_by (row_at s xs i) (kind_for a) vs) q))

      pub other_value : (vs : List ℤ) → y.kind ≡ Procedure → pos 0 ≡ value_in (find (rows_in s xs k) w main_scope) vs
      other_value vs q = sym (value_by_lem vs ∙ ap (λ (a : CodeKind). value_by (row_at s xs i) (kind_for a) vs) q)

      pub row_place : (p : ℕ) → p ≡ y.address - links → p ≡ place_in (find (rows_in s xs k) w main_scope)
      unfolding row_at
      row_place p a = a ∙ rw d (sym (ap place_in row_is))

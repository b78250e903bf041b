-- Laws of a name's use in an expression, by what it finds.
use Rattle.std.proofs.Common.{◌≡◌, ap, ◌∙◌, List, ℕ, ◌+◌, ◌*◌, ◌≤◌, pos, arith, length}
use Rattle.std.specs.Prelude.{Some, None, Result, Err}
use Rattle.std.proofs.Math.Option.{Option, some}
use Rattle.numbers.specs.declared.refusal.Refusal.{Refusal}
use Rattle.numbers.specs.declared.refusal.Refusal.TheVariants.{NameNotFound, WrongKind}
use Rattle.pcode.specs.Code.{Op, LIT, LOD}
use Rattle.symbols.specs.declared.Kind.TheVariants.{Constant, Variable, Procedure}
use Rattle.symbols.specs.declared.Symbol.{Symbol}
use Rattle.symbols.specs.Symbols.{Row}
use Rattle.symbols.specs.Table.{kind_for, row_of, row_at, name_at, symbol_at, Sound, Hit, Finds}
use Rattle.symbols.specs.ByNumbers.{coded_for}
use Rattle.emission.specs.declared.Env.{Env as CodeEnv}
use Rattle.emission.specs.Pieces.{refusing, emit}
use Rattle.emission.specs.Statements.{Env, reach, value_code, used}
use Rattle.emission.specs.Draft.{whole, Emits, refused}
use Rattle.emission.specs.Meets.{Looks, found, missing}
use Rattle.emission.specs.Drafting.{same}

module _ (s xs : List ℕ) (k i : ℕ) (o : Option Row) (h : Finds s xs k (Some i) o) where
  hit : Hit s xs k i o
  unfolding Finds
  hit = h

  -- the row that is found is one of the table
  pub row_there : Sound s xs k → 12 * i + 12 ≤ length xs
  row_there g = omega (arith, hit.below, g.linked.most, g.linked.room)

  -- and says what is read
  row_read : {y : Symbol} → y ≡ symbol_at xs i → o ≡ some (row_of s xs y)
  unfolding row_at row_of name_at
  row_read e = rw e (hit.is ∙ rw (coded_for))

-- what is found
module _ (e : CodeEnv) (o : Option Row) where
  pub looks_none : Finds e.text.now e.table.now e.used None o → Looks e o None
  unfolding Finds
  looks_none h = missing h

  pub looks_row : (i : ℕ) {y : Symbol} → y ≡ symbol_at e.table.now i → Finds e.text.now e.table.now e.used (Some i) o → Looks e o (Some y)
  looks_row i q h = found (row_read _ _ _ i _ h q)

-- an address is one half
pub address : (o : Op) (ρ : Env) (w : Row) (a n : ℕ) {xs ys : List ℕ} {r : Result ℕ Refusal} → Emits (reach o ρ w (whole a 0) n) n xs ys r → Emits (reach o ρ w a n) n xs ys r
address o ρ w a n h = let e : a ≡ whole a 0 = omega arith in rw e h

-- a name that finds nothing
pub used_none : {e : CodeEnv} {o : Option Row} (ρ : Env) (n : ℕ) (ys zs : List ℕ) → Looks e o None → Emits (used ρ o n) n ys zs (Err NameNotFound)
unfolding refusing
used_none ρ n ys zs (missing h) = refused {e = NameNotFound} (ap (λ (p : Option Row). used ρ p n) h)

-- the row that it finds
module _ {e : CodeEnv} {o : Option Row} {y : Symbol} (ρ : Env) (l : Looks e o (Some y)) (n : ℕ) where
  used_is : used ρ o n ≡ value_code ρ (row_of e.text.now e.table.now y) (kind_for y.kind) n
  unfolding row_of
  used_is = ap (λ (p : Option Row). used ρ p n) (of l)
    where
      of : Looks e o (Some y) → o ≡ some (row_of e.text.now e.table.now y)
      of (found h) = h

  pub used_const : {ys zs : List ℕ} {r : Result ℕ Refusal} → y.kind ≡ Constant → Emits (emit LIT 0 (pos (whole y.low y.high)) n) n ys zs r → Emits (used ρ o n) n ys zs r
  unfolding row_of
  used_const h w = same (used_is ∙ rw h) w

  pub used_var : {ys zs : List ℕ} {r : Result ℕ Refusal} → y.kind ≡ Variable → Emits (reach LOD ρ (row_of e.text.now e.table.now y) (whole y.address 0) n) n ys zs r → Emits (used ρ o n) n ys zs r
  unfolding row_of
  used_var h w = same (used_is ∙ rw h) (address LOD ρ (row_of e.text.now e.table.now y) y.address n w)

  pub used_not : (ys zs : List ℕ) → y.kind ≡ Procedure → Emits (used ρ o n) n ys zs (Err WrongKind)
  unfolding refusing
  used_not ys zs h = refused {e = WrongKind} (used_is ∙ rw h)

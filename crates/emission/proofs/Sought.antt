-- Laws of the names of statements, by what they find.
use mathlib.Core.Path.{◌≡◌, refl, ap, ◌∙◌}
use mathlib.Core.Bool.{Bool, true, false}
use mathlib.Core.List.{List}
use mathlib.Core.Option.{Option, some}
use Prim.Native.Nat.{ℕ, ◌+◌, ◌≤◌}
use native.Mathlib.Omega.{arith}
use lib.Dec.{eqb}
use lib.ListN.{length, get_or}
use borrow.Author.Tests.{eq-eqb, ne_eqb}
use Rattle.std.specs.Prelude.{Option as Found, Some, None, Result, Ok, Err}
use Rattle.std.specs.Option.{ok_or}
use Rattle.numbers.specs.Limits.{max_code}
use Rattle.numbers.specs.Panel.{wrong_kind, wrong_arguments}
use Rattle.numbers.specs.declared.refusal.Refusal.{Refusal}
use Rattle.numbers.specs.declared.refusal.Refusal.TheVariants.{NameNotFound, WrongKind, WrongArguments}
use Rattle.lexer.specs.Tokens.{Name}
use Rattle.tree.specs.Tree.{Exp}
use Rattle.tree.specs.Reading.{word_at}
use Rattle.tree.specs.Standing.{NameAt}
use Rattle.pcode.specs.Code.{STO, CAL}
use Rattle.symbols.specs.declared.Kind.{Kind as CodeKind}
use Rattle.symbols.specs.declared.Kind.TheVariants.{Constant, Variable, Procedure}
use Rattle.symbols.specs.declared.Symbol.{Symbol}
use Rattle.symbols.specs.Symbols.{Kind, procedure, Row, find}
use Rattle.symbols.specs.Table.{part, kind_for, row_of}
use Rattle.symbols.specs.ByNumbers.{name_is}
use Rattle.emission.specs.declared.Env.{Env as CodeEnv}
use Rattle.emission.specs.Pieces.{refuse, Piece, ◌⨾◌, refusing}
use Rattle.emission.specs.Statements.{Env, row_for, reach, if_var, if_proc, storing, args_code, call_code}
use Rattle.emission.specs.Draft.{whole, Emits, refused}
use Rattle.emission.specs.Meets.{here_of, Looks, found, missing}
use Rattle.emission.specs.Sought.{Sought, sought, not_sought, Stored, stored, not_stored, Called, called, not_called}
use Rattle.emission.specs.Drafting.{same, stop, then}

-- the row that the name at i finds
by_look : {e : CodeEnv} {o : Option Row} (f : Found Symbol) → Looks e o f → Sought e o (ok_or f NameNotFound)
by_look (Some y) (found h) = sought h
by_look None (missing h) = not_sought h

pub looked : (e : CodeEnv) {i : ℕ} (f : Found Symbol) {r : Result Symbol Refusal} → r ≡ ok_or f NameNotFound
    → Looks e (find (here_of e).rows (part e.text.now (get_or e.tree.now (i + 2) 0) (get_or e.tree.now (i + 3) 0)) (here_of e).scope) f
    → (t : Name) → NameAt e.text.now e.tree.now i t → Sought e (row_for (here_of e) t) r
looked e {i} f q h t a =
    let w = word_at e.tree.now i 0 t.at (length t.text) a.stands in
    rw (q, ← name_is {s = e.text.now} {n = t} (get_or e.tree.now (i + 2) 0) (get_or e.tree.now (i + 3) 0) w.at2 w.at3 a.named) (by_look f h)

-- no variable
other_stored : (k : CodeKind) → (k ≡ Variable → ⊥) → (g : Piece) (n : ℕ) → if_var (kind_for k) g n ≡ refuse wrong_kind
unfolding refusing
other_stored Constant h g n = refl
other_stored Variable h g n = absurd (h refl)
other_stored Procedure h g n = refl

-- no procedure
other_called : (k : CodeKind) → (k ≡ Procedure → ⊥) → (g : Piece) (n : ℕ) → if_proc (kind_for k) g n ≡ refuse wrong_kind
unfolding refusing
other_called Constant h g n = refl
other_called Variable h g n = refl
other_called Procedure h g n = absurd (h refl)

-- an address is one half
address : (ρ : Env) (w : Row) (a n : ℕ) {xs ys : List ℕ} {r : Result ℕ Refusal} → Emits (reach STO ρ w (whole a 0) n) n xs ys r → Emits (reach STO ρ w a n) n xs ys r
address ρ w a n h = let e : a ≡ whole a 0 = omega arith in rw e h

-- a call's piece, once the kind is right
sized : Env → Row → List Exp → Bool → Piece
sized ρ w es b = elim b [ true ↦ args_code ρ es ⨾ reach CAL ρ w w.value | false ↦ refusing wrong_arguments ]

call_is : {o : Option Row} (w : Row) (es : List Exp) → o ≡ some w → (ρ : Env) (n : ℕ) → call_code ρ es o n ≡ if_proc w.kind (sized ρ w es (eqb w.size (length es))) n
unfolding sized
call_is w es h ρ n = ap (λ (p : Option Row). call_code ρ es p n) h

call_sized : {o : Option Row} (w : Row) (es : List Exp) → o ≡ some w → w.kind ≡ procedure → (ρ : Env) (n : ℕ) → call_code ρ es o n ≡ sized ρ w es (eqb w.size (length es)) n
call_sized w es h k ρ n = call_is w es h ρ n ∙ ap (λ (k : Kind). if_proc k (sized ρ w es (eqb w.size (length es))) n) k

module _ {e : CodeEnv} {o : Option Row} where
  -- where a variable is stored to

  pub none_stored : {x : Refusal} → Sought e o (Err x) → Stored e o (Err x)
  unfolding refusing
  none_stored (not_sought h) = not_stored (λ ρ g n. ap (λ (p : Option Row). storing ρ g p n) h)

  pub wrong_stored : {y : Symbol} → (y.kind ≡ Variable → ⊥) → Sought e o (Ok y) → Stored e o (Err WrongKind)
  unfolding row_of
  wrong_stored {y} k (sought h) = not_stored (λ ρ g n. ap (λ (p : Option Row). storing ρ g p n) h ∙ other_stored y.kind k (g ⨾ reach STO ρ (row_of e.text.now e.table.now y) y.address) n)

  pub is_stored : {y : Symbol} → y.kind ≡ Variable → Sought e o (Ok y) → Stored e o (Ok y)
  is_stored k (sought h) = stored h (ap kind_for k)

  -- what is stored to it, by a context
  module _ (ρ : Env) where
    pub storing_not : {x : Refusal} → Stored e o (Err x) → (g : Piece) {n : ℕ} {ys zs : List ℕ} → Emits (storing ρ g o n) n ys zs (Err x)
    storing_not (not_stored f) g {n} = refused (f ρ g n)

    storing_is : {y : Symbol} → Stored e o (Ok y) → (g : Piece) (n : ℕ) → storing ρ g o n ≡ (g ⨾ reach STO ρ (row_of e.text.now e.table.now y) y.address) n
    unfolding row_of
    storing_is {y} (stored h k) g n = ap (λ (p : Option Row). storing ρ g p n) h ∙ ap (λ (k : Kind). if_var k (g ⨾ reach STO ρ (row_of e.text.now e.table.now y) y.address) n) k

    pub storing_stop : {y : Symbol} → Stored e o (Ok y) → (g : Piece) {n : ℕ} {ys zs zs' : List ℕ} {x : Refusal} → Emits (g n) n ys zs (Err x) → Emits (storing ρ g o n) n ys zs' (Err x)
    storing_stop {y} w g {n} v = same (storing_is w g n) (stop g (reach STO ρ (row_of e.text.now e.table.now y) y.address) v)

    pub storing_made : {y : Symbol} → Stored e o (Ok y) → (g : Piece) {n m : ℕ} {ys zs ws : List ℕ} {r : Result ℕ Refusal} → n ≤ max_code → Emits (g n) n ys zs (Ok m)
        → Emits (reach STO ρ (row_of e.text.now e.table.now y) (whole y.address 0) m) m zs ws r → Emits (storing ρ g o n) n ys ws r
    storing_made {y} w g {n} {m} b v u =
        same (storing_is w g n) (then g (reach STO ρ (row_of e.text.now e.table.now y) y.address) b v (address ρ (row_of e.text.now e.table.now y) y.address m u))

  -- where a procedure is called

  pub none_called : {x : Refusal} {es : List Exp} → Sought e o (Err x) → Called e o es (Err x)
  unfolding refusing
  none_called {es} (not_sought h) = not_called (λ ρ n. ap (λ (p : Option Row). call_code ρ es p n) h)

  pub wrong_called : {y : Symbol} {es : List Exp} → (y.kind ≡ Procedure → ⊥) → Sought e o (Ok y) → Called e o es (Err WrongKind)
  unfolding row_of
  wrong_called {y} {es} k (sought h) = let w = row_of e.text.now e.table.now y in not_called {x = WrongKind} (λ ρ n. call_is w es h ρ n ∙ other_called y.kind k (sized ρ w es (eqb w.size (length es))) n)

  pub count_called : {y : Symbol} {es : List Exp} → y.kind ≡ Procedure → (y.size ≡ length es → ⊥) → Sought e o (Ok y) → Called e o es (Err WrongArguments)
  unfolding row_of refusing sized
  count_called {y} {es} k d (sought h) = let w = row_of e.text.now e.table.now y in not_called {x = WrongArguments} (λ ρ n. call_sized w es h (ap kind_for k) ρ n ∙ ap (λ (b : Bool). sized ρ w es b n) (ne_eqb y.size (length es) d))

  pub is_called : {y : Symbol} {es : List Exp} → y.kind ≡ Procedure → y.size ≡ length es → Sought e o (Ok y) → Called e o es (Ok y)
  is_called k d (sought h) = called h (ap kind_for k) d

  module _ (ρ : Env) where
    pub call_not : {x : Refusal} {es : List Exp} → Called e o es (Err x) → {n : ℕ} {ys zs : List ℕ} → Emits (call_code ρ es o n) n ys zs (Err x)
    call_not (not_called f) {n} = refused (f ρ n)

    call_whole : {y : Symbol} {es : List Exp} → Called e o es (Ok y) → (n : ℕ) → call_code ρ es o n ≡ (args_code ρ es ⨾ reach CAL ρ (row_of e.text.now e.table.now y) (whole y.low y.high)) n
    unfolding row_of sized
    call_whole {y} {es} (called h k d) n = let w = row_of e.text.now e.table.now y in call_sized w es h k ρ n ∙ ap (λ (b : Bool). sized ρ w es b n) (eq-eqb y.size (length es) d)

    pub call_stop : {y : Symbol} {es : List Exp} → Called e o es (Ok y) → {n : ℕ} {ys zs zs' : List ℕ} {x : Refusal} → Emits (args_code ρ es n) n ys zs (Err x) → Emits (call_code ρ es o n) n ys zs' (Err x)
    call_stop {y} {es} w {n} v = same (call_whole w n) (stop (args_code ρ es) (reach CAL ρ (row_of e.text.now e.table.now y) (whole y.low y.high)) v)

    pub call_made : {y : Symbol} {es : List Exp} → Called e o es (Ok y) → {n m : ℕ} {ys zs ws : List ℕ} {r : Result ℕ Refusal} → n ≤ max_code → Emits (args_code ρ es n) n ys zs (Ok m)
        → Emits (reach CAL ρ (row_of e.text.now e.table.now y) (whole y.low y.high) m) m zs ws r → Emits (call_code ρ es o n) n ys ws r
    call_made {y} {es} w {n} b v u = same (call_whole w n) (then (args_code ρ es) (reach CAL ρ (row_of e.text.now e.table.now y) (whole y.low y.high)) b v u)

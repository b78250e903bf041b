-- What the name of a statement finds: a row, the variable that is stored to, or the procedure that is called.
use Rattle.std.specs.Prelude.{◌≡◌, List, ℕ, length, Result, Ok, Err}
use Rattle.std.proofs.Math.Option.{Option, none, some}
use Rattle.numbers.specs.declared.refusal.Refusal.{Refusal}
use Rattle.numbers.specs.declared.refusal.Refusal.TheVariants.{NameNotFound}
use Rattle.numbers.specs.Refusals.{number_of}
use Rattle.tree.specs.Tree.{Exp}
use Rattle.symbols.specs.declared.Symbol.{Symbol}
use Rattle.symbols.specs.Symbols.{var, procedure, Row}
use Rattle.symbols.specs.Table.{row_of, kind_for}
use Rattle.emission.specs.declared.Env.{Env as CodeEnv}
use Rattle.emission.specs.Pieces.{Piece, refuse}
use Rattle.emission.specs.Statements.{Env, storing, call_code}

-- a row, or that there is none
pub data Sought (e : CodeEnv) (o : Option Row) : Result Symbol Refusal → Type 0 where
  sought : {y : Symbol} → o ≡ some (row_of e.text.now e.table.now y) → Sought e o (Ok y)
  not_sought : o ≡ none → Sought e o (Err NameNotFound)

-- a variable, or why nothing can be stored
pub data Stored (e : CodeEnv) (o : Option Row) : Result Symbol Refusal → Type 0 where
  stored : {y : Symbol} → o ≡ some (row_of e.text.now e.table.now y) → kind_for y.kind ≡ var → Stored e o (Ok y)
  not_stored : {x : Refusal} → ((ρ : Env) (g : Piece) (n : ℕ) → storing ρ g o n ≡ refuse (number_of x)) → Stored e o (Err x)

-- a procedure with as many arguments, or why it can't be called with them
pub data Called (e : CodeEnv) (o : Option Row) (es : List Exp) : Result Symbol Refusal → Type 0 where
  called : {y : Symbol} → o ≡ some (row_of e.text.now e.table.now y) → kind_for y.kind ≡ procedure → y.size ≡ length es → Called e o es (Ok y)
  not_called : {x : Refusal} → ((ρ : Env) (n : ℕ) → call_code ρ es o n ≡ refuse (number_of x)) → Called e o es (Err x)

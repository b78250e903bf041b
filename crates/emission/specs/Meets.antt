-- What the functions of emission ask and promise: what holds while a body is translated, and what a name finds.
use Rattle.std.specs.Prelude.{◌≡◌, List, ℕ, ◌≤◌, length, Option as Found, Some, None}
use Rattle.std.proofs.Math.Option.{Option, none, some}
use Rattle.numbers.specs.Limits.{max_code, draft_places}
use Rattle.symbols.specs.declared.Symbol.{Symbol}
use Rattle.symbols.specs.Symbols.{Row}
use Rattle.symbols.specs.Table.{rows_in, scope_at, row_of, Sound, Seen}
use Rattle.emission.specs.declared.Env.{Env as CodeEnv}
use Rattle.emission.specs.Statements.{Env}

-- what it stands for
unfoldable pub here_of : CodeEnv → Env
here_of e = record { rows = rows_in e.text.now e.table.now e.used; level = e.level; scope = scope_at e.text.now e.table.now e.scope }

-- the rows are sound, and what is seen of them is set out
pub record Known (e : CodeEnv) : Type 0 where
  pub sound : Sound e.text.now e.table.now e.used
  pub seen : Seen e.table.now e.used e.scope

-- a body can be translated, from place n of the draft on
pub record Ready (e : CodeEnv) (draft : List ℕ) (n : ℕ) : Type 0 where
  pub known : Known e
  pub room : draft_places ≤ length draft
  pub most : n ≤ max_code

-- what a name finds
pub data Looks (e : CodeEnv) (o : Option Row) : Found Symbol → Type 0 where
  found : {y : Symbol} → o ≡ some (row_of e.text.now e.table.now y) → Looks e o (Some y)
  missing : o ≡ none → Looks e o None

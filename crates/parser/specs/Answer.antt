-- What a reader's result says.
use Rattle.std.specs.Prelude.{Result, Ok, Err, Option, Some, None, ℕ}
use Rattle.numbers.specs.declared.refusal.Refusal.{Refusal}
use Rattle.numbers.specs.Refusals.{number_of}
use Rattle.lexer.specs.declared.cursor.Cursor.{Cursor}

-- a node, or several, that end in the tree at that place; nothing, where a statement fails quietly; or the refusal of
-- that number
pub data Answer : Type 0 where
  Node : ℕ → Cursor → Answer
  Nothing : Cursor → Answer
  Refused : ℕ → Answer

-- of a reader that yields a node wherever it does not refuse
abbrev pub node_of : Result (ℕ × Cursor) Refusal → Answer
node_of (Ok (e, c)) = Node e c
node_of (Err w) = Refused (number_of w)

-- of a reader that may yield nothing
abbrev pub try_of : Result (Option ℕ × Cursor) Refusal → Answer
try_of (Ok (Some e, c)) = Node e c
try_of (Ok (None, c)) = Nothing c
try_of (Err w) = Refused (number_of w)

-- of a reader that yields nothing wherever it does not refuse
abbrev pub quiet_of : Result Cursor Refusal → Answer
quiet_of (Ok c) = Nothing c
quiet_of (Err w) = Refused (number_of w)

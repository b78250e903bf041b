-- What holds of whatever a reader gets.
use Rattle.std.specs.Prelude.{ℕ}
use Rattle.grammar.specs.Reader.{Cursor, Ans, got, refuse}

-- of what it gets, if it gets anything
pub data Gets {A : Type 0} (P : A → Type 0) : Ans A → Type 0 where
  is_got : {a : A} {c : Cursor} → P a → Gets P (got a c)
  is_no : {n : ℕ} → Gets P (refuse n)

-- What `see` and `want` promise.
use Rattle.std.specs.Prelude.{◌≡◌, ◌⊎◌, Result, Ok, Err, Option, Some, None, List, ℕ, suc}
use Rattle.lexer.specs.Marks.{Mark}
use Rattle.numbers.specs.declared.refusal.Refusal.{Refusal}
use Rattle.numbers.specs.Refusals.{number_of}
use Rattle.numbers.specs.declared.arithmetic.Arith.{Arith as Operator}
use Rattle.numbers.specs.Answers.{arith_of}
use Rattle.numbers.specs.Arithmetic.{Arith}
use Rattle.numbers.specs.Panel.{bad_token, literal_too_big, token_missing, too_many_tokens}
use Rattle.lexer.specs.Tokens.{Token as Word, token, bad, too_big, end_of_text}
use Rattle.lexer.specs.Cursor.{Cursor as Place, got, refuse, look}
use Rattle.lexer.specs.Meaning.{Sight, sees, too_many, meaning, Inside}
use Rattle.lexer.specs.Stands.{Stands, taken, past, left}
use Rattle.lexer.specs.Spelling.{token_of}
use Rattle.lexer.specs.declared.token.Token.{Token}
use Rattle.lexer.specs.declared.cursor.Cursor.{Cursor}
use Rattle.grammar.specs.Reader.{want}

-- what `see` and `want` answer: the cursor, or a refusal
abbrev pub Seen : Type 0
Seen = Result Cursor Refusal

-- the number that looking is refused with, by what is seen; 0 where it is not
abbrev pub refusal_in : Sight → ℕ
refusal_in (sees (token t)) = 0
refusal_in (sees bad) = bad_token
refusal_in (sees too_big) = literal_too_big
refusal_in (sees end_of_text) = token_missing
refusal_in too_many = too_many_tokens

-- the token w at the place k was looked at by a cursor that stood there as c, and stands there as d
pub record Saw (src : List ℕ) (c d : Cursor) (k : Place) (w : Word) : Type 0 where
  pub means : meaning src d.token ≡ sees (token w)
  pub inside : Inside src d.token
  pub looks : look src k ≡ got w k
  pub stands : Stands src d k
  pub beyond : Stands src (taken d) (past src k)
  pub same : left d ≡ left c
  pub fewer : suc (left (taken d)) ≡ left c

-- by what `see` answers
unfoldable pub Looked : List ℕ → Cursor → Seen → Type 0
Looked src c (Ok d) = (k : Place) → Stands src c k → (w : Word) × Saw src c d k w
Looked src c (Err n) = (k : Place) → Stands src c k → look src k ≡ refuse (number_of n)

pub record Sees (src : List ℕ) (c : Cursor) (r : Seen) : Type 0 where
  pub looked : Looked src c r

-- how the operand after a token joins what stands before it: by aa after the mark ma, by ab after mb, and else there is none
unfoldable pub Joins : Mark → Arith → Mark → Arith → Token → Option Operator → Type 0
Joins ma aa mb ab t (Some o) = ((t ≡ token_of ma) × (arith_of o ≡ aa)) ⊎ ((t ≡ token_of ma → ⊥) × ((t ≡ token_of mb) × (arith_of o ≡ ab)))
Joins ma aa mb ab t None = (t ≡ token_of ma → ⊥) × (t ≡ token_of mb → ⊥)

-- the mark m at the place k was taken by a cursor that stood there as c
pub record Took (src : List ℕ) (m : Mark) (c d : Cursor) (k : Place) : Type 0 where
  pub wants : want src m k ≡ got tt (past src k)
  pub stands : Stands src d (past src k)
  pub fewer : suc (left d) ≡ left c

-- by what `want` answers
unfoldable pub Wanted : List ℕ → Mark → Cursor → Seen → Type 0
Wanted src m c (Ok d) = (k : Place) → Stands src c k → Took src m c d k
Wanted src m c (Err n) = (k : Place) → Stands src c k → want src m k ≡ refuse (number_of n)

pub record Wants (src : List ℕ) (m : Mark) (c : Cursor) (r : Seen) : Type 0 where
  pub wanted : Wanted src m c r

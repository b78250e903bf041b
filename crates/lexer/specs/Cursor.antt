-- 01, "Order": the cursor over the tokens of a text, what looking at a token answers, and what taking it does.
-- A reader takes a cursor and answers a value with the next cursor, or a refusal's number.
use Rattle.std.specs.Prelude.{true, false, List, ℕ, suc, ltb}
use Rattle.numbers.specs.Panel.{bad_token, literal_too_big, token_missing, too_many_tokens}
use Rattle.numbers.specs.Limits.{max_tokens}
use Rattle.lexer.specs.Tokens.{Token, Found, token, bad, too_big, end_of_text, lex_at}

-- how many tokens were taken, and where the next is looked for
pub record Cursor : Type 0 where
  pub seen : ℕ
  pub at : ℕ

-- a value and the next cursor, or a refusal
pub data Ans (A : Type 0) : Type 0 where
  got : A → Cursor → Ans A
  refuse : ℕ → Ans A

-- from a cursor to an answer
abbrev pub Reader : Type 0 → Type 0
Reader A = Cursor → Ans A

-- "an 8,193rd token is looked at" is 8, before what the token itself gives
unfoldable pub counted : {A : Type 0} → Ans A → Cursor → Ans A
counted a c = elim (ltb c.seen max_tokens) [ true ↦ a | false ↦ refuse too_many_tokens ]

-- what a look answers
unfoldable pub judge : Found → Reader Token
judge (token t) c = counted (got t c) c
judge bad c = counted (refuse bad_token) c
judge too_big c = counted (refuse literal_too_big) c
judge end_of_text c = refuse token_missing

module _ (src : List ℕ) where
  -- the token at the cursor, which stays where it is
  unfoldable pub look : Reader Token
  look c = judge (lex_at src c.at).found c

  -- past the token at the cursor
  unfoldable pub take : Reader (Unit {0})
  take c = got tt (record { seen = suc c.seen; at = (lex_at src c.at).next })

-- What each case of the code's `Token` says, in the words of the definitions: `Shows` is what `next_token` promises.
use Rattle.std.specs.Prelude.{◌≡◌, List, ℕ, ◌+◌, ◌≤◌, length, take, drop}
use Rattle.lexer.specs.Marks.{if_word, then_word, else_word, while_word, do_word, const_word, var_word, procedure_word, program_word, begin_word, end_word, call_word, read_word, write_word, odd_word, plus_sign, minus_sign, times_sign, divide_sign, open_sign, close_sign, equal_sign, semicolon_sign, comma_sign, less_sign, greater_sign, at_most_sign, at_least_sign, unequal_sign, becomes_sign}
use Rattle.lexer.specs.Tokens.{Name, mark, name, number, Found, token, bad, too_big, end_of_text, Lexed as Reading}
use Rattle.lexer.specs.declared.token.Token.{Token}
use Rattle.lexer.specs.declared.token.Token.TheVariants.{If, Then, Else, While, Do, Const, Var, Procedure, Program, Begin, End, Call, Read, Write, Odd, Add, Sub, Mul, Div, Eq, Lt, Gt, Le, Ge, Ne, EqSign, ParL, ParR, Semicolon, Comma, Identifier, Integer, LexicalError, TooBig, TooMany, EndOfText}
use Rattle.lexer.specs.declared.token.Lexed.{Lexed}

-- the name of n bytes from `at` on
abbrev pub name_at : List ℕ → ℕ → ℕ → Name
name_at src at n = record { at = at; text = take n (drop at src) }

-- what a token of the code can say: this was found; or it is one too many to be looked at
pub data Sight : Type 0 where
  sees : Found → Sight
  too_many : Sight

-- what each token of the code says
abbrev pub meaning : List ℕ → Token → Sight
meaning src If = sees (token (mark if_word))
meaning src Then = sees (token (mark then_word))
meaning src Else = sees (token (mark else_word))
meaning src While = sees (token (mark while_word))
meaning src Do = sees (token (mark do_word))
meaning src Const = sees (token (mark const_word))
meaning src Var = sees (token (mark var_word))
meaning src Procedure = sees (token (mark procedure_word))
meaning src Program = sees (token (mark program_word))
meaning src Begin = sees (token (mark begin_word))
meaning src End = sees (token (mark end_word))
meaning src Call = sees (token (mark call_word))
meaning src Read = sees (token (mark read_word))
meaning src Write = sees (token (mark write_word))
meaning src Odd = sees (token (mark odd_word))
meaning src Add = sees (token (mark plus_sign))
meaning src Sub = sees (token (mark minus_sign))
meaning src Mul = sees (token (mark times_sign))
meaning src Div = sees (token (mark divide_sign))
meaning src Eq = sees (token (mark equal_sign))
meaning src Lt = sees (token (mark less_sign))
meaning src Gt = sees (token (mark greater_sign))
meaning src Le = sees (token (mark at_most_sign))
meaning src Ge = sees (token (mark at_least_sign))
meaning src Ne = sees (token (mark unequal_sign))
meaning src EqSign = sees (token (mark becomes_sign))
meaning src ParL = sees (token (mark open_sign))
meaning src ParR = sees (token (mark close_sign))
meaning src Semicolon = sees (token (mark semicolon_sign))
meaning src Comma = sees (token (mark comma_sign))
meaning src (Identifier at n) = sees (token (name (name_at src at n)))
meaning src (Integer v) = sees (token (number v))
meaning src LexicalError = sees bad
meaning src TooBig = sees too_big
meaning src TooMany = too_many
meaning src EndOfText = sees end_of_text

-- what a token says is within the text
abbrev pub Inside : List ℕ → Token → Type 0
Inside src t = (at n : ℕ) → t ≡ Identifier at n → at + n ≤ length src

-- the code's answer says what the definition reads
pub record Shows (src : List ℕ) (r : Lexed) (l : Reading) : Type 0 where
  pub means : meaning src r.token ≡ sees l.found
  pub inside : Inside src r.token
  pub next : r.next ≡ l.next

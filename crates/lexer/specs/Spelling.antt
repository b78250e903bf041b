-- The tokens of the code by their spelling: what the lexer's own functions promise.
use Rattle.std.specs.Prelude.{true, false, List, [], ◌∷◌, ℕ, ◌+◌, ◌*◌, ◌-◌, leb}
use Prim.Native.Char.{code}
use Rattle.std.proofs.Math.Option.{none, some}
use Rattle.numbers.specs.Limits.{greatest}
use Rattle.lexer.specs.Marks.{Mark, if_word, then_word, else_word, while_word, do_word, const_word, var_word, procedure_word, program_word, begin_word, end_word, call_word, read_word, write_word, odd_word, plus_sign, minus_sign, times_sign, divide_sign, open_sign, close_sign, equal_sign, semicolon_sign, comma_sign, less_sign, greater_sign, at_most_sign, at_least_sign, unequal_sign, becomes_sign, pairs, singles, spelt}
use Rattle.lexer.specs.declared.token.Token.{Token}
use Rattle.lexer.specs.declared.token.Token.TheVariants.{If, Then, Else, While, Do, Const, Var, Procedure, Program, Begin, End, Call, Read, Write, Odd, Add, Sub, Mul, Div, Eq, Lt, Gt, Le, Ge, Ne, EqSign, ParL, ParR, Semicolon, Comma, Integer, LexicalError, TooBig}
use Rattle.lexer.specs.declared.token.Lexed.{Lexed}

-- the token of a mark
abbrev pub token_of : Mark → Token
token_of if_word = If
token_of then_word = Then
token_of else_word = Else
token_of while_word = While
token_of do_word = Do
token_of const_word = Const
token_of var_word = Var
token_of procedure_word = Procedure
token_of program_word = Program
token_of begin_word = Begin
token_of end_word = End
token_of call_word = Call
token_of read_word = Read
token_of write_word = Write
token_of odd_word = Odd
token_of plus_sign = Add
token_of minus_sign = Sub
token_of times_sign = Mul
token_of divide_sign = Div
token_of open_sign = ParL
token_of close_sign = ParR
token_of equal_sign = Eq
token_of semicolon_sign = Semicolon
token_of comma_sign = Comma
token_of less_sign = Lt
token_of greater_sign = Gt
token_of at_most_sign = Le
token_of at_least_sign = Ge
token_of unequal_sign = Ne
token_of becomes_sign = EqSign

-- the token that a table spells so, or else another
unfoldable pub named : List ℕ → List (List ℕ × Mark) → Token → Token
named w table other = elim (spelt w table) [ some m ↦ token_of m | none ↦ other ]

-- the sign at i, where the byte is b and the next is d
unfoldable pub sign_of : ℕ → ℕ → ℕ → Lexed
sign_of i b d =
    elim (spelt (b ∷ d ∷ []) pairs) [
      | some m ↦ record { token = token_of m; next = i + 2 }
      | none ↦ record { token = named (b ∷ []) singles LexicalError; next = i + 1 }
    ]

-- the greatest value that a digit more does not always bring above the greatest
abbrev pub greatest_before : ℕ
greatest_before = 922337203685477580

-- what stands for every value above the greatest
abbrev pub above : ℕ
above = 9223372036854775808

-- a value with one digit more
unfoldable pub with_digit : ℕ → ℕ → ℕ
with_digit v b = elim (leb v greatest_before) [ true ↦ v * 10 + (b - code "0") | false ↦ above ]

-- the literal of a value
unfoldable pub literal_of : ℕ → Token
literal_of v = elim (leb v greatest) [ true ↦ Integer v | false ↦ TooBig ]

-- The code's tokens by number.
use Rattle.std.specs.Prelude.{ℕ}
use Rattle.lexer.specs.declared.token.Token.{Token}
use Rattle.lexer.specs.declared.token.Token.TheVariants.{If, Then, Else, While, Do, Const, Var, Procedure, Program, Begin, End, Call, Read, Write, Odd, Add, Sub, Mul, Div, Eq, Lt, Gt, Le, Ge, Ne, EqSign, ParL, ParR, Semicolon, Comma, Identifier, Integer, LexicalError, TooBig, TooMany, EndOfText}

-- the kind of a token: its place in the order of the Rust, which a mark has too (`place_of`), or one of the numbers after those
abbrev pub kind_of : Token → ℕ
kind_of If = 0
kind_of Then = 1
kind_of Else = 2
kind_of While = 3
kind_of Do = 4
kind_of Const = 5
kind_of Var = 6
kind_of Procedure = 7
kind_of Program = 8
kind_of Begin = 9
kind_of End = 10
kind_of Call = 11
kind_of Read = 12
kind_of Write = 13
kind_of Odd = 14
kind_of Add = 15
kind_of Sub = 16
kind_of Mul = 17
kind_of Div = 18
kind_of Eq = 19
kind_of Lt = 20
kind_of Gt = 21
kind_of Le = 22
kind_of Ge = 23
kind_of Ne = 24
kind_of EqSign = 25
kind_of ParL = 26
kind_of ParR = 27
kind_of Semicolon = 28
kind_of Comma = 29
kind_of (Identifier at n) = 30
kind_of (Integer v) = 31
kind_of LexicalError = 32
kind_of TooBig = 33
kind_of TooMany = 34
kind_of EndOfText = 35

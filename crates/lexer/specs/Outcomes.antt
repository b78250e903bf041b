-- What the lexer promises settles its answers: two outcomes that meet a contract coincide.
use Rattle.std.specs.Prelude.{◌≡◌, refl, Bool, true, false, List, ℕ, ◌+◌, ◌≤◌, length, drop}
use Rattle.std.proofs.Common.{sym, ◌∙◌, ap, arith, length-drop, length-take-le}
use Rattle.lexer.specs.Tokens.{mark, name, number, token, bad, too_big, end_of_text, Lexed as Reading}
use Rattle.lexer.specs.Cursor.{Cursor as Place}
use Rattle.lexer.specs.Spelling.{token_of}
use Rattle.lexer.specs.Meaning.{Sight, sees, too_many, meaning, Inside, Shows}
use Rattle.lexer.specs.Stands.{Holds, Looks}
use Rattle.lexer.specs.declared.token.Token.{Token}
use Rattle.lexer.specs.declared.token.Token.TheVariants.{If, Then, Else, While, Do, Const, Var, Procedure, Program, Begin, End, Call, Read, Write, Odd, Add, Sub, Mul, Div, Eq, Lt, Gt, Le, Ge, Ne, EqSign, ParL, ParR, Semicolon, Comma, Identifier, Integer, LexicalError, TooBig, TooMany, EndOfText}
use Rattle.lexer.specs.declared.token.Lexed.{Lexed}
use Rattle.lexer.specs.declared.cursor.Cursor.{Cursor}

-- the one token that says what is seen
abbrev pub saying : Sight → Token
saying (sees (token (mark m))) = token_of m
saying (sees (token (name n))) = Identifier n.at (length n.text)
saying (sees (token (number v))) = Integer v
saying (sees bad) = LexicalError
saying (sees too_big) = TooBig
saying (sees end_of_text) = EndOfText
saying too_many = TooMany

pub says : (src : List ℕ) (t : Token) → Inside src t → t ≡ saying (meaning src t)
says src If i = refl
says src Then i = refl
says src Else i = refl
says src While i = refl
says src Do i = refl
says src Const i = refl
says src Var i = refl
says src Procedure i = refl
says src Program i = refl
says src Begin i = refl
says src End i = refl
says src Call i = refl
says src Read i = refl
says src Write i = refl
says src Odd i = refl
says src Add i = refl
says src Sub i = refl
says src Mul i = refl
says src Div i = refl
says src Eq i = refl
says src Lt i = refl
says src Gt i = refl
says src Le i = refl
says src Ge i = refl
says src Ne i = refl
says src EqSign i = refl
says src ParL i = refl
says src ParR i = refl
says src Semicolon i = refl
says src Comma i = refl
says src (Identifier at n) i =
    let e : at + n ≤ length src = i at n refl in
    ap (Identifier at) (sym (length-take-le n (drop at src) (omega (arith, length-drop at src))))
says src (Integer v) i = refl
says src LexicalError i = refl
says src TooBig i = refl
says src TooMany i = refl
says src EndOfText i = refl

-- the token of a sight
pub said : (src : List ℕ) (t : Token) (s : Sight) → meaning src t ≡ s → Inside src t → t ≡ saying s
said src t s e i = rw (← e) (says src t i)

abbrev lexed : Token → ℕ → Lexed
lexed t n = record { token = t; next = n }

-- `next_token` has one answer
pub lexed_once : (src : List ℕ) (l : Reading) (a b : Lexed) → Shows src a l → Shows src b l → a ≡ b
lexed_once src l a b p q =
    let t : a.token ≡ b.token = said src _ _ p.means p.inside ∙ sym (said src _ _ q.means q.inside) in
    let n : a.next ≡ b.next = p.next ∙ sym q.next in
    ap (λ x. lexed x a.next) t ∙ ap (lexed b.token) n

abbrev cursor : Token → (at count : ℕ) → Bool → Cursor
cursor t at n l = record { token = t; at = at; count = n; looked = l }

-- one cursor holds the token at a place
held_once : (src : List ℕ) (k : Place) (a b : Cursor) → Holds src a k → Holds src b k → a ≡ b
held_once src k a b p q =
    let t : a.token ≡ b.token = said src _ _ p.means p.inside ∙ sym (said src _ _ q.means q.inside) in
    let n : a.at ≡ b.at = p.next ∙ sym q.next in
    let m : a.count ≡ b.count = p.count ∙ sym q.count in
    let l : a.looked ≡ b.looked = p.looked ∙ sym q.looked in
    ap (λ x. cursor x a.at a.count a.looked) t ∙ ap (λ x. cursor b.token x a.count a.looked) n ∙ ap (λ x. cursor b.token b.at x a.looked) m ∙ ap (cursor b.token b.at b.count) l

-- `look` has one answer
pub look_once : (src : List ℕ) (c a b : Cursor) → Looks src c a → Looks src c b → a ≡ b
look_once src c a b p q = by c.looked refl
  where
    by : (x : Bool) → c.looked ≡ x → a ≡ b
    by true e = p.again e ∙ sym (q.again e)
    by false e = held_once src _ a b (p.first e) (q.first e)

-- The tokens of the code and the words of the definitions: which kind, and which variant, a word is. A `_` of a `match` tells which variants a token is not.
use mathlib.Core.Path.{◌≡◌, refl, sym, ap, ◌∙◌}
use mathlib.Core.Bool.{true, false}
use mathlib.Core.Logic.{◌⊎◌, inl, inr}
use mathlib.Core.List.{List, [], ◌∷◌}
use Prim.Native.Nat.{ℕ, ◌≤◌, ◌<◌}
use native.Mathlib.Omega.{arith}
use lib.Dec.{eqb, ltb}
use lib.ListN.{get_or}
use borrow.Author.Tests.{ne_eqb, ltb-true}
use Rattle.lexer.specs.Marks.{Mark, if_word, then_word, else_word, while_word, do_word, const_word, var_word, procedure_word, program_word, begin_word, end_word, call_word, read_word, write_word, odd_word, plus_sign, minus_sign, times_sign, divide_sign, equal_sign, less_sign, greater_sign, at_most_sign, at_least_sign, unequal_sign, becomes_sign, open_sign, close_sign, semicolon_sign, comma_sign, place_of, same}
use Rattle.lexer.specs.Tokens.{Token as Word, mark, name, number, token, bad, too_big, end_of_text}
use Rattle.lexer.specs.Cursor.{Cursor as Place, refuse}
use Rattle.lexer.specs.Meaning.{Sight, sees, too_many, meaning}
use Rattle.lexer.specs.Kinds.{kind_of}
use Rattle.lexer.specs.Spelling.{token_of}
use Rattle.lexer.specs.Stands.{told}
use Rattle.lexer.specs.declared.token.Token.{Token}
use Rattle.lexer.specs.declared.token.Token.TheVariants.{If, Then, Else, While, Do, Const, Var, Procedure, Program, Begin, End, Call, Read, Write, Odd, Add, Sub, Mul, Div, Eq, Lt, Gt, Le, Ge, Ne, EqSign, ParL, ParR, Semicolon, Comma, Identifier, Integer, LexicalError, TooBig, TooMany, EndOfText}
use Rattle.grammar.specs.Reader.{is_mark}
use Rattle.parser.specs.See.{refusal_in}

-- the kind of a word: that of the token that says it
unfoldable pub kind_in : Word → ℕ
kind_in (mark m) = place_of m
kind_in (name n) = 30
kind_in (number v) = 31

word : {v w : Word} → sees (token v) ≡ sees (token w) → v ≡ w
word e = cc

-- which word a token says is told by its kind
pub known : (src : List ℕ) (t : Token) (w : Word) → meaning src t ≡ sees (token w) → kind_of t ≡ kind_in w
unfolding kind_in place_of
known src If w e = ap kind_in (word e)
known src Then w e = ap kind_in (word e)
known src Else w e = ap kind_in (word e)
known src While w e = ap kind_in (word e)
known src Do w e = ap kind_in (word e)
known src Const w e = ap kind_in (word e)
known src Var w e = ap kind_in (word e)
known src Procedure w e = ap kind_in (word e)
known src Program w e = ap kind_in (word e)
known src Begin w e = ap kind_in (word e)
known src End w e = ap kind_in (word e)
known src Call w e = ap kind_in (word e)
known src Read w e = ap kind_in (word e)
known src Write w e = ap kind_in (word e)
known src Odd w e = ap kind_in (word e)
known src Add w e = ap kind_in (word e)
known src Sub w e = ap kind_in (word e)
known src Mul w e = ap kind_in (word e)
known src Div w e = ap kind_in (word e)
known src Eq w e = ap kind_in (word e)
known src Lt w e = ap kind_in (word e)
known src Gt w e = ap kind_in (word e)
known src Le w e = ap kind_in (word e)
known src Ge w e = ap kind_in (word e)
known src Ne w e = ap kind_in (word e)
known src EqSign w e = ap kind_in (word e)
known src ParL w e = ap kind_in (word e)
known src ParR w e = ap kind_in (word e)
known src Semicolon w e = ap kind_in (word e)
known src Comma w e = ap kind_in (word e)
known src (Identifier a n) w e = ap kind_in (word e)
known src (Integer v) w e = ap kind_in (word e)
known src LexicalError w e = cc
known src TooBig w e = cc
known src TooMany w e = cc
known src EndOfText w e = cc

-- every mark has its place below those of the names and literals
mark_first : (m : Mark) → ltb (place_of m) 30 ≡ true
unfolding place_of
mark_first if_word = refl
mark_first then_word = refl
mark_first else_word = refl
mark_first while_word = refl
mark_first do_word = refl
mark_first const_word = refl
mark_first var_word = refl
mark_first procedure_word = refl
mark_first program_word = refl
mark_first begin_word = refl
mark_first end_word = refl
mark_first call_word = refl
mark_first read_word = refl
mark_first write_word = refl
mark_first odd_word = refl
mark_first plus_sign = refl
mark_first minus_sign = refl
mark_first times_sign = refl
mark_first divide_sign = refl
mark_first equal_sign = refl
mark_first less_sign = refl
mark_first greater_sign = refl
mark_first at_most_sign = refl
mark_first at_least_sign = refl
mark_first unequal_sign = refl
mark_first becomes_sign = refl
mark_first open_sign = refl
mark_first close_sign = refl
mark_first semicolon_sign = refl
mark_first comma_sign = refl

no_mark : (n : ℕ) → 30 ≤ n → (m : Mark) → eqb n (place_of m) ≡ false
no_mark n h m = let f : place_of m < 30 = ltb-true (place_of m) 30 (mark_first m) in ne_eqb n (place_of m) (λ e. omega (arith, e, f))

-- a word is a mark where the numbers agree
pub is_mark_lem : (m : Mark) (w : Word) → is_mark m w ≡ eqb (kind_in w) (place_of m)
unfolding is_mark same kind_in
is_mark_lem m (mark k) = refl
is_mark_lem m (name n) = sym (no_mark 30 (omega arith) m)
is_mark_lem m (number v) = sym (no_mark 31 (omega arith) m)

-- the variant without parts of a number
abbrev pub plain : ℕ → Token
plain n = get_or (If ∷ Then ∷ Else ∷ While ∷ Do ∷ Const ∷ Var ∷ Procedure ∷ Program ∷ Begin ∷ End ∷ Call ∷ Read ∷ Write ∷ Odd ∷ Add ∷ Sub ∷ Mul ∷ Div ∷ Eq ∷ Lt ∷ Gt ∷ Le ∷ Ge ∷ Ne ∷ EqSign ∷ ParL ∷ ParR ∷ Semicolon ∷ Comma ∷ EndOfText ∷ EndOfText ∷ LexicalError ∷ TooBig ∷ TooMany ∷ []) n EndOfText

-- a token has no parts, or is a name or a number
sorted : (t : Token) → (t ≡ plain (kind_of t)) ⊎ (((a : ℕ) × ((n : ℕ) × (t ≡ Identifier a n))) ⊎ ((v : ℕ) × (t ≡ Integer v)))
sorted If = inl refl
sorted Then = inl refl
sorted Else = inl refl
sorted While = inl refl
sorted Do = inl refl
sorted Const = inl refl
sorted Var = inl refl
sorted Procedure = inl refl
sorted Program = inl refl
sorted Begin = inl refl
sorted End = inl refl
sorted Call = inl refl
sorted Read = inl refl
sorted Write = inl refl
sorted Odd = inl refl
sorted Add = inl refl
sorted Sub = inl refl
sorted Mul = inl refl
sorted Div = inl refl
sorted Eq = inl refl
sorted Lt = inl refl
sorted Gt = inl refl
sorted Le = inl refl
sorted Ge = inl refl
sorted Ne = inl refl
sorted EqSign = inl refl
sorted ParL = inl refl
sorted ParR = inl refl
sorted Semicolon = inl refl
sorted Comma = inl refl
sorted (Identifier a n) = inr (inl (a, (n, refl)))
sorted (Integer v) = inr (inr (v, refl))
sorted LexicalError = inl refl
sorted TooBig = inl refl
sorted TooMany = inl refl
sorted EndOfText = inl refl

-- the token of a mark has its place, and no other token has
pub kind_of_token : (m : Mark) → kind_of (token_of m) ≡ place_of m
unfolding place_of
kind_of_token if_word = refl
kind_of_token then_word = refl
kind_of_token else_word = refl
kind_of_token while_word = refl
kind_of_token do_word = refl
kind_of_token const_word = refl
kind_of_token var_word = refl
kind_of_token procedure_word = refl
kind_of_token program_word = refl
kind_of_token begin_word = refl
kind_of_token end_word = refl
kind_of_token call_word = refl
kind_of_token read_word = refl
kind_of_token write_word = refl
kind_of_token odd_word = refl
kind_of_token plus_sign = refl
kind_of_token minus_sign = refl
kind_of_token times_sign = refl
kind_of_token divide_sign = refl
kind_of_token equal_sign = refl
kind_of_token less_sign = refl
kind_of_token greater_sign = refl
kind_of_token at_most_sign = refl
kind_of_token at_least_sign = refl
kind_of_token unequal_sign = refl
kind_of_token becomes_sign = refl
kind_of_token open_sign = refl
kind_of_token close_sign = refl
kind_of_token semicolon_sign = refl
kind_of_token comma_sign = refl

plain_token : (m : Mark) → plain (place_of m) ≡ token_of m
unfolding place_of
plain_token if_word = refl
plain_token then_word = refl
plain_token else_word = refl
plain_token while_word = refl
plain_token do_word = refl
plain_token const_word = refl
plain_token var_word = refl
plain_token procedure_word = refl
plain_token program_word = refl
plain_token begin_word = refl
plain_token end_word = refl
plain_token call_word = refl
plain_token read_word = refl
plain_token write_word = refl
plain_token odd_word = refl
plain_token plus_sign = refl
plain_token minus_sign = refl
plain_token times_sign = refl
plain_token divide_sign = refl
plain_token equal_sign = refl
plain_token less_sign = refl
plain_token greater_sign = refl
plain_token at_most_sign = refl
plain_token at_least_sign = refl
plain_token unequal_sign = refl
plain_token becomes_sign = refl
plain_token open_sign = refl
plain_token close_sign = refl
plain_token semicolon_sign = refl
plain_token comma_sign = refl

pub of_kind : (t : Token) (m : Mark) → kind_of t ≡ place_of m → t ≡ token_of m
of_kind t m e =
    let f : place_of m < 30 = ltb-true (place_of m) 30 (mark_first m) in
    elim (sorted t) [
      | inl p ↦ p ∙ ap plain e ∙ plain_token m
      | inr (inl p) ↦ absurd (omega (arith, f, e, ap kind_of p.1.1))
      | inr (inr p) ↦ absurd (omega (arith, f, e, ap kind_of p.1))
    ]

-- a token that is none of a variant's has not its number
pub no_identifier : (t : Token) → ((a n : ℕ) → t ≡ Identifier a n → ⊥) → kind_of t ≡ 30 → ⊥
no_identifier t h e =
    elim (sorted t) [
      | inl p ↦ absurd (omega (arith, ap kind_of (rw e at p), e))
      | inr (inl p) ↦ h p.0 p.1.0 p.1.1
      | inr (inr p) ↦ absurd (omega (arith, ap kind_of p.1, e))
    ]

pub no_integer : (t : Token) → ((v : ℕ) → t ≡ Integer v → ⊥) → kind_of t ≡ 31 → ⊥
no_integer t h e =
    elim (sorted t) [
      | inl p ↦ absurd (omega (arith, ap kind_of (rw e at p), e))
      | inr (inl p) ↦ absurd (omega (arith, ap kind_of p.1.1, e))
      | inr (inr p) ↦ h p.0 p.1
    ]

pub no_plain : (t : Token) (n : ℕ) → (n ≡ 30 → ⊥) → (n ≡ 31 → ⊥) → (t ≡ plain n → ⊥) → kind_of t ≡ n → ⊥
no_plain t n a b h e =
    elim (sorted t) [
      | inl p ↦ h (rw e at p)
      | inr (inl p) ↦ a (sym e ∙ ap kind_of p.1.1)
      | inr (inr p) ↦ b (sym e ∙ ap kind_of p.1)
    ]

-- a token that is looked at without a refusal
pub sound_token : (t : Token) → (t ≡ LexicalError → ⊥) → (t ≡ TooBig → ⊥) → (t ≡ TooMany → ⊥) → (t ≡ EndOfText → ⊥) → (src : List ℕ) → refusal_in (meaning src t) ≡ 0
sound_token If g h i j src = refl
sound_token Then g h i j src = refl
sound_token Else g h i j src = refl
sound_token While g h i j src = refl
sound_token Do g h i j src = refl
sound_token Const g h i j src = refl
sound_token Var g h i j src = refl
sound_token Procedure g h i j src = refl
sound_token Program g h i j src = refl
sound_token Begin g h i j src = refl
sound_token End g h i j src = refl
sound_token Call g h i j src = refl
sound_token Read g h i j src = refl
sound_token Write g h i j src = refl
sound_token Odd g h i j src = refl
sound_token Add g h i j src = refl
sound_token Sub g h i j src = refl
sound_token Mul g h i j src = refl
sound_token Div g h i j src = refl
sound_token Eq g h i j src = refl
sound_token Lt g h i j src = refl
sound_token Gt g h i j src = refl
sound_token Le g h i j src = refl
sound_token Ge g h i j src = refl
sound_token Ne g h i j src = refl
sound_token EqSign g h i j src = refl
sound_token ParL g h i j src = refl
sound_token ParR g h i j src = refl
sound_token Semicolon g h i j src = refl
sound_token Comma g h i j src = refl
sound_token (Identifier at n) g h i j src = refl
sound_token (Integer v) g h i j src = refl
sound_token LexicalError g h i j src = absurd (g refl)
sound_token TooBig g h i j src = absurd (h refl)
sound_token TooMany g h i j src = absurd (i refl)
sound_token EndOfText g h i j src = absurd (j refl)

-- what is seen without a refusal is a word
pub shown : (s : Sight) → refusal_in s ≡ 0 → (w : Word) × (s ≡ sees (token w))
shown (sees (token w)) e = (w, refl)
shown (sees bad) e = absurd (omega arith)
shown (sees too_big) e = absurd (omega arith)
shown (sees end_of_text) e = absurd (omega arith)
shown too_many e = absurd (omega arith)

-- and what is refused is refused with that number
pub refused_as : (s : Sight) (k : Place) → ltb 0 (refusal_in s) ≡ true → told s k ≡ refuse (refusal_in s)
refused_as (sees (token w)) k e = absurd (omega (arith, ltb-true 0 0 e))
refused_as (sees bad) k e = refl
refused_as (sees too_big) k e = refl
refused_as (sees end_of_text) k e = refl
refused_as too_many k e = refl

-- a word that is no name, no number and no `(` is another mark
pub no_factor_lem : (w : Word) → (kind_in w ≡ 30 → ⊥) → (kind_in w ≡ 31 → ⊥) → (kind_in w ≡ 26 → ⊥) → (m : Mark) × ((w ≡ mark m) × (same m open_sign ≡ false))
unfolding kind_in same place_of
no_factor_lem (mark if_word) g h i = (if_word, (refl, refl))
no_factor_lem (mark then_word) g h i = (then_word, (refl, refl))
no_factor_lem (mark else_word) g h i = (else_word, (refl, refl))
no_factor_lem (mark while_word) g h i = (while_word, (refl, refl))
no_factor_lem (mark do_word) g h i = (do_word, (refl, refl))
no_factor_lem (mark const_word) g h i = (const_word, (refl, refl))
no_factor_lem (mark var_word) g h i = (var_word, (refl, refl))
no_factor_lem (mark procedure_word) g h i = (procedure_word, (refl, refl))
no_factor_lem (mark program_word) g h i = (program_word, (refl, refl))
no_factor_lem (mark begin_word) g h i = (begin_word, (refl, refl))
no_factor_lem (mark end_word) g h i = (end_word, (refl, refl))
no_factor_lem (mark call_word) g h i = (call_word, (refl, refl))
no_factor_lem (mark read_word) g h i = (read_word, (refl, refl))
no_factor_lem (mark write_word) g h i = (write_word, (refl, refl))
no_factor_lem (mark odd_word) g h i = (odd_word, (refl, refl))
no_factor_lem (mark plus_sign) g h i = (plus_sign, (refl, refl))
no_factor_lem (mark minus_sign) g h i = (minus_sign, (refl, refl))
no_factor_lem (mark times_sign) g h i = (times_sign, (refl, refl))
no_factor_lem (mark divide_sign) g h i = (divide_sign, (refl, refl))
no_factor_lem (mark equal_sign) g h i = (equal_sign, (refl, refl))
no_factor_lem (mark less_sign) g h i = (less_sign, (refl, refl))
no_factor_lem (mark greater_sign) g h i = (greater_sign, (refl, refl))
no_factor_lem (mark at_most_sign) g h i = (at_most_sign, (refl, refl))
no_factor_lem (mark at_least_sign) g h i = (at_least_sign, (refl, refl))
no_factor_lem (mark unequal_sign) g h i = (unequal_sign, (refl, refl))
no_factor_lem (mark becomes_sign) g h i = (becomes_sign, (refl, refl))
no_factor_lem (mark open_sign) g h i = absurd (i refl)
no_factor_lem (mark close_sign) g h i = (close_sign, (refl, refl))
no_factor_lem (mark semicolon_sign) g h i = (semicolon_sign, (refl, refl))
no_factor_lem (mark comma_sign) g h i = (comma_sign, (refl, refl))
no_factor_lem (name n) g h i = absurd (g refl)
no_factor_lem (number v) g h i = absurd (h refl)

-- The code's cursor beside the definition's: what `Cursor::look` and `Cursor::take` promise, and the laws that a reader goes by.
use Rattle.std.specs.Prelude.{◌≡◌, refl, Bool, true, false, List, ℕ, suc, ◌+◌, ◌-◌, ◌<◌, ltb}
use Rattle.std.proofs.Common.{sym, ◌∙◌, arith, ltb-true}
use Rattle.numbers.specs.Panel.{bad_token, literal_too_big, token_missing, too_many_tokens}
use Rattle.numbers.specs.Limits.{max_tokens}
use Rattle.lexer.specs.Tokens.{Token as Word, Found, token, bad, too_big, end_of_text, lex_at}
use Rattle.lexer.specs.Cursor.{Cursor as Place, got, refuse, Reader, counted, judge, look}
use Rattle.lexer.specs.Meaning.{Sight, sees, too_many, meaning, Inside}
use Rattle.lexer.specs.declared.token.Token.{Token}
use Rattle.lexer.specs.declared.token.Token.TheVariants.{EndOfText}
use Rattle.lexer.specs.declared.cursor.Cursor.{Cursor}

-- what is seen past the last token that may be looked at: the end of the text, or a token too many
abbrev pub beyond : Found → Sight
beyond (token t) = too_many
beyond bad = too_many
beyond too_big = too_many
beyond end_of_text = sees end_of_text

-- what the code looks at there for a token
abbrev pub Beyond : Token → Token → Type 0
Beyond t r = (src : List ℕ) (f : Found) → meaning src t ≡ sees f → Inside src t → (meaning src r ≡ beyond f) × Inside src r

-- what a look sees, n tokens having been looked at before
unfoldable pub sight : ℕ → Found → Sight
sight n f = elim (ltb n max_tokens) [ true ↦ sees f | false ↦ beyond f ]

-- the count with that token
unfoldable pub counting : ℕ → ℕ
counting n = elim (ltb n max_tokens) [ true ↦ suc n | false ↦ n ]

-- the code's cursor c holds the token at the definition's place k
pub record Holds (src : List ℕ) (c : Cursor) (k : Place) : Type 0 where
  pub looked : c.looked ≡ true
  pub means : meaning src c.token ≡ sight k.seen (lex_at src k.at).found
  pub inside : Inside src c.token
  pub next : c.at ≡ (lex_at src k.at).next
  pub count : c.count ≡ counting k.seen

-- the place of a cursor that holds no token
abbrev pub place_of : Cursor → Place
place_of c = record { seen = c.count; at = c.at }

-- what `look` hands back
pub record Looks (src : List ℕ) (c r : Cursor) : Type 0 where
  pub again : c.looked ≡ true → r ≡ c
  pub first : c.looked ≡ false → Holds src r (place_of c)

-- what `take` hands back
abbrev pub taken : Cursor → Cursor
taken c = record { token = EndOfText; at = c.at; count = c.count; looked = false }

-- what `new` hands back
abbrev pub start : Cursor
start = record { token = EndOfText; at = 0; count = 0; looked = false }

-- the code's cursor c stands at the definition's place k
pub record Stands (src : List ℕ) (c : Cursor) (k : Place) : Type 0 where
  pub fresh : c.looked ≡ false → k ≡ place_of c
  pub holds : c.looked ≡ true → Holds src c k

-- what a token that was looked at answers: 01's number for each that is refused
abbrev pub told : Sight → Reader Word
told (sees (token t)) k = got t k
told (sees bad) k = refuse bad_token
told (sees too_big) k = refuse literal_too_big
told (sees end_of_text) k = refuse token_missing
told too_many k = refuse too_many_tokens

abbrev pub answer : List ℕ → Token → Reader Word
answer src t = told (meaning src t)

apart : {A : Type 0} → ◌≡◌ {A = Bool} false true → A
apart e = absurd (let z : ◌≡◌ {A = ℕ} 0 1 = cc in omega arith)

-- a new cursor stands at the start of the text
pub start_stands : (src : List ℕ) → Stands src start (record { seen = 0; at = 0 })
start_stands src = record { fresh = λ e. refl; holds = λ e. apart e }

-- a cursor that was looked at holds the token at its place, and stands there still
module _ {src : List ℕ} {c r : Cursor} {k : Place} (l : Looks src c r) (s : Stands src c k) where
  pub look_holds : Holds src r k
  look_holds = by c.looked refl
    where
      by : (b : Bool) → c.looked ≡ b → Holds src r k
      by true e = rw (l.again e) (s.holds e)
      by false e = rw (s.fresh e) (l.first e)

pub holds_stands : {src : List ℕ} {c : Cursor} {k : Place} → Holds src c k → Stands src c k
holds_stands h = record { fresh = λ e. apart (sym e ∙ h.looked); holds = λ e. h }

told_sight : (f : Found) (k : Place) → told (sight k.seen f) k ≡ judge f k
unfolding sight judge counted
told_sight f k = by f (ltb k.seen max_tokens) refl
  where
    by : (f : Found) (b : Bool) → ltb k.seen max_tokens ≡ b → told (sight k.seen f) k ≡ judge f k
    by (token t) true e = rw (e, sight, counted)
    by (token t) false e = rw (e, sight, counted)
    by bad true e = rw (e, sight, counted)
    by bad false e = rw (e, sight, counted)
    by too_big true e = rw (e, sight, counted)
    by too_big false e = rw (e, sight, counted)
    by end_of_text true e = rw (e, sight, counted)
    by end_of_text false e = rw (e, sight, counted)

-- the token that a cursor holds answers as the definition's look does
pub holds_answer : {src : List ℕ} {c : Cursor} {k : Place} → Holds src c k → look src k ≡ answer src c.token k
unfolding look
holds_answer {src} {c} {k} h = sym (rw h.means (told_sight (lex_at src k.at).found k))

-- a token that a look gets is one of those that may be looked at
got_few : (f : Found) (t : Word) (k : Place) → judge f k ≡ got t k → ltb k.seen max_tokens ≡ true
unfolding judge counted
got_few f t k e = by f (ltb k.seen max_tokens) refl e
  where
    by : (f : Found) (b : Bool) → ltb k.seen max_tokens ≡ b → judge f k ≡ got t k → ltb k.seen max_tokens ≡ true
    by f true q e = q
    by (token t) false q e = cc (rw (q, counted) at e)
    by bad false q e = cc (rw (q, counted) at e)
    by too_big false q e = cc (rw (q, counted) at e)
    by end_of_text false q e = cc

-- past the token at a place
abbrev pub past : List ℕ → Place → Place
past src k = record { seen = suc k.seen; at = (lex_at src k.at).next }

-- a cursor that holds a token stands past it once it is taken, where the definition's take goes
pub take_stands : {src : List ℕ} {c : Cursor} {k : Place} (t : Word) → Holds src c k → look src k ≡ got t k → Stands src (taken c) (past src k)
unfolding look counting
take_stands {src} {c} {k} t h e =
    let few = got_few (lex_at src k.at).found t k e in
    let n : c.count ≡ suc k.seen = h.count ∙ rw (few, counting) in
    record { fresh = λ _. cc h.next; holds = λ q. apart q }

-- 1 for a token that is held
abbrev pub flag : Bool → ℕ
flag true = 1
flag false = 0

-- how many tokens may still be taken, of those that may be looked at
unfoldable pub left : Cursor → ℕ
left c = max_tokens - c.count + flag c.looked

-- a look that gets a token leaves as many
pub look_left : {src : List ℕ} {c r : Cursor} {k : Place} (t : Word) → Looks src c r → Stands src c k → look src k ≡ got t k → left r ≡ left c
unfolding left look counting
look_left {src} {c} {r} {k} t l s e = by c.looked refl
  where
    by : (b : Bool) → c.looked ≡ b → left r ≡ left c
    by true q = rw (l.again q)
    by false q =
        let few = got_few (lex_at src k.at).found t k e in
        let h = l.first q in
        let few' : ltb c.count max_tokens ≡ true = rw (s.fresh q) at few in
        let n : r.count ≡ suc c.count = h.count ∙ rw (few', counting) in
        let m : c.count < max_tokens = ltb-true _ _ few' in
        rw (h.looked, q) (omega arith)

-- and taking it leaves one fewer
pub take_left : {src : List ℕ} {c : Cursor} {k : Place} → Holds src c k → suc (left (taken c)) ≡ left c
unfolding left
take_left h = rw h.looked (omega arith)

-- Laws of literals: a value read digit by digit, which stays above the greatest once it is there.
use mathlib.Core.Path.{◌≡◌, refl, sym, ◌∙◌}
use Prim.Native.Nat.{ℕ, suc, ◌+◌, ◌*◌, ◌-◌, ◌≤◌, ◌<◌}
use Prim.Native.Char.{code}
use mathlib.Core.List.{List, [], ◌∷◌}
use mathlib.Core.Bool.{Bool, true, false, ◌&&◌}
use native.Mathlib.Numerals.{add-one}
use native.Mathlib.Nat.{le_refl, le_trans}
use native.Mathlib.Omega.{arith}
use lib.Dec.{leb}
use lib.ListN.{length, get_or, take, drop}
use lib.Seq.{drop-cons}
use borrow.Author.Tests.{le-leb, lt-leb, leb-true, leb-false}
use Rattle.numbers.specs.Bytes.{is_digit, span, digits}
use Rattle.numbers.specs.Limits.{greatest}
use Rattle.lexer.specs.Tokens.{number_at}
use Rattle.lexer.specs.Meaning.{Shows}
use Rattle.lexer.specs.Spelling.{greatest_before, above, with_digit, literal_of}
use Rattle.lexer.specs.declared.token.Token.TheVariants.{Integer, TooBig}
use Rattle.lexer.specs.declared.token.Lexed.{Lexed}
use Rattle.lexer.proofs.Runs.{span_more, span_stop, span_past}

-- the cases of `with_digit` and `literal_of`
pub digit_few : (v b : ℕ) → v ≤ greatest_before → with_digit v b ≡ v * 10 + (b - code "0")
unfolding with_digit
digit_few v b h = rw (le-leb _ _ h, with_digit)

pub digit_many : (v b : ℕ) → greatest_before < v → with_digit v b ≡ above
unfolding with_digit
digit_many v b h = rw (lt-leb _ _ h, with_digit)

pub literal_fits : (v : ℕ) → v ≤ greatest → literal_of v ≡ Integer v
unfolding literal_of
literal_fits v h = rw (le-leb _ _ h, literal_of)

pub literal_big : (v : ℕ) → greatest < v → literal_of v ≡ TooBig
unfolding literal_of
literal_big v h = rw (lt-leb _ _ h, literal_of)

-- the value v with the run of digits from e on
abbrev pub valued : List ℕ → ℕ → ℕ → ℕ
valued s v e = digits v (take (span is_digit (drop e s)) (drop e s))

digits_up : (l : List ℕ) (v : ℕ) → v ≤ digits v l
unfolding digits
digits_up [] v = le_refl v
digits_up (b ∷ l) v = le_trans (omega arith) (digits_up l (v * 10 + (b - code "0")))

over : (l : List ℕ) (v : ℕ) → greatest < v → literal_of (digits v l) ≡ TooBig
over l v h = literal_big _ (omega (arith, digits_up l v))

capped : (l : List ℕ) (v b : ℕ) (x : Bool) → leb v greatest_before ≡ x → literal_of (digits (with_digit v b) l) ≡ literal_of (digits (v * 10 + (b - code "0")) l)
capped l v b true e = rw (digit_few v b (leb-true _ _ e))
capped l v b false e =
    let h : greatest_before < v = leb-false _ _ e in
    rw (digit_many v b h) (over l above (omega arith) ∙ sym (over l _ (omega arith)))

module _ (s : List ℕ) (v e : ℕ) where
  pub digit_more : e < length s → is_digit (get_or s e 0) ≡ true → literal_of (valued s (with_digit v (get_or s e 0)) (e + 1)) ≡ literal_of (valued s v e)
  unfolding digits
  digit_more h d = rw (span_more is_digit s e h d, add-one, drop-cons s e 0 h) (capped (take (span is_digit (drop (suc e) s)) (drop (suc e) s)) v (get_or s e 0) (leb v greatest_before) refl)

  pub digit_stop : e < length s → is_digit (get_or s e 0) ≡ false → v ≡ valued s v e
  unfolding digits
  digit_stop h d = rw (span_stop is_digit s e h d)

  pub digit_past : length s ≤ e → v ≡ valued s v e
  unfolding digits
  digit_past h = rw (span_past is_digit s e h)

-- the literal of the digits at the front is what the definition reads there
pub literal_shows : (src l : List ℕ) (i : ℕ) (r : Lexed) → r.token ≡ literal_of (digits 0 (take (span is_digit l) l)) → r.next ≡ i + span is_digit l → Shows src r (number_at i l)
unfolding literal_of number_at
literal_shows src l i r t n = by (leb (digits 0 (take (span is_digit l) l)) greatest) refl
  where
    by : (x : Bool) → leb (digits 0 (take (span is_digit l) l)) greatest ≡ x → Shows src r (number_at i l)
    by true e =
        let u : r.token ≡ Integer (digits 0 (take (span is_digit l) l)) = t ∙ rw (e, literal_of) in
        record { means = rw u (rw (e, number_at)); inside = λ a m q. absurd (let z : ◌≡◌ {A = ℕ} 0 1 = cc in omega arith); next = n }
    by false e =
        let u : r.token ≡ TooBig = t ∙ rw (e, literal_of) in
        record { means = rw u (rw (e, number_at)); inside = λ a m q. absurd (let z : ◌≡◌ {A = ℕ} 0 1 = cc in omega arith); next = n }

and_left : (x y : Bool) → (x && y) ≡ true → x ≡ true
and_left true y e = refl
and_left false y e = e

-- a digit's byte is no less than that of 0
pub digit_least : (b : ℕ) → is_digit b ≡ true → 48 ≤ b
unfolding is_digit
digit_least b e = leb-true 48 b (and_left _ _ e)

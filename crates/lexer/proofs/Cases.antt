-- The cases of `next_token` and of `Cursor::look`, each as one law over plain values.
use mathlib.Core.Path.{◌≡◌, refl, sym, ◌∙◌, ap}
use mathlib.Core.List.{List, [], ◌∷◌}
use mathlib.Core.Bool.{true, false}
use mathlib.Core.Option.{Option, none, some}
use Prim.Native.Nat.{ℕ, zero, suc, ◌+◌, ◌-◌, ◌≤◌, ◌<◌}
use Prim.Native.Char.{code}
use native.Mathlib.Nat.{add-zero}
use native.Mathlib.Numerals.{add-one}
use native.Mathlib.Omega.{arith}
use lib.Dec.{eqb}
use lib.ListN.{length, get_or, take, drop, drop_of_length-le}
use lib.Seq.{get_or-drop, drop-drop, drop-cons}
use borrow.Author.Tests.{eq-eqb, ne_eqb, lt-ltb, le-ltb}
use Rattle.numbers.specs.Limits.{max_tokens}
use Rattle.numbers.specs.Bytes.{is_blank, is_digit, is_letter, is_word_byte, span}
use Rattle.lexer.specs.Marks.{Mark, if_word, then_word, else_word, while_word, do_word, const_word, var_word, procedure_word, program_word, begin_word, end_word, call_word, read_word, write_word, odd_word, plus_sign, minus_sign, times_sign, divide_sign, open_sign, close_sign, equal_sign, semicolon_sign, comma_sign, less_sign, greater_sign, at_most_sign, at_least_sign, unequal_sign, becomes_sign, keywords, pairs, singles, spelt}
use Rattle.lexer.specs.Tokens.{Name, mark, name, Found, token, bad, too_big, end_of_text, Lexed as Reading, up_to, word_found, word_at, number_at, sign_at, lex_here, lex_at}
use Rattle.lexer.specs.Spelling.{token_of, named, sign_of}
use Rattle.lexer.specs.Meaning.{name_at, Sight, sees, too_many, meaning, Inside, Shows}
use Rattle.lexer.specs.Stands.{beyond, Beyond, sight, counting, Looks}
use Rattle.lexer.specs.Outcomes.{said}
use Rattle.lexer.specs.declared.token.Token.{Token}
use Rattle.lexer.specs.declared.token.Token.TheVariants.{Identifier, LexicalError, TooMany, EndOfText}
use Rattle.lexer.specs.declared.token.Lexed.{Lexed}
use Rattle.lexer.specs.declared.cursor.Cursor.{Cursor}
use Rattle.lexer.proofs.Runs.{stop, stop_length}
use Rattle.lexer.proofs.Tables.{two}

never : {A : Type 0} → ◌≡◌ {A = ℕ} 0 1 → A
never e = absurd (omega arith)

abbrev lexed : Token → ℕ → Lexed
lexed t n = record { token = t; next = n }

-- a token of which the text's bytes say nothing
plain : (src : List ℕ) (t : Token) (f : Found) → meaning src t ≡ sees f → ((w : Name) → f ≡ token (name w) → ⊥) → Inside src t
plain src t f m h at n e = absurd (h (name_at src at n) (let z : sees f ≡ sees (token (name (name_at src at n))) = sym m ∙ ap (meaning src) e in cc))

marked : (src : List ℕ) (m : Mark) → meaning src (token_of m) ≡ sees (token (mark m))
marked src if_word = refl
marked src then_word = refl
marked src else_word = refl
marked src while_word = refl
marked src do_word = refl
marked src const_word = refl
marked src var_word = refl
marked src procedure_word = refl
marked src program_word = refl
marked src begin_word = refl
marked src end_word = refl
marked src call_word = refl
marked src read_word = refl
marked src write_word = refl
marked src odd_word = refl
marked src plus_sign = refl
marked src minus_sign = refl
marked src times_sign = refl
marked src divide_sign = refl
marked src open_sign = refl
marked src close_sign = refl
marked src equal_sign = refl
marked src semicolon_sign = refl
marked src comma_sign = refl
marked src less_sign = refl
marked src greater_sign = refl
marked src at_most_sign = refl
marked src at_least_sign = refl
marked src unequal_sign = refl
marked src becomes_sign = refl

mark_shows : (src : List ℕ) (m : Mark) (t : Token) (n : ℕ) (l : Reading) → t ≡ token_of m → l ≡ up_to n (token (mark m)) → Shows src (lexed t n) l
mark_shows src m t n l e q =
    let k : meaning src t ≡ sees (token (mark m)) = ap (meaning src) e ∙ marked src m in
    rw q (record { means = k; inside = plain src t _ k (λ w z. never (cc)); next = refl })

bad_shows : (src : List ℕ) (n : ℕ) (l : Reading) → l ≡ up_to n bad → Shows src (lexed LexicalError n) l
bad_shows src n l q = rw q (record { means = refl; inside = λ at m e. never (cc); next = refl })

-- a word: followed by `_`, or not
module _ (src : List ℕ) (i e : ℕ) (end : e ≡ stop is_word_byte src i) where
  after : get_or (drop i src) (span is_word_byte (drop i src)) 0 ≡ get_or src e 0
  after = get_or-drop i src _ 0 ∙ rw end

  pub bad_word : get_or src e 0 ≡ code "_" → Shows src (lexed LexicalError e) (word_at i (drop i src))
  unfolding word_at
  bad_word h =
      let q : eqb (get_or (drop i src) (span is_word_byte (drop i src)) 0) (code "_") ≡ true = eq-eqb _ _ (after ∙ h) in
      bad_shows src e _ (rw end (rw (q, word_at)))

  whole : (get_or src e 0 ≡ code "_" → ⊥) → word_at i (drop i src) ≡ up_to e (word_found i (take (e - i) (drop i src)))
  unfolding word_at
  whole h =
      let q : eqb (get_or (drop i src) (span is_word_byte (drop i src)) 0) (code "_") ≡ false = ne_eqb _ _ (λ z. h (sym after ∙ z)) in
      let n : e - i ≡ span is_word_byte (drop i src) = omega arith in
      rw (q, word_at) (rw (n, end))

  by_table : (t : Token) → e ≤ length src → word_at i (drop i src) ≡ up_to e (word_found i (take (e - i) (drop i src)))
      → t ≡ named (take (e - i) (drop i src)) keywords (Identifier i (e - i)) → (o : Option Mark) → spelt (take (e - i) (drop i src)) keywords ≡ o → Shows src (lexed t e) (word_at i (drop i src))
  unfolding word_found named
  by_table t h k r none q =
      let u : t ≡ Identifier i (e - i) = r ∙ rw (q, named) in
      rw (k, u) (record { means = rw (q, word_found); inside = λ at n z. (let x : at ≡ i = cc in let y : n ≡ e - i = cc in omega arith); next = refl })
  by_table t h k r (some m) q = mark_shows src m t e _ (r ∙ rw (q, named)) (k ∙ rw (q, word_found))

  pub good_word : (t : Token) → i < length src → (get_or src e 0 ≡ code "_" → ⊥) → t ≡ named (take (e - i) (drop i src)) keywords (Identifier i (e - i)) → Shows src (lexed t e) (word_at i (drop i src))
  good_word t h k r = by_table t (omega (arith, stop_length is_word_byte src i (omega arith))) (whole k) r (spelt (take (e - i) (drop i src)) keywords) refl

-- a sign: of two bytes, of one, or none
module _ (src : List ℕ) (i b : ℕ) (s : List ℕ) (r : Lexed) (is : r ≡ sign_of i b (get_or s 0 0)) where
  by_singles : spelt (b ∷ get_or s 0 0 ∷ []) pairs ≡ none → (o : Option Mark) → spelt (b ∷ []) singles ≡ o → Shows src r (sign_at i (b ∷ s))
  unfolding sign_at sign_of named
  by_singles p none q =
      let u : r ≡ lexed LexicalError (i + 1) = is ∙ rw (p, sign_of) (rw (q, named)) in
      rw u (bad_shows src (i + 1) _ (rw (two b s ∙ p, sign_at) (rw q)))
  by_singles p (some m) q =
      let u : r ≡ lexed (token_of m) (i + 1) = is ∙ rw (p, sign_of) (rw (q, named)) in
      rw u (mark_shows src m _ (i + 1) _ refl (rw (two b s ∙ p, sign_at) (rw q)))

  by_pairs : (o : Option Mark) → spelt (b ∷ get_or s 0 0 ∷ []) pairs ≡ o → Shows src r (sign_at i (b ∷ s))
  unfolding sign_at sign_of
  by_pairs none p = by_singles p (spelt (b ∷ []) singles) refl
  by_pairs (some m) p =
      let u : r ≡ lexed (token_of m) (i + 2) = is ∙ rw (p, sign_of) in
      rw u (mark_shows src m _ (i + 2) _ refl (rw (two b s ∙ p, sign_at)))

  sign_shows : Shows src r (sign_at i (b ∷ s))
  sign_shows = by_pairs (spelt (b ∷ get_or s 0 0 ∷ []) pairs) refl

-- what stands past the blanks
module _ (src : List ℕ) (at i : ℕ) (start : i ≡ stop is_blank src at) where
  here : lex_at src at ≡ lex_here i (drop i src)
  unfolding lex_at
  here = rw (start, drop-drop)

  pub end_case : length src ≤ i → Shows src (lexed EndOfText i) (lex_at src at)
  unfolding lex_here
  end_case h = rw (here, drop_of_length-le src h) (record { means = refl; inside = λ a n e. never (cc); next = refl })

  module _ (inside : i < length src) where
    pub word_case : (r : Lexed) → is_letter (get_or src i 0) ≡ true → Shows src r (word_at i (drop i src)) → Shows src r (lex_at src at)
    unfolding lex_here
    word_case r l h = rw (here, drop-cons src i 0 inside, l, lex_here) (rw (drop-cons src i 0 inside) at h)

    pub number_case : (r : Lexed) → is_letter (get_or src i 0) ≡ false → is_digit (get_or src i 0) ≡ true → Shows src r (number_at i (drop i src)) → Shows src r (lex_at src at)
    unfolding lex_here
    number_case r l d h = rw (here, drop-cons src i 0 inside, l, d, lex_here) (rw (drop-cons src i 0 inside) at h)

    pub sign_case : (r : Lexed) (d : ℕ) → is_letter (get_or src i 0) ≡ false → is_digit (get_or src i 0) ≡ false → r ≡ sign_of i (get_or src i 0) d → d ≡ get_or src (i + 1) 0 → Shows src r (lex_at src at)
    unfolding lex_here
    sign_case r n l d h e =
        let f : n ≡ get_or (drop (suc i) src) 0 0 = e ∙ rw (add-one) (sym (get_or-drop (suc i) src 0 0 ∙ rw add-zero)) in
        rw (here, drop-cons src i 0 inside, l, d, lex_here) (sign_shows src i (get_or src i 0) (drop (suc i) src) r (h ∙ ap (sign_of i (get_or src i 0)) f))

-- past the last token that may be looked at
pub at_end : (t : Token) → t ≡ EndOfText → Beyond t EndOfText
at_end t e = λ src f m i. (ap (λ x. elim x as (λ y. Sight) [ sees f ↦ beyond f | too_many ↦ too_many ]) (sym (ap (meaning src) e) ∙ m), λ a n q. never (cc))

-- n numbers from k on
abbrev pub from : ℕ → ℕ → List ℕ
from k zero = []
from k (suc n) = k ∷ from (suc k) n

pub not_end : (t : Token) → (t ≡ EndOfText → ⊥) → Beyond t TooMany
not_end t h = λ src f m i. (by src f m i, λ a n q. never (cc))
  where
    by : (src : List ℕ) (f : Found) → meaning src t ≡ sees f → Inside src t → too_many ≡ beyond f
    by src (token w) m i = refl
    by src bad m i = refl
    by src too_big m i = refl
    by src end_of_text m i = absurd (h (said src t _ m i))

-- a look: again, at one of the tokens that may be looked at, or past the last of them
abbrev held : Token → (at count : ℕ) → Cursor
held t at n = record { token = t; at = at; count = n; looked = true }

pub look_again : (src : List ℕ) (c : Cursor) → c.looked ≡ true → Looks src c c
look_again src c e = record { again = λ q. refl; first = λ q. never (let z : true ≡ false = sym e ∙ q in cc) }

module _ (src : List ℕ) (c : Cursor) (fresh : c.looked ≡ false) {l : Lexed} (s : Shows src l (lex_at src c.at)) where
  pub look_few : c.count < max_tokens → Looks src c (held l.token l.next (c.count + 1))
  unfolding sight counting
  look_few h = record {
    again = λ q. never (let z : true ≡ false = sym q ∙ fresh in cc);
    first = λ q. record {
      looked = refl;
      means = s.means ∙ rw (lt-ltb _ _ h, sight);
      inside = s.inside;
      next = s.next;
      count = add-one _ ∙ rw (lt-ltb _ _ h, counting);
    };
  }

  pub look_many : (t : Token) → max_tokens ≤ c.count → Beyond l.token t → Looks src c (held t l.next c.count)
  unfolding sight counting
  look_many t h b =
      let p = b src _ s.means s.inside in
      record {
        again = λ q. never (let z : true ≡ false = sym q ∙ fresh in cc);
        first = λ q. record {
          looked = refl;
          means = p.0 ∙ rw (le-ltb _ _ h, sight);
          inside = p.1;
          next = s.next;
          count = rw (le-ltb _ _ h, counting);
        };
      }

-- What is known of the names and literals that a text holds: a name's bytes stand in the text where it says, they are letters
-- and digits, and it is no `#`; a literal is within i64.
use Rattle.std.specs.Prelude.{◌≡◌, refl, Bool, true, false, List, [], ◌∷◌, ℕ, ◌+◌, ◌≤◌, ◌<◌, eqb, leb, length, get_or, take, drop}
use Rattle.std.proofs.Common.{sym, zero-le, suc-le-suc, arith, length-drop, length-take-le, drop-drop, leb-true}
use Rattle.std.proofs.Math.Option.{Option, none, some}
use Prim.Native.Char.{code}
use Rattle.numbers.specs.Bytes.{bytes, is_blank, is_digit, is_letter, is_word_byte, span, every, digits}
use Rattle.numbers.specs.Limits.{greatest}
use Rattle.lexer.specs.Marks.{Mark, keywords, pairs, singles, spelt}
use Rattle.lexer.specs.Tokens.{Name, mark, name, number, token, bad, too_big, word_found, word_at, number_at, sign_at, lex_here, lex_at}

-- a name: bytes of the text, a letter and then letters and digits
pub record Spelt (src : List ℕ) (n : Name) : Type 0 where
  pub fits : n.at + length n.text ≤ length src
  pub is : take (length n.text) (drop n.at src) ≡ n.text
  pub letter : is_letter (get_or n.text 0 0) ≡ true
  pub word : every is_word_byte n.text ≡ true

never : {A : Type 0} → ◌≡◌ {A = ℕ} 0 1 → A
never e = absurd (omega arith)

-- the bytes of a run pass its test
run_passes : (p : ℕ → Bool) (s : List ℕ) → every p (take (span p s) s) ≡ true
unfolding span
run_passes p [] = refl
run_passes p (b ∷ s) = by (p b) refl (run_passes p s)
  where
    by : (x : Bool) → p b ≡ x → every p (take (span p s) s) ≡ true → every p (take (span p (b ∷ s)) (b ∷ s)) ≡ true
    by true e h = rw (e, span) (rw (e, every) h)
    by false e h = rw (e, span)

letter_word : (b : ℕ) → is_letter b ≡ true → is_word_byte b ≡ true
unfolding is_word_byte
letter_word b e = rw e

-- a run that begins with a letter has it in front
run_letter : (b : ℕ) (s : List ℕ) → is_letter b ≡ true → get_or (take (span is_word_byte (b ∷ s)) (b ∷ s)) 0 0 ≡ b
unfolding span
run_letter b s e = rw (letter_word b e, span)

-- a run ends within the text
pub span_length : (p : ℕ → Bool) (s : List ℕ) → span p s ≤ length s
unfolding span
span_length p [] = zero-le
span_length p (b ∷ s) = by (p b) refl (span_length p s)
  where
    by : (x : Bool) → p b ≡ x → span p s ≤ length s → span p (b ∷ s) ≤ length (b ∷ s)
    by true e h = rw (e, span) (suc-le-suc h)
    by false e h = rw (e, span) zero-le

word_name : (at : ℕ) (w : List ℕ) (n : Name) → word_found at w ≡ token (name n) → record { at = at; text = w } ≡ n
unfolding word_found
word_name at w n e = by (spelt w keywords) refl e
  where
    by : (o : Option Mark) → spelt w keywords ≡ o → word_found at w ≡ token (name n) → record { at = at; text = w } ≡ n
    by none q e = (let z : token (name (record { at = at; text = w })) ≡ token (name n) = rw (q, word_found) at e in cc)
    by (some m) q e = never (let z : token (mark m) ≡ token (name n) = rw (q, word_found) at e in cc)

-- the front of a text from a place on
front : (src : List ℕ) (at m : ℕ) → m ≤ length (drop at src) → 0 < m → (at + length (take m (drop at src)) ≤ length src) × (take (length (take m (drop at src))) (drop at src) ≡ take m (drop at src))
front src at m h k = let e = length-take-le m (drop at src) h in rw e (omega (arith, length-drop at src), refl)

word_spelt : (src : List ℕ) (at b : ℕ) (s : List ℕ) (n : Name) → drop at src ≡ b ∷ s → is_letter b ≡ true → (word_at at (b ∷ s)).found ≡ token (name n) → Spelt src n
unfolding word_at span
word_spelt src at b s n d l e = by (eqb (get_or (b ∷ s) (span is_word_byte (b ∷ s)) 0) (code "_")) refl e
  where
    by : (x : Bool) → eqb (get_or (b ∷ s) (span is_word_byte (b ∷ s)) 0) (code "_") ≡ x → (word_at at (b ∷ s)).found ≡ token (name n) → Spelt src n
    by true q e = never (let z : bad ≡ token (name n) = rw (q, word_at) at e in cc)
    by false q e =
        let w = word_name at (take (span is_word_byte (b ∷ s)) (b ∷ s)) n (rw (q, word_at) at e) in
        let some : 0 < span is_word_byte (b ∷ s) = rw (letter_word b l, span) (omega arith) in
        let f = rw d at (front src at (span is_word_byte (b ∷ s)) (rw d (span_length is_word_byte (b ∷ s))) some) in
        rw (← w) (record { fits = f.0; is = rw d f.1; letter = rw (run_letter b s l) l; word = run_passes is_word_byte (b ∷ s) })

number_none : (at : ℕ) (s : List ℕ) (n : Name) → (number_at at s).found ≡ token (name n) → ⊥
unfolding number_at
number_none at s n e = by (leb (digits 0 (take (span is_digit s) s)) greatest) refl e
  where
    by : (x : Bool) → leb (digits 0 (take (span is_digit s) s)) greatest ≡ x → (number_at at s).found ≡ token (name n) → ⊥
    by true q e = never (let z : token (number (digits 0 (take (span is_digit s) s))) ≡ token (name n) = rw (q, number_at) at e in cc)
    by false q e = never (let z : too_big ≡ token (name n) = rw (q, number_at) at e in cc)

sign_none : (at : ℕ) (s : List ℕ) (n : Name) → (sign_at at s).found ≡ token (name n) → ⊥
unfolding sign_at
sign_none at s n e = by (spelt (take 2 s) pairs) (spelt (take 1 s) singles) refl refl e
  where
    by : (o u : Option Mark) → spelt (take 2 s) pairs ≡ o → spelt (take 1 s) singles ≡ u → (sign_at at s).found ≡ token (name n) → ⊥
    by (some m) u q r e = never (let z : token (mark m) ≡ token (name n) = rw (q, sign_at) at e in cc)
    by none (some m) q r e = never (let z : token (mark m) ≡ token (name n) = rw (q, r, sign_at) at e in cc)
    by none none q r e = never (let z : bad ≡ token (name n) = rw (q, r, sign_at) at e in cc)

here_spelt : (src : List ℕ) (at : ℕ) (s : List ℕ) (n : Name) → drop at src ≡ s → (lex_here at s).found ≡ token (name n) → Spelt src n
unfolding lex_here
here_spelt src at [] n d e = never (cc)
here_spelt src at (b ∷ s) n d e = by (is_letter b) (is_digit b) refl refl e
  where
    by : (x y : Bool) → is_letter b ≡ x → is_digit b ≡ y → (lex_here at (b ∷ s)).found ≡ token (name n) → Spelt src n
    by true y q r e = word_spelt src at b s n d q (rw (q, lex_here) at e)
    by false true q r e = absurd (number_none at (b ∷ s) n (rw (q, r, lex_here) at e))
    by false false q r e = absurd (sign_none at (b ∷ s) n (rw (q, r, lex_here) at e))

-- every name that a text holds is one
pub name_spelt : (src : List ℕ) (at : ℕ) (n : Name) → (lex_at src at).found ≡ token (name n) → Spelt src n
unfolding lex_at
name_spelt src at n e = here_spelt src (at + span is_blank (drop at src)) _ n (sym (drop-drop (span is_blank (drop at src)) at src)) e

-- no name is `#`, by which the outermost scope goes
pub not_hash : {src : List ℕ} {n : Name} → Spelt src n → n.text ≡ bytes "#" → ⊥
unfolding is_letter bytes
not_hash s e = never (let z : false ≡ true = rw e at s.letter in cc)

word_none : (at : ℕ) (s : List ℕ) (v : ℕ) → (word_at at s).found ≡ token (number v) → ⊥
unfolding word_at word_found
word_none at s v e = by (eqb (get_or s (span is_word_byte s) 0) (code "_")) (spelt (take (span is_word_byte s) s) keywords) refl refl e
  where
    by : (x : Bool) (o : Option Mark) → eqb (get_or s (span is_word_byte s) 0) (code "_") ≡ x → spelt (take (span is_word_byte s) s) keywords ≡ o → (word_at at s).found ≡ token (number v) → ⊥
    by true o q r e = never (let z : bad ≡ token (number v) = rw (q, word_at) at e in cc)
    by false none q r e = never (let z : token (name (record { at = at; text = take (span is_word_byte s) s })) ≡ token (number v) = rw (q, r, word_at, word_found) at e in cc)
    by false (some m) q r e = never (let z : token (mark m) ≡ token (number v) = rw (q, r, word_at, word_found) at e in cc)

no_sign : (at : ℕ) (s : List ℕ) (v : ℕ) → (sign_at at s).found ≡ token (number v) → ⊥
unfolding sign_at
no_sign at s v e = by (spelt (take 2 s) pairs) (spelt (take 1 s) singles) refl refl e
  where
    by : (o u : Option Mark) → spelt (take 2 s) pairs ≡ o → spelt (take 1 s) singles ≡ u → (sign_at at s).found ≡ token (number v) → ⊥
    by (some m) u q r e = never (let z : token (mark m) ≡ token (number v) = rw (q, sign_at) at e in cc)
    by none (some m) q r e = never (let z : token (mark m) ≡ token (number v) = rw (q, r, sign_at) at e in cc)
    by none none q r e = never (let z : bad ≡ token (number v) = rw (q, r, sign_at) at e in cc)

number_fits : (at : ℕ) (s : List ℕ) (v : ℕ) → (number_at at s).found ≡ token (number v) → v ≤ greatest
unfolding number_at
number_fits at s v e = by (leb (digits 0 (take (span is_digit s) s)) greatest) refl e
  where
    by : (x : Bool) → leb (digits 0 (take (span is_digit s) s)) greatest ≡ x → (number_at at s).found ≡ token (number v) → v ≤ greatest
    by true q e =
        let z : token (number (digits 0 (take (span is_digit s) s))) ≡ token (number v) = rw (q, number_at) at e in
        let y : digits 0 (take (span is_digit s) s) ≡ v = cc in
        rw (← y) (leb-true _ _ q)
    by false q e = never (let z : too_big ≡ token (number v) = rw (q, number_at) at e in cc)

here_fits : (at : ℕ) (s : List ℕ) (v : ℕ) → (lex_here at s).found ≡ token (number v) → v ≤ greatest
unfolding lex_here
here_fits at [] v e = never (cc)
here_fits at (b ∷ s) v e = by (is_letter b) (is_digit b) refl refl e
  where
    by : (x y : Bool) → is_letter b ≡ x → is_digit b ≡ y → (lex_here at (b ∷ s)).found ≡ token (number v) → v ≤ greatest
    by true y q r e = absurd (word_none at (b ∷ s) v (rw (q, lex_here) at e))
    by false true q r e = number_fits at (b ∷ s) v (rw (q, r, lex_here) at e)
    by false false q r e = absurd (no_sign at (b ∷ s) v (rw (q, r, lex_here) at e))

-- every literal that a text holds is within i64
pub literal_fits : (src : List ℕ) (at v : ℕ) → (lex_at src at).found ≡ token (number v) → v ≤ greatest
unfolding lex_at
literal_fits src at v e = here_fits (at + span is_blank (drop at src)) (drop (span is_blank (drop at src)) (drop at src)) v e

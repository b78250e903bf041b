-- Laws of lines made of blanks and words: what passes a test up to a byte that does not, the first word behind blanks, and the
-- parts of a listing's line.
use Rattle.std.specs.Prelude.{◌≡◌, refl, Bool, true, false, not, ℕ, zero, suc, ◌-◌, ◌<◌, pos, length, drop, replicate}
use Rattle.std.proofs.Math.Path.{ap}
use Rattle.std.proofs.Common.{◌∙◌, arith}
use mathlib.Core.List.{List, [], ◌∷◌, ◌++◌}
use Prim.Native.Char.{code}
use Rattle.std.proofs.Math.ListN.{take}
use Rattle.std.proofs.Math.Seq.{take-append_seam, drop-append_seam}
use Rattle.std.proofs.lemmas.Bool.{not-true}
use Rattle.numbers.specs.Bytes.{bytes, is_blank, span, every}
use Rattle.numbers.specs.Line.{not_blank, field}
use Rattle.numbers.specs.Screen.{decimal}
use Rattle.numbers.proofs.Readings.{every_cons, every_first, every_rest}
use Rattle.pcode.specs.Code.{Op, NIL, LIT, OPR, LOD, STO, STA, CAL, INT, JMP, JPC, RED, WRT}
use Rattle.listing.specs.Listing.{letters, column, right_aligned}

-- Tests on all bytes.

-- in front of more
pub every_past : (p : ℕ → Bool) (s t : List ℕ) → every p s ≡ true → every p (s ++ t) ≡ every p t
every_past p [] t h = refl
every_past p (b ∷ s) t h = rw (every_first p b s h, every) (every_past p s t (every_rest p b s h))

-- of one byte, so many times
pub every_replicate : (p : ℕ → Bool) (n b : ℕ) → p b ≡ true → every p (replicate n b) ≡ true
every_replicate p zero b e = refl
every_replicate p (suc n) b e = every_cons p b (replicate n b) e (every_replicate p n b e)

-- bytes that pass, up to one that does not
pub span_stops : (p : ℕ → Bool) (s : List ℕ) (y : ℕ) (r : List ℕ) → every p s ≡ true → p y ≡ false → span p (s ++ y ∷ r) ≡ length s
unfolding span
span_stops p [] y r h e = rw (e, span)
span_stops p (b ∷ s) y r h e = rw (every_first p b s h, span) (ap suc (span_stops p s y r (every_rest p b s h) e))

-- and what stands behind that one
pub drop_past : (s : List ℕ) (y : ℕ) (r : List ℕ) → drop (suc (length s)) (s ++ y ∷ r) ≡ r
drop_past [] y r = refl
drop_past (b ∷ s) y r = drop_past s y r

-- A word behind blanks, up to a blank.

-- it begins with no blank
blanks_end : (s w : List ℕ) (y : ℕ) (r : List ℕ) → every is_blank s ≡ true → 0 < length w → every not_blank w ≡ true → span is_blank (s ++ (w ++ y ∷ r)) ≡ length s
blanks_end s [] y r g h e = absurd (omega arith)
blanks_end s (b ∷ w) y r g h e = span_stops is_blank s b (w ++ y ∷ r) g (not-true (is_blank b) (every_first not_blank b w e))

module _ (s w : List ℕ) (y : ℕ) (r : List ℕ) (front : every is_blank s ≡ true) (there : 0 < length w) (solid : every not_blank w ≡ true) (end : is_blank y ≡ true) where
  -- behind the blanks
  pub word_starts : drop (span is_blank (s ++ (w ++ y ∷ r))) (s ++ (w ++ y ∷ r)) ≡ w ++ y ∷ r
  word_starts = rw (blanks_end s w y r front there solid) (drop-append_seam s (w ++ y ∷ r))

  -- up to the blank
  pub word_ends : span not_blank (w ++ y ∷ r) ≡ length w
  word_ends = span_stops not_blank w y r solid (ap not end)

  -- it is the first field
  pub field_word : field (s ++ (w ++ y ∷ r)) ≡ w
  unfolding field
  field_word = ap (λ (l : List ℕ). take (span not_blank l) l) word_starts ∙ rw word_ends (take-append_seam w (y ∷ r))

-- The parts of a listing's line.

-- a kind has three letters
pub letters_three : (o : Op) → length (bytes (letters o)) ≡ 3
unfolding letters bytes
letters_three NIL = refl
letters_three LIT = refl
letters_three OPR = refl
letters_three LOD = refl
letters_three STO = refl
letters_three STA = refl
letters_three CAL = refl
letters_three INT = refl
letters_three JMP = refl
letters_three JPC = refl
letters_three RED = refl
letters_three WRT = refl

-- the blanks in front of a number that is right-aligned
abbrev pub padding : ℕ → List ℕ
padding n = replicate (column - length (decimal (pos n))) (code " ")

-- what a blank and the digits pass, they pass together
pub every_aligned : (p : ℕ → Bool) (n : ℕ) → p (code " ") ≡ true → every p (decimal (pos n)) ≡ true → every p (right_aligned n) ≡ true
unfolding right_aligned
every_aligned p n e h = every_past p (padding n) (decimal (pos n)) (every_replicate p (column - length (decimal (pos n))) (code " ") e) ∙ h

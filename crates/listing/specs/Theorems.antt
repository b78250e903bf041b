-- What list's contract settles, in a form to cite: one outcome, whole lines only, the whole text where it fits, and different
-- texts for different lists.
use Rattle.std.specs.Prelude.{◌≡◌, refl, Bool, true, false, List, [], ◌∷◌, ◌++◌, ℕ, suc, ◌+◌, ◌≤◌, ◌<◌, leb, length, take}
use Rattle.std.proofs.Common.{sym, ap, ◌∙◌, append-nil, append_assoc, arith, add-one, le-leb, leb-true, leb-false, length-append, take_at}
use Rattle.std.proofs.Math.Seq.{take-length}
use Rattle.numbers.specs.Panel.{done, output_full}
use Rattle.numbers.specs.Limits.{max_code}
use Rattle.numbers.specs.Screen.{fits_in}
use Rattle.pcode.specs.Code.{Instr, Code, instrs_in, AllHeld}
use Rattle.listing.specs.declared.lists.Listed as C
use Rattle.listing.specs.Listing.{line_of, lines_from, list_text}
use Rattle.listing.specs.Outcome.{Listed, ends, lines_into, listed, ListOutcome, list_leaves, list_outcome}
use Rattle.listing.specs.Answers.{listed_of}
use Rattle.listing.specs.ReadBack.{different_lists}
use Rattle.listing.specs.Sizes.{longest_listing, listing_most}

-- two outcomes that meet list's contract coincide: what is returned, and the output
pub list_determined : (code : Code) (out : List ℕ) (r r' : C.Listed) (o o' : List ℕ)
    → listed_of r o ≡ list_outcome code out → listed_of r' o' ≡ list_outcome code out → (r ≡ r') × (o ≡ o')
list_determined code out r r' o o' p q =
    let e : listed_of r o ≡ listed_of r' o' = p ∙ sym q in (
      ap (λ (x : ListOutcome). record { number = x.number; out_len = x.out_length }) e,
      ap (λ (x : ListOutcome). x.out) e,
    )

-- one line more
lines_snoc : (k : ℕ) (front : List Instr) (i : Instr) → lines_from k (front ++ i ∷ []) ≡ lines_from k front ++ line_of (k + length front) i
unfolding lines_from
lines_snoc k [] i = let n : k + 0 ≡ k = omega arith in append-nil (line_of k i) ∙ ap (λ (j : ℕ). line_of j i) (sym n)
lines_snoc k (x ∷ front) i =
    let n : suc k + length front ≡ k + suc (length front) = omega arith in
    ap (λ (t : List ℕ). line_of k x ++ t) (lines_snoc (suc k) front i ∙ ap (λ (j : ℕ). lines_from (suc k) front ++ line_of j i) n)
    ∙ sym (append_assoc (line_of k x) (lines_from (suc k) front) (line_of (k + suc (length front)) i))

text_snoc : (front : List Instr) (i : Instr) → list_text (front ++ i ∷ []) ≡ list_text front ++ line_of (length front) i
unfolding list_text
text_snoc front i = let n : 0 + length front ≡ length front = omega arith in lines_snoc 0 front i ∙ ap (λ (j : ℕ). lines_from 0 front ++ line_of j i) n

-- how a listing of so many lines ends: no instruction is left, or the next line does not fit
pub data Ending (is : List Instr) (room lines : ℕ) : ℕ → Type 0 where
  all : lines ≡ length is → Ending is room lines done
  next : lines < length is → room < length (list_text (take (suc lines) is)) → Ending is room lines output_full

-- "Output is whole lines only": what is written is the listing of the first instructions
pub record Whole (is : List Instr) (room : ℕ) (l : Listed) : Type 0 where
  pub lines : ℕ
  pub text : l.text ≡ list_text (take lines is)
  pub fits : length l.text ≤ room
  pub ending : Ending is room lines l.number

-- all of a list that stands in front
take_front : (front rest : List Instr) → take (length front) (front ++ rest) ≡ front
take_front front rest = take_at front rest (length front) refl

-- so from the instructions on that are still to be written, behind those that are
whole_from : (front is : List Instr) (room : ℕ) → length (list_text front) ≤ room → Whole (front ++ is) room (lines_into room (length front) is (list_text front))
unfolding lines_into
whole_from front [] room h = record {
  lines = length front;
  text = ap list_text (sym (take_front front []));
  fits = h;
  ending = all (ap length (sym (append-nil front)));
}
whole_from front (i ∷ is) room h = by (fits_in room (list_text front) (line_of (length front) i)) refl (whole_from (front ++ i ∷ []) is room)
  where
    line : List ℕ
    line = line_of (length front) i

    more : length (front ++ i ∷ []) ≡ suc (length front)
    more = length-append front (i ∷ []) ∙ add-one (length front)

    longer : length (list_text (front ++ i ∷ [])) ≡ length (list_text front) + length line
    longer = ap length (text_snoc front i) ∙ length-append (list_text front) line

    by : (t : Bool) → fits_in room (list_text front) line ≡ t
        → (length (list_text (front ++ i ∷ [])) ≤ room → Whole (front ++ i ∷ [] ++ is) room (lines_into room (length (front ++ i ∷ [])) is (list_text (front ++ i ∷ []))))
        → Whole (front ++ (i ∷ is)) room (lines_into room (length front) (i ∷ is) (list_text front))
    by true e later =
        rw (e, lines_into)
        (rw (more, text_snoc front i, append_assoc front (i ∷ []) is) at (later (omega (arith, longer, leb-true (length (list_text front) + length line) room e))))
    by false e later =
        let one : take (suc (length front)) (front ++ (i ∷ is)) ≡ front ++ i ∷ [] = rw (← more, ← append_assoc front (i ∷ []) is) (take_front (front ++ i ∷ []) is) in
        rw (e, lines_into) (record {
          lines = length front;
          text = ap list_text (sym (take_front front (i ∷ is)));
          fits = h;
          ending = next (omega (arith, length-append front (i ∷ is))) (rw one (omega (arith, longer, leb-false (length (list_text front) + length line) room e)));
        })

-- "23 when the next line doesn't fit, with the earlier lines kept"
pub whole_lines : (is : List Instr) (room : ℕ) → length is ≤ max_code → Whole is room (listed is room)
unfolding listed list_text lines_from
whole_lines is room few = rw (le-leb (length is) max_code few, listed) (whole_from [] is room (omega arith))

-- the lines from an index on, where all of them fit
all_fit : (room index : ℕ) (is : List Instr) (text : List ℕ) → length text + length (lines_from index is) ≤ room → lines_into room index is text ≡ ends done (text ++ lines_from index is)
unfolding lines_into lines_from
all_fit room index [] text h = ap (ends done) (sym (append-nil text))
all_fit room index (i ∷ is) text h =
    let line = line_of index i in
    let sum = length-append line (lines_from (suc index) is) in
    rw (le-leb (length text + length line) room (omega arith), lines_into)
    (all_fit room (suc index) is (text ++ line) (omega (arith, length-append text line)) ∙ ap (ends done) (append_assoc text line (lines_from (suc index) is)))

-- the whole text is written where it fits
pub list_whole : (is : List Instr) (room : ℕ) → length is ≤ max_code → length (list_text is) ≤ room → listed is room ≡ ends done (list_text is)
unfolding listed list_text
list_whole is room few h = rw (le-leb (length is) max_code few, listed) (all_fit room 0 is [] (omega (arith, h)))

-- a room of 159,744 bytes is enough for every listing
pub list_long_enough : (is : List Instr) (room : ℕ) → AllHeld is → length is ≤ max_code → longest_listing ≤ room → listed is room ≡ ends done (list_text is)
list_long_enough is room held few h = list_whole is room few (omega (arith, listing_most is held few))

-- with 0 the text is the listing of the whole list
pub done_whole : (is : List Instr) (room : ℕ) → (listed is room).number ≡ done → (listed is room).text ≡ list_text is
unfolding listed
done_whole is room e = by (leb (length is) max_code) refl
  where
    told : {n lines : ℕ} → Ending is room lines n → n ≡ done → lines ≡ length is
    told (all h) d = h
    told (next h k) d = absurd (omega (arith, d))

    by : (t : Bool) → leb (length is) max_code ≡ t → (listed is room).text ≡ list_text is
    by true h =
        let w = whole_lines is room (leb-true (length is) max_code h) in
        w.text ∙ ap list_text (ap (λ (n : ℕ). take n is) (told w.ending e) ∙ take-length is)
    by false h = let clash : ◌≡◌ {A = ℕ} 15 0 = rw (h, listed) at e in absurd (omega (arith, clash))

-- the bytes that an outcome says were written
abbrev pub paper : ListOutcome → List ℕ
paper o = take o.out_length o.out

paper_text : (code : Code) (out : List ℕ) → paper (list_outcome code out) ≡ (listed (instrs_in code) (length out)).text
unfolding list_outcome list_leaves
paper_text code out = take_at (listed (instrs_in code) (length out)).text _ _ refl

-- "different lists give different texts where both fit": of two lists listed in full on the same paper, whatever the rooms,
-- the instructions are the same
pub same_paper : (code code' : Code) (out out' : List ℕ) → AllHeld (instrs_in code) → AllHeld (instrs_in code')
    → (list_outcome code out).number ≡ done → (list_outcome code' out').number ≡ done
    → paper (list_outcome code out) ≡ paper (list_outcome code' out') → instrs_in code ≡ instrs_in code'
unfolding list_outcome list_leaves
same_paper code code' out out' h h' d d' e =
    different_lists (instrs_in code) (instrs_in code') h h'
    (sym (done_whole (instrs_in code) (length out) d)
    ∙ sym (paper_text code out)
    ∙ e
    ∙ paper_text code' out'
    ∙ done_whole (instrs_in code') (length out') d')

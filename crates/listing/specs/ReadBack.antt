-- A listing read back: a left inverse of `list_text`. A line is read loosely: behind its bar stand three fields, the kind, the
-- level and the operand. Since the list can be told from its text, different lists have different listings.
use Rattle.std.specs.Prelude.{◌≡◌, Bool, true, false, not, ℕ, suc, ◌-◌, ◌≤◌, ◌<◌, ℤ, pos, eqb, drop}
use Rattle.std.proofs.Math.Path.{refl}
use Rattle.std.proofs.Common.{sym, ap, ◌∙◌, arith, ne_eqb}
use mathlib.Core.List.{List, [], ◌∷◌, ◌++◌, append_assoc}
use Rattle.std.proofs.Math.Option.{Option, none, some}
use Prim.Native.Char.{code}
use Rattle.std.proofs.Math.ListN.{length}
use Rattle.std.proofs.Math.Seq.{drop-append_seam}
use Rattle.std.proofs.lemmas.Bool.{not-true}
use Rattle.numbers.specs.Bytes.{bytes, eq_list, line_end, is_blank, is_digit, span, every}
use Rattle.numbers.specs.Line.{not_blank, not_newline, field, magnitude, value_of}
use Rattle.numbers.specs.Screen.{decimal, newline}
use Rattle.numbers.specs.Arithmetic.{fits}
use Rattle.numbers.proofs.Signs.{clash}
use Rattle.numbers.proofs.Fields.{digit_high}
use Rattle.numbers.proofs.Readings.{every_first, every_rest, every_so, decimal_digits, decimal_some, decimal_solid, magnitude_decimal, value_decimal}
use Rattle.pcode.specs.Code.{Op, NIL, LIT, OPR, LOD, STO, STA, CAL, INT, JMP, JPC, RED, WRT, Instr, ins, kinds, max_level, Held, AllHeld}
use Rattle.listing.specs.Listing.{letters, column, right_aligned, line_of, lines_from, list_text}
use Rattle.listing.specs.LineLaws.{every_past, every_replicate, span_stops, drop_past, word_starts, word_ends, field_word, letters_three, padding, every_aligned}

-- a byte before the bar
abbrev pub not_bar : ℕ → Bool
not_bar b = not (eqb b (code "|"))

-- what stands behind the bar of a line
unfoldable pub behind_bar : List ℕ → List ℕ
behind_bar l = drop (suc (span not_bar l)) l

-- what stands behind the first field
unfoldable pub behind_field : List ℕ → List ℕ
behind_field l = let s = drop (span is_blank l) l in drop (span not_blank s) s

-- the first of these kinds that is spelled so
unfoldable pub spelled_in : List Op → List ℕ → Option Op
spelled_in [] w = none
spelled_in (o ∷ os) w = elim (eq_list w (bytes (letters o))) [ true ↦ some o | false ↦ spelled_in os w ]

-- the kind that is spelled so
unfoldable pub kind_spelled : List ℕ → Option Op
kind_spelled w = spelled_in (NIL ∷ kinds) w

-- the instruction of a kind, a level and an operand, if all are there
unfoldable pub instr_from : Option Op → Option ℕ → Option ℤ → Option Instr
instr_from none l a = none
instr_from (some o) none a = none
instr_from (some o) (some l) none = none
instr_from (some o) (some l) (some a) = some (ins o l a)

-- the instruction on a line
unfoldable pub instr_on : List ℕ → Option Instr
instr_on line =
    let kind = behind_bar line in
    let level = behind_field kind in
    let operand = behind_field level in
    instr_from (kind_spelled (field kind)) (magnitude max_level (field level)) (value_of (field operand))

-- a byte in front of the first line
unfoldable pub in_front : ℕ → List (List ℕ) → List (List ℕ)
in_front b [] = (b ∷ []) ∷ []
in_front b (l ∷ ls) = (b ∷ l) ∷ ls

-- a text cut behind each newline
unfoldable pub lines_in : List ℕ → List (List ℕ)
lines_in [] = []
lines_in (b ∷ bs) = elim (eqb b line_end) [ true ↦ (b ∷ []) ∷ lines_in bs | false ↦ in_front b (lines_in bs) ]

-- an instruction in front of others, if all are there
unfoldable pub joined : Option Instr → Option (List Instr) → Option (List Instr)
joined none is = none
joined (some i) none = none
joined (some i) (some is) = some (i ∷ is)

-- the instructions on lines
unfoldable pub instrs_on : List (List ℕ) → Option (List Instr)
instrs_on [] = some []
instrs_on (l ∷ ls) = joined (instr_on l) (instrs_on ls)

-- the instructions that a listing tells
unfoldable pub read_back : List ℕ → Option (List Instr)
read_back text = instrs_on (lines_in text)

-- What is read from a line.

-- behind the bar
behind_bar_lem : (s r : List ℕ) → every not_bar s ≡ true → behind_bar (s ++ code "|" ∷ r) ≡ r
unfolding behind_bar
behind_bar_lem s r h = rw (span_stops not_bar s (code "|") r h refl) (drop_past s (code "|") r)

-- behind a word
behind_word : (s w : List ℕ) (y : ℕ) (r : List ℕ) → every is_blank s ≡ true → 0 < length w → every not_blank w ≡ true → is_blank y ≡ true
    → behind_field (s ++ (w ++ y ∷ r)) ≡ y ∷ r
unfolding behind_field
behind_word s w y r front there solid end =
    ap (λ (l : List ℕ). drop (span not_blank l) l) (word_starts s w y r front there solid end)
    ∙ rw (word_ends s w y r front there solid end) (drop-append_seam w (y ∷ r))

-- a line from its operand on, with the blanks in front
unfoldable from_operand : ℤ → List ℕ
from_operand a = bytes "   " ++ (decimal a ++ newline)

-- from its level on
unfoldable from_level : ℕ → ℤ → List ℕ
from_level n a = (code " " ∷ padding n) ++ (decimal (pos n) ++ from_operand a)

-- from its kind on
unfoldable from_kind : Op → ℕ → ℤ → List ℕ
from_kind o n a = bytes " " ++ (bytes (letters o) ++ from_level n a)

-- a line is an index, a bar and these
line_parts : (index : ℕ) (i : Instr) → line_of index i ≡ right_aligned index ++ code "|" ∷ from_kind i.op i.level i.operand
unfolding line_of bytes right_aligned from_kind from_level from_operand
line_parts index i = simp append_assoc

-- no digit is a bar
digit_no_bar : (b : ℕ) → is_digit b ≡ true → not_bar b ≡ true
digit_no_bar b e = let high : b ≤ 57 = digit_high b e in rw (ne_eqb b 124 (λ h. omega arith))

-- so none is in front of the bar
index_no_bar : (n : ℕ) → every not_bar (right_aligned n) ≡ true
index_no_bar n = every_aligned not_bar n refl (every_so is_digit not_bar digit_no_bar (decimal (pos n)) (decimal_digits n))

-- no blank is among the letters of a kind, and there are letters
letters_solid : (o : Op) → every not_blank (bytes (letters o)) ≡ true
unfolding letters bytes is_blank
letters_solid NIL = refl
letters_solid LIT = refl
letters_solid OPR = refl
letters_solid LOD = refl
letters_solid STO = refl
letters_solid STA = refl
letters_solid CAL = refl
letters_solid INT = refl
letters_solid JMP = refl
letters_solid JPC = refl
letters_solid RED = refl
letters_solid WRT = refl

letters_some : (o : Op) → 0 < length (bytes (letters o))
letters_some o = omega (arith, letters_three o)

-- a kind is told from its letters
spelled : (o : Op) → kind_spelled (bytes (letters o)) ≡ some o
unfolding letters bytes kind_spelled spelled_in kinds
spelled NIL = refl
spelled LIT = refl
spelled OPR = refl
spelled LOD = refl
spelled STO = refl
spelled STA = refl
spelled CAL = refl
spelled INT = refl
spelled JMP = refl
spelled JPC = refl
spelled RED = refl
spelled WRT = refl

-- the three fields, and what stands behind the first two
module _ (o : Op) (n : ℕ) (a : ℤ) where
  kind_field : field (from_kind o n a) ≡ bytes (letters o)
  unfolding from_kind from_level bytes is_blank
  kind_field = field_word (bytes " ") (bytes (letters o)) (code " ") (padding n ++ (decimal (pos n) ++ from_operand a)) refl (letters_some o) (letters_solid o) refl

  behind_kind : behind_field (from_kind o n a) ≡ from_level n a
  unfolding from_kind from_level bytes is_blank
  behind_kind = behind_word (bytes " ") (bytes (letters o)) (code " ") (padding n ++ (decimal (pos n) ++ from_operand a)) refl (letters_some o) (letters_solid o) refl

  padding_blank : every is_blank (code " " ∷ padding n) ≡ true
  unfolding is_blank
  padding_blank = every_replicate is_blank (column - length (decimal (pos n))) (code " ") refl

  level_field : field (from_level n a) ≡ decimal (pos n)
  unfolding from_level from_operand bytes is_blank
  level_field = field_word (code " " ∷ padding n) (decimal (pos n)) (code " ") (bytes "  " ++ (decimal a ++ newline)) padding_blank (decimal_some (pos n)) (decimal_solid (pos n)) refl

  behind_level : behind_field (from_level n a) ≡ from_operand a
  unfolding from_level from_operand bytes is_blank
  behind_level = behind_word (code " " ∷ padding n) (decimal (pos n)) (code " ") (bytes "  " ++ (decimal a ++ newline)) padding_blank (decimal_some (pos n)) (decimal_solid (pos n)) refl

  operand_field : field (from_operand a) ≡ decimal a
  unfolding from_operand bytes is_blank
  operand_field = field_word (bytes "   ") (decimal a) line_end [] refl (decimal_some a) (decimal_solid a) refl

  -- so all three are read
  read_parts : n ≤ max_level → fits a ≡ true → (l : List ℕ) → behind_bar l ≡ from_kind o n a → instr_on l ≡ some (ins o n a)
  unfolding instr_on instr_from
  read_parts h e l bar =
      let level : magnitude max_level (decimal (pos n)) ≡ some n = magnitude_decimal max_level n h (omega arith) in
      rw (bar, behind_kind, behind_level, kind_field, level_field, operand_field, spelled o, level, value_decimal a e)

-- the instruction is read from its line
pub read_line_lem : (index : ℕ) (i : Instr) → Held i → instr_on (line_of index i) ≡ some i
read_line_lem index i held =
    let rest : List ℕ = from_kind i.op i.level i.operand in
    let bar : behind_bar (line_of index i) ≡ rest = ap behind_bar (line_parts index i) ∙ behind_bar_lem (right_aligned index) rest (index_no_bar index) in
    read_parts i.op i.level i.operand held.level held.operand (line_of index i) bar

-- What is read from lines.

-- a text is cut behind its first newline
cut_line : (s r : List ℕ) → every not_newline s ≡ true → lines_in (s ++ line_end ∷ r) ≡ (s ++ newline) ∷ lines_in r
unfolding lines_in in_front
cut_line [] r h = refl
cut_line (b ∷ s) r h =
    let other : eqb b line_end ≡ false = not-true (eqb b line_end) (every_first not_newline b s h) in
    rw (other, lines_in) (ap (in_front b) (cut_line s r (every_rest not_newline b s h)))

-- what is no blank ends no line
solid_goes_on : (b : ℕ) → not_blank b ≡ true → not_newline b ≡ true
unfolding is_blank
solid_goes_on b e = ap not (ne_eqb b line_end (λ h. clash (sym (rw h at e))))

-- nor does a word
goes_on : (s : List ℕ) → every not_blank s ≡ true → every not_newline s ≡ true
goes_on = every_so not_blank not_newline solid_goes_on

-- nor a number right-aligned
aligned_goes_on : (n : ℕ) → every not_newline (right_aligned n) ≡ true
aligned_goes_on n = every_aligned not_newline n refl (goes_on (decimal (pos n)) (decimal_solid (pos n)))

-- a line up to its newline
unfoldable before : ℕ → Instr → List ℕ
before index i =
    right_aligned index
    ++ bytes "| "
    ++ bytes (letters i.op)
    ++ bytes " "
    ++ right_aligned i.level
    ++ bytes "   "
    ++ decimal i.operand

-- it has no newline before
before_goes_on : (index : ℕ) (i : Instr) → every not_newline (before index i) ≡ true
unfolding before bytes
before_goes_on index i =
    let first : every not_newline (right_aligned index) ≡ true = aligned_goes_on index in
    let second : every not_newline (bytes (letters i.op)) ≡ true = goes_on (bytes (letters i.op)) (letters_solid i.op) in
    let third : every not_newline (right_aligned i.level) ≡ true = aligned_goes_on i.level in
    let tail : List ℕ = bytes "   " ++ decimal i.operand in
    let behind : List ℕ = bytes " " ++ (right_aligned i.level ++ tail) in
    simp append_assoc
    (every_past not_newline (right_aligned index) (bytes "| " ++ (bytes (letters i.op) ++ behind)) first
    ∙ every_past not_newline (bytes (letters i.op)) behind second
    ∙ every_past not_newline (right_aligned i.level) tail third
    ∙ goes_on (decimal i.operand) (decimal_solid i.operand))

-- a line is cut off a text that begins with it
cut_first : (index : ℕ) (i : Instr) (r : List ℕ) → lines_in (line_of index i ++ r) ≡ line_of index i ∷ lines_in r
unfolding line_of before
cut_first index i r = ap lines_in (append_assoc (before index i) newline r) ∙ cut_line (before index i) r (before_goes_on index i)

-- the instructions are read from the lines from an index on
read_lines : (index : ℕ) (is : List Instr) → AllHeld is → instrs_on (lines_in (lines_from index is)) ≡ some is
unfolding instrs_on lines_in lines_from joined
read_lines index [] held = refl
read_lines index (i ∷ is) held = rw (cut_first index i (lines_from (suc index) is), instrs_on) (rw (read_line_lem index i held.0, read_lines (suc index) is held.1))

-- a listing tells its code list
pub read_back_lem : (is : List Instr) → AllHeld is → read_back (list_text is) ≡ some is
unfolding read_back list_text
read_back_lem is held = read_lines 0 is held

-- different code lists have different listings
pub different_lists : (a b : List Instr) → AllHeld a → AllHeld b → list_text a ≡ list_text b → a ≡ b
different_lists a b ha hb e = let same : some a ≡ some b = sym (read_back_lem a ha) ∙ ap read_back e ∙ read_back_lem b hb in cc

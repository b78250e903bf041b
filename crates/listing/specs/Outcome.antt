-- The public outcome of list: number, bytes written, and the whole output room afterwards, on every input.
use Rattle.std.specs.Prelude.{◌≡◌, true, false, List, [], ◌∷◌, ◌++◌, ℕ, suc, leb, length}
use Rattle.std.proofs.Common.{sym, ◌∙◌}
use Rattle.numbers.specs.Panel.{done, too_many_instructions, output_full}
use Rattle.numbers.specs.Limits.{max_code}
use Rattle.numbers.specs.Screen.{fits_in}
use Rattle.numbers.specs.Lent.{onto}
use Rattle.pcode.specs.Code.{Instr, Code, instrs_in}
use Rattle.listing.specs.Listing.{line_of}

-- how a listing ends: its number, and the text written
pub record Listed : Type 0 where
  pub number : ℕ
  pub text : List ℕ

abbrev pub ends : ℕ → List ℕ → Listed
ends n t = record { number = n; text = t }

-- "23 when the next line doesn't fit, with the earlier lines kept": the lines from an index on, behind the text so far
unfoldable pub lines_into : ℕ → ℕ → List Instr → List ℕ → Listed
lines_into room index [] text = ends done text
lines_into room index (i ∷ is) text =
    elim (fits_in room text (line_of index i)) [
      | true ↦ lines_into room (suc index) is (text ++ line_of index i)
      | false ↦ ends output_full text
    ]

-- "15 as in run", before any line
unfoldable pub listed : List Instr → ℕ → Listed
listed code room =
    elim (leb (length code) max_code) [
      | true ↦ lines_into room 0 code []
      | false ↦ ends too_many_instructions []
    ]

-- number, bytes written; the output
pub record ListOutcome : Type 0 where
  pub number : ℕ
  pub out_length : ℕ
  pub out : List ℕ

-- output past the written bytes is untouched
unfoldable pub list_leaves : Listed → List ℕ → ListOutcome
list_leaves l out = record { number = l.number; out_length = length l.text; out = onto out l.text }

-- code list; output, as lent
unfoldable pub list_outcome : Code → List ℕ → ListOutcome
list_outcome code out = list_leaves (listed (instrs_in code) (length out)) out

-- the outcome is a function of what is given and lent: two outcomes that meet the equation coincide
pub one_list : (code : Code) (out : List ℕ) (x y : ListOutcome) → x ≡ list_outcome code out → y ≡ list_outcome code out → x ≡ y
one_list code out x y p q = p ∙ sym q

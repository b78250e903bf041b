-- The table of numbers: what each means in plain words, the message of a refusal, and the status of the program.
use Rattle.std.specs.Prelude.{true, false, List, [], ◌∷◌, ◌++◌, ℕ, zero, suc, eqb, take, drop}
use Prim.Native.String.{String}
use Rattle.numbers.specs.Bytes.{bytes, line_end, within}
use Rattle.numbers.specs.Panel.{done, budget_spent, output_full}
use Rattle.desk.specs.Page.{count}

-- the bytes before the end of the first line
unfoldable pub line_span : List ℕ → ℕ
line_span [] = 0
line_span (b ∷ bs) = elim (eqb b line_end) [ true ↦ 0 | false ↦ suc (line_span bs) ]

-- what follows the first line
unfoldable pub after_line : List ℕ → List ℕ
after_line s = drop (suc (line_span s)) s

-- the line of that number, counted from 0
unfoldable pub line_at : ℕ → List ℕ → List ℕ
line_at zero s = take (line_span s) s
line_at (suc n) s = line_at n (after_line s)

-- texts as lines
unfoldable pub lines : List String → List ℕ
lines [] = []
lines (t ∷ ts) = bytes t ++ (line_end ∷ lines ts)

-- what the numbers mean, from 0 on
unfoldable pub meanings : List String
meanings =
    "done"
    ∷ "the source is over 32,768 bytes"
    ∷ "a byte of 128 or more stands in the source"
    ∷ "a bad token"
    ∷ "a literal above 9223372036854775807"
    ∷ "a required token is not there, or the text ends"
    ∷ "the main body failed quietly"
    ∷ "a 65th construct opens at once"
    ∷ "an 8,193rd token"
    ∷ "a name is already in this scope"
    ∷ "a name is not found"
    ∷ "a name is of the wrong kind"
    ∷ "the wrong number of arguments"
    ∷ "a variable or procedure that is found has a level above the current one"
    ∷ "a 513th symbol row"
    ∷ "a 4,097th instruction"
    ∷ "the budget was spent before the program halted"
    ∷ "a cell outside 0..4095, or a top outside 0..4096"
    ∷ "a jump, call or return to outside the code, or a fetch past its end"
    ∷ "a result outside i64, also of negating or dividing the least value by -1"
    ∷ "a division by zero"
    ∷ "NIL, or an OPR number outside 0..16"
    ∷ "the next entry is bad or missing"
    ∷ "the output of this step does not fit"
    ∷ "the lent room is too small"
    ∷ "the sheet has a procedure, and only run takes those"
    ∷ []

-- what a number means
unfoldable pub meaning_of : ℕ → List ℕ
meaning_of n = line_at n (lines meanings)

-- a line of the table
unfoldable pub row : ℕ → List ℕ
row n = count n ++ bytes "  " ++ meaning_of n ++ (line_end ∷ [])

-- the message of a refusal: the sheet's name first, the number, and what it means
unfoldable pub refusal : List ℕ → ℕ → List ℕ
refusal name n = name ++ bytes ": refused with " ++ count n ++ bytes ": " ++ meaning_of n ++ (line_end ∷ [])

-- the status that the program ends with: 0 done, 1 a refused sheet, 2 a refused run
unfoldable pub status_of : ℕ → ℕ
status_of n = elim (eqb n done) [ true ↦ 0 | false ↦ elim (within budget_spent output_full n) [ true ↦ 2 | false ↦ 1 ] ]

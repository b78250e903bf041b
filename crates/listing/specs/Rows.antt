-- Rows of listings: the line that 02 shows, columns that are wider than four, a kind that is none, the least operand, and a
-- line that does not fit.
use Rattle.std.specs.Prelude.{◌≡◌, refl, List, [], ◌∷◌, ◌++◌, pos, negsuc}
use Rattle.std.proofs.Math.Option.{some}
use Rattle.numbers.specs.Bytes.{bytes, is_blank, is_digit, span, digits}
use Rattle.numbers.specs.Panel.{done, output_full}
use Rattle.numbers.specs.Screen.{decimal_of, decimal, newline}
use Rattle.numbers.specs.Line.{field, magnitude, plus, minus, value_of}
use Rattle.pcode.specs.Code.{LIT, JMP, INT, Instr, ins, kind_of, kinds}
use Rattle.listing.specs.Listing.{letters, right_aligned, line_of, lines_from, list_text}
use Rattle.listing.specs.Outcome.{ends, lines_into, listed}
use Rattle.listing.specs.ReadBack.{behind_bar, behind_field, spelled_in, kind_spelled, instr_from, instr_on, in_front, lines_in, joined, instrs_on, read_back}

-- "So `   0| JMP    0   1`"; four is a least width
lines_written :
    (line_of 0 (ins JMP 0 (pos 1)) ≡ bytes "   0| JMP    0   1" ++ newline)
    × (line_of 4095 (ins LIT 65535 (negsuc 9223372036854775807)) ≡ bytes "4095| LIT 65535   -9223372036854775808" ++ newline)
    × (line_of 12 (ins (kind_of (pos 42)) 345 (pos 0)) ≡ bytes "  12| NIL  345   0" ++ newline)
unfolding bytes decimal_of decimal letters right_aligned line_of kind_of kinds
lines_written = (refl, refl, refl)

-- the first two instructions of a sheet
abbrev two : List Instr
two = ins JMP 0 (pos 1) ∷ ins INT 0 (pos 3) ∷ []

-- "23 when the next line doesn't fit, with the earlier lines kept": each line has 19 bytes
rooms_left :
    (listed two 38 ≡ ends done (bytes "   0| JMP    0   1" ++ newline ++ bytes "   1| INT    0   3" ++ newline))
    × (listed two 37 ≡ ends output_full (bytes "   0| JMP    0   1" ++ newline))
    × (listed two 18 ≡ ends output_full [])
unfolding bytes decimal_of decimal letters right_aligned line_of lines_into listed
rooms_left = (refl, refl, refl)

-- the two are read back
read_two : read_back (list_text two) ≡ some two
unfolding bytes is_blank is_digit span digits decimal_of decimal field magnitude plus minus value_of kinds letters right_aligned line_of lines_from list_text behind_bar behind_field spelled_in kind_spelled instr_from instr_on in_front lines_in joined instrs_on read_back
read_two = refl

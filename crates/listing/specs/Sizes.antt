-- The longest listing: how many bytes a line has at most, and all lines of a code list.
use Rattle.std.specs.Prelude.{◌≡◌, true, List, [], ◌∷◌, ℕ, suc, ◌+◌, ◌-◌, ◌*◌, ◌^◌, ◌≤◌, ◌<◌, ℤ, pos, negsuc, length}
use Prim.Native.Char.{code}
use Rattle.std.proofs.Common.{arith, length-append, ltb-true}
use Rattle.std.proofs.lemmas.List.{length-replicate}
use Rattle.numbers.specs.Limits.{max_code, least_magnitude}
use Rattle.numbers.specs.Bytes.{bytes}
use Rattle.numbers.specs.Arithmetic.{fits}
use Rattle.numbers.specs.Screen.{decimal}
use Rattle.numbers.proofs.Readings.{decimal_few}
use Rattle.pcode.specs.Code.{Instr, Held, AllHeld}
use Rattle.listing.specs.Listing.{column, right_aligned, line_of, lines_from, list_text}
use Rattle.listing.specs.LineLaws.{letters_three, padding}

-- bytes of a line: an index of 4 digits, a level of 5, an operand of 19 and a minus, and 10 between and behind them
abbrev pub longest_line : ℕ
longest_line = 39

-- bytes of a listing: 4,096 lines
abbrev pub longest_listing : ℕ
longest_listing = 159744

-- a column is as wide as its number where that is wider
aligned_most : (k n : ℕ) → column ≤ suc k → n < 10 ^ suc k → length (right_aligned n) ≤ suc k
unfolding right_aligned
aligned_most k n g h =
    let pad : length (padding n) ≡ column - length (decimal (pos n)) = length-replicate (column - length (decimal (pos n))) (code " ") in
    omega (arith, length-append (padding n) (decimal (pos n)), decimal_few k n h)

-- a minus, and 19 digits
operand_most : (a : ℤ) → fits a ≡ true → length (decimal a) ≤ 20
unfolding fits decimal
operand_most (pos n) h =
    let small : n < least_magnitude = ltb-true n least_magnitude h in
    omega (arith, decimal_few 18 n (omega arith))
operand_most (negsuc n) h =
    let small : n < least_magnitude = ltb-true n least_magnitude h in
    omega (arith, decimal_few 18 (suc n) (omega arith))

-- all parts of a line
pub line_most : (index : ℕ) (i : Instr) → index < max_code → Held i → length (line_of index i) ≤ longest_line
unfolding line_of bytes
line_most index i h held =
    simp length-append (omega (
      arith,
      aligned_most 3 index (omega arith) (omega arith),
      letters_three i.op,
      aligned_most 4 i.level (omega arith) (omega (arith, held.level)),
      operand_most i.operand held.operand,
    ))

-- all lines from an index on
lines_most : (index : ℕ) (is : List Instr) → AllHeld is → index + length is ≤ max_code → length (lines_from index is) ≤ longest_line * length is
unfolding lines_from
lines_most index [] held h = omega arith
lines_most index (i ∷ is) held h =
    omega (
      arith,
      length-append (line_of index i) (lines_from (suc index) is),
      line_most index i (omega arith) held.0,
      lines_most (suc index) is held.1 (omega arith),
    )

-- all lines of a code list
pub listing_most : (is : List Instr) → AllHeld is → length is ≤ max_code → length (list_text is) ≤ longest_listing
unfolding list_text
listing_most is held h = omega (arith, lines_most 0 is held (omega arith))

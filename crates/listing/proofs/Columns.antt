-- Laws of a line: how long its columns and the whole are, by the tests that the code makes.
use mathlib.Core.Path.{◌≡◌, refl, ap, ◌∙◌}
use mathlib.Core.List.{List, ◌++◌}
use Prim.Native.Nat.{ℕ, zero, suc, ◌+◌, ◌-◌, ◌≤◌, ◌<◌}
use native.Mathlib.Omega.{arith}
use lib.IntN.{ℤ, pos}
use lib.ListN.{length, take, drop, replicate, length-append, length-drop, length-replicate}
use Rattle.numbers.specs.Bytes.{bytes}
use Rattle.numbers.specs.Screen.{decimal, newline}
use Rattle.numbers.specs.Answers.{Wrote}
use Rattle.numbers.proofs.Decimals.{decimal_most}
use Rattle.numbers.proofs.Screens.{wrote_size}
use Rattle.pcode.specs.Code.{Op, ins}
use Rattle.listing.specs.Listing.{letters, column, right_aligned, line_of}
use Rattle.listing.specs.LineLaws.{letters_three}

-- a column has its digits and blanks up to four
column_length : (n : ℕ) → length (right_aligned n) ≡ (column - length (decimal (pos n))) + length (decimal (pos n))
unfolding right_aligned
column_length n = length-append (replicate (column - length (decimal (pos n))) 32) (decimal (pos n)) ∙ rw (length-replicate {A = ℕ} (column - length (decimal (pos n))) 32)

pub column_short : (n : ℕ) → length (decimal (pos n)) < column → column ≡ length (right_aligned n)
column_short n h = omega (arith, column_length n)

pub column_long : (n : ℕ) → column ≤ length (decimal (pos n)) → length (decimal (pos n)) ≡ length (right_aligned n)
column_long n h = omega (arith, column_length n)

pub column_most : (n : ℕ) → length (right_aligned n) ≤ 25
column_most n = omega (arith, column_length n, decimal_most (pos n))

-- it has room for four blanks, and for its digits
pub column_least : (n : ℕ) → column ≤ length (right_aligned n)
column_least n = omega (arith, column_length n)

pub digits_within : (n : ℕ) → length (decimal (pos n)) ≤ length (right_aligned n)
digits_within n = omega (arith, column_length n)

-- four blanks at the front of a part
pub blanks_first : (blanks part : List ℕ) → blanks ≡ bytes "    " → column ≤ length part → length (blanks ++ drop column part) ≡ length part
unfolding bytes
blanks_first blanks part e h = omega (arith, ap length e, length-append blanks (drop column part), length-drop column part)

four_blanks : (k : ℕ) (l : List ℕ) → k ≤ column → take k (bytes "    " ++ l) ≡ replicate k 32
unfolding bytes
four_blanks zero l h = refl
four_blanks (suc zero) l h = refl
four_blanks (suc (suc zero)) l h = refl
four_blanks (suc (suc (suc zero))) l h = refl
four_blanks (suc (suc (suc (suc zero)))) l h = refl
four_blanks (suc (suc (suc (suc (suc k))))) l h = absurd (omega arith)

-- what the digits leave of them
pub column_filled : (n k : ℕ) (l : List ℕ) → k ≡ length (right_aligned n) - length (decimal (pos n)) → take k (bytes "    " ++ l) ++ decimal (pos n) ≡ right_aligned n
unfolding right_aligned
column_filled n k l e =
    let left : k ≡ column - length (decimal (pos n)) = omega (arith, column_length n) in
    ap (λ (t : List ℕ). t ++ decimal (pos n)) (four_blanks k l (omega arith) ∙ ap (λ (j : ℕ). replicate j 32) left)

-- The line of an instruction, up to each of its pieces, and how long it is there.
module _ (index : ℕ) (o : Op) (level : ℕ) (operand : ℤ) where
  abbrev pub to_bar : List ℕ
  to_bar = right_aligned index

  abbrev pub to_kind : List ℕ
  to_kind = to_bar ++ bytes "| "

  abbrev pub to_space : List ℕ
  to_space = to_kind ++ bytes (letters o)

  abbrev pub to_level : List ℕ
  to_level = to_space ++ bytes " "

  abbrev pub to_spaces : List ℕ
  to_spaces = to_level ++ right_aligned level

  abbrev pub to_operand : List ℕ
  to_operand = to_spaces ++ bytes "   "

  abbrev pub to_end : List ℕ
  to_end = to_operand ++ decimal operand

  pub line_is : to_end ++ newline ≡ line_of index (ins o level operand)
  unfolding line_of
  line_is = refl

  to_kind_lem : length to_kind ≡ length to_bar + 2
  unfolding bytes
  to_kind_lem = length-append to_bar (bytes "| ")

  to_space_lem : length to_space ≡ length to_kind + 3
  to_space_lem = length-append to_kind (bytes (letters o)) ∙ rw (letters_three o)

  to_level_lem : length to_level ≡ length to_space + 1
  unfolding bytes
  to_level_lem = length-append to_space (bytes " ")

  to_spaces_lem : length to_spaces ≡ length to_level + length (right_aligned level)
  to_spaces_lem = length-append to_level (right_aligned level)

  to_operand_lem : length to_operand ≡ length to_spaces + 3
  unfolding bytes
  to_operand_lem = length-append to_spaces (bytes "   ")

  to_end_lem : length to_end ≡ length to_operand + length (decimal operand)
  to_end_lem = length-append to_operand (decimal operand)

  line_end_lem : length (line_of index (ins o level operand)) ≡ length to_end + 1
  line_end_lem = rw (← line_is) (length-append to_end newline)

  -- the two columns, the operand and ten bytes
  pub line_length : length (line_of index (ins o level operand)) ≡ length (right_aligned index) + length (right_aligned level) + length (decimal operand) + 10
  line_length = omega (arith, to_kind_lem, to_space_lem, to_level_lem, to_spaces_lem, to_operand_lem, to_end_lem, line_end_lem)

  -- Where the whole line has room, so has each piece behind those that are written.
  module _ {out mid : List ℕ} {at n : ℕ} (room : at + length (line_of index (ins o level operand)) ≤ length out) where
    pub bar_room : Wrote to_bar at out mid n → n + 2 ≤ length mid
    bar_room w = omega (arith, room, w.next, wrote_size w, line_length)

    pub kind_room : Wrote to_kind at out mid n → n + 3 ≤ length mid
    kind_room w = omega (arith, room, w.next, wrote_size w, line_length, to_kind_lem)

    pub space_room : Wrote to_space at out mid n → n + 1 ≤ length mid
    space_room w = omega (arith, room, w.next, wrote_size w, line_length, to_kind_lem, to_space_lem)

    pub level_room : Wrote to_level at out mid n → n + length (right_aligned level) ≤ length mid
    level_room w = omega (arith, room, w.next, wrote_size w, line_length, to_kind_lem, to_space_lem, to_level_lem)

    pub spaces_room : Wrote to_spaces at out mid n → n + 3 ≤ length mid
    spaces_room w = omega (arith, room, w.next, wrote_size w, line_length, to_kind_lem, to_space_lem, to_level_lem, to_spaces_lem)

    pub operand_room : Wrote to_operand at out mid n → n + length (decimal operand) ≤ length mid
    operand_room w = omega (arith, room, w.next, wrote_size w, line_end_lem, to_end_lem)

    pub end_room : Wrote to_end at out mid n → n + 1 ≤ length mid
    end_room w = omega (arith, room, w.next, wrote_size w, line_end_lem)

-- The entries so far: their lines, and whether a run wants one more.
use Rattle.std.specs.Prelude.{Bool, true, false, ◌&&◌, List, [], ◌∷◌, ℕ, zero, suc, ◌+◌, eqb, leb, length, get_or}
use Rattle.numbers.specs.Bytes.{line_end}
use Rattle.numbers.specs.Panel.{bad_entry}

-- 1 for a byte that ends a line
unfoldable pub ends_line : ℕ → ℕ
ends_line b = elim (eqb b line_end) [ true ↦ 1 | false ↦ 0 ]

-- how many lines have their end
unfoldable pub line_ends : List ℕ → ℕ
line_ends [] = 0
line_ends (b ∷ bs) = ends_line b + line_ends bs

-- the end of the last line end among the first n bytes
unfoldable pub whole_below : ℕ → List ℕ → ℕ
whole_below zero s = 0
whole_below (suc n) s = elim (eqb (get_or s n 0) line_end) [ true ↦ suc n | false ↦ whole_below n s ]

-- the bytes of the lines that have their end
unfoldable pub whole_in : List ℕ → ℕ
whole_in s = whole_below (length s) s

-- a run that took so many of these whole lines, and ended with this number, ended for want of one more
unfoldable pub wants_one : ℕ → ℕ → List ℕ → Bool
wants_one n taken s = eqb n bad_entry && leb (line_ends s) taken

-- 02, No. 2, "A listing on paper": a code list as text, a line to an instruction, as `show_pcode_list` prints it.
use Rattle.std.specs.Prelude.{List, [], ◌∷◌, ◌++◌, ℕ, suc, ◌-◌, pos, length, replicate}
use Prim.Native.Char.{code}
use Prim.Native.String.{String}
use Rattle.numbers.specs.Bytes.{bytes}
use Rattle.numbers.specs.Screen.{decimal, newline}
use Rattle.pcode.specs.Code.{Op, NIL, LIT, OPR, LOD, STO, STA, CAL, INT, JMP, JPC, RED, WRT, Instr}

-- "the kind's three letters"
unfoldable pub letters : Op → String
letters NIL = "NIL"
letters LIT = "LIT"
letters OPR = "OPR"
letters LOD = "LOD"
letters STO = "STO"
letters STA = "STA"
letters CAL = "CAL"
letters INT = "INT"
letters JMP = "JMP"
letters JPC = "JPC"
letters RED = "RED"
letters WRT = "WRT"

-- the least width of a column
abbrev pub column : ℕ
column = 4

-- "right-aligned in 4": blanks in front up to four bytes
unfoldable pub right_aligned : ℕ → List ℕ
right_aligned n = replicate (column - length (decimal (pos n))) (code " ") ++ decimal (pos n)

-- "index right-aligned in 4, `| `, the kind's three letters, a space, level right-aligned in 4, three spaces, the operand,
-- newline"
unfoldable pub line_of : ℕ → Instr → List ℕ
line_of index i =
    right_aligned index
    ++ bytes "| "
    ++ bytes (letters i.op)
    ++ bytes " "
    ++ right_aligned i.level
    ++ bytes "   "
    ++ decimal i.operand
    ++ newline

-- the lines of instructions, the first of which has this index
unfoldable pub lines_from : ℕ → List Instr → List ℕ
lines_from index [] = []
lines_from index (i ∷ is) = line_of index i ++ lines_from (suc index) is

-- the listing of a code list
unfoldable pub list_text : List Instr → List ℕ
list_text code = lines_from 0 code

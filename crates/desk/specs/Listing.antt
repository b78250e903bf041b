-- A code list as text, as the Rust's show_pcode_list prints its instruction lines: index right-aligned in 4, `| `, the kind's three letters, a
-- space, level right-aligned in 4, three spaces, the operand.
use Rattle.std.specs.Prelude.{◌≡◌, refl, true, false, List, [], ◌∷◌, ◌++◌, ℕ, ◌*◌, leb, ℤ, pos, negsuc, take, drop}
use Prim.Native.String.{String}
use Rattle.numbers.specs.Bytes.{bytes, line_end}
use Rattle.pcode.specs.Code.{Op, NIL, LIT, OPR, LOD, STO, STA, CAL, INT, JMP, JPC, RED, WRT, kind_no}
use Rattle.desk.specs.Page.{number, right}

-- the letters of a kind
unfoldable pub letters : Op → String
letters NIL = "NIL"
letters LIT = "LIT"
letters OPR = "OPR"
letters LOD = "LOD"
letters STO = "STO"
letters STA = "STA"
letters CAL = "CAL"
letters INT = "INT"
letters JMP = "JMP"
letters JPC = "JPC"
letters RED = "RED"
letters WRT = "WRT"

-- where a kind number stands among the letters; any other number counts as NIL
unfoldable pub kind_place : ℤ → ℕ
kind_place (pos n) = elim (leb n 10) [ true ↦ n | false ↦ 11 ]
kind_place (negsuc n) = 11

-- three letters for each kind from 0 on, and for NIL behind them
unfoldable pub all_letters : List ℕ
all_letters = bytes "LITOPRLODSTOSTACALINTJMPJPCREDWRTNIL"

-- the letters of a kind number
unfoldable pub kind_text : ℤ → List ℕ
kind_text k = take 3 (drop (kind_place k * 3) all_letters)

-- they are those of the kind
pub kind_text_lem : (o : Op) → kind_text (kind_no o) ≡ bytes (letters o)
unfolding kind_text kind_place kind_no all_letters bytes letters
kind_text_lem NIL = refl
kind_text_lem LIT = refl
kind_text_lem OPR = refl
kind_text_lem LOD = refl
kind_text_lem STO = refl
kind_text_lem STA = refl
kind_text_lem CAL = refl
kind_text_lem INT = refl
kind_text_lem JMP = refl
kind_text_lem JPC = refl
kind_text_lem RED = refl
kind_text_lem WRT = refl

-- the line of an instruction: index, kind, level, operand
unfoldable pub line_text : ℕ → ℤ → ℕ → ℤ → List ℕ
line_text i k l a = right i ++ bytes "| " ++ kind_text k ++ bytes " " ++ right l ++ bytes "   " ++ number a ++ (line_end ∷ [])

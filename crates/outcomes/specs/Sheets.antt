-- 01, "Sheets tried by hand": the rows marked P, as one table under one theorem.
use Rattle.std.specs.Prelude.{◌≡◌, refl, List, [], ◌∷◌, ◌++◌, ℕ, ◌-◌, pos, length, get_or}
use Rattle.numbers.specs.Panel.{done, bad_token, body_failed_quietly, level_above, budget_spent, place_outside}
use Rattle.numbers.specs.Bytes.{bytes}
use Rattle.grammar.specs.Grammar.{Parsed, tree, refused, parse}
use Rattle.numbers.specs.Arithmetic.{equal}
use Rattle.pcode.specs.Operators.{return, comparison}
use Rattle.pcode.specs.Code.{LIT, LOD, STO, INT, JMP, JPC, Instr, ins, opr}
use Rattle.symbols.specs.Symbols.{no_row}
use Rattle.translator.specs.Translate.{Done, finished, failed, block_code}
use Rattle.machine.specs.Machine.{run_of}
use Rattle.outcomes.specs.Compile.{accepted, not_accepted, number_of, code_of, compile, walk}
use Rattle.outcomes.specs.Computing.{computing}

-- "`S` is `program p; var x; `"
unfoldable pub S : List ℕ
S = bytes "program p; var x; "

-- what a row of the table says
pub data Claim : Type 0 where
  -- a text is translated to this code
  code_is : List ℕ → List Instr → Claim
  -- a text is refused with this number
  refused_with : List ℕ → ℕ → Claim
  -- a text is accepted, with this many instructions
  accepts : List ℕ → ℕ → Claim
  -- a text's symbol row has this entry
  entry_of : List ℕ → ℕ → ℕ → Claim
  -- a text's code ends with this number, after these steps and with this output
  runs : List ℕ → ℕ → ℕ → List ℕ → Claim
  -- a code list and a budget end with this number
  code_runs : List Instr → ℕ → ℕ → Claim
  -- a text's walk ends with this number, after these steps and with this output
  walks : List ℕ → ℕ → ℕ → List ℕ → Claim

abbrev value_at : ℕ → Done → ℕ
value_at i (finished c rs a) = (get_or rs i no_row).value
value_at i (failed n) = 0

abbrev translation_of : Parsed → Done
translation_of (tree b) = block_code b
translation_of (refused n) = failed n

-- a budget and a room that no sheet uses up
abbrev ample : ℕ
ample = 1000

unfoldable pub Holds : Claim → Type 0
Holds (code_is t c) = compile t ≡ accepted c
Holds (refused_with t n) = compile t ≡ not_accepted n
Holds (accepts t n) = (number_of (compile t) ≡ done) × (length (code_of (compile t)) ≡ n)
Holds (entry_of t i e) = value_at i (translation_of (parse t)) ≡ e
Holds (runs t n k o) = let e = run_of (code_of (compile t)) [] ample ample in (e.number ≡ n) × (ample - e.left ≡ k) × (e.machine.out ≡ o)
Holds (code_runs c b n) = (run_of c [] b 0).number ≡ n
Holds (walks t n k o) = let e = walk t [] ample ample in (e.number ≡ n) × (ample - e.left ≡ k) × (e.final.out ≡ o)

unfoldable pub All : List Claim → Type 0
All [] = Unit {0}
All (c ∷ cs) = Holds c × All cs

-- the rows of 01's table in its order; a row's walk follows it where there is no procedure
unfoldable pub table : List Claim
table =
    code_is (S ++ bytes "begin x:=1 end") (ins JMP 0 (pos 1) ∷ ins INT 0 (pos 4) ∷ ins LIT 0 (pos 1) ∷ ins STO 0 (pos 3) ∷ opr return ∷ []) ∷
    runs (S ++ bytes "begin x:=1 end") done 5 [] ∷
    walks (S ++ bytes "begin x:=1 end") done 5 [] ∷
    refused_with (S ++ bytes "begin x:=1; end") body_failed_quietly ∷
    walks (S ++ bytes "begin x:=1; end") body_failed_quietly 0 [] ∷
    accepts (S ++ bytes "begin if x=0 then x:=2 else begin x:=1; end") 10 ∷
    code_is (S ++ bytes "begin if x=0 then x:=2 else begin x:=1; end") (
    ins JMP 0 (pos 1) ∷ ins INT 0 (pos 4) ∷ ins LOD 0 (pos 3) ∷ ins LIT 0 (pos 0) ∷ opr (comparison equal) ∷ ins JPC 0 (pos 9) ∷
    ins LIT 0 (pos 2) ∷ ins STO 0 (pos 3) ∷ ins JMP 0 (pos 9) ∷ opr return ∷ []) ∷
    runs (S ++ bytes "begin if x=0 then x:=2 else begin x:=1; end") done 10 [] ∷
    walks (S ++ bytes "begin if x=0 then x:=2 else begin x:=1; end") done 10 [] ∷
    accepts (S ++ bytes "begin x:=1 end.") 5 ∷
    walks (S ++ bytes "begin x:=1 end.") done 5 [] ∷
    refused_with (S ++ bytes "begin x:=1 end_") bad_token ∷
    walks (S ++ bytes "begin x:=1 end_") bad_token 0 [] ∷
    runs (bytes "program p; begin write(-7/2) end") done 9 (bytes "-3  \n") ∷
    walks (bytes "program p; begin write(-7/2) end") done 9 (bytes "-3  \n") ∷
    entry_of (S ++ bytes "procedure q(m); begin x:=x+m end begin call q(5); write(x) end") 1 2 ∷
    accepts (S ++ bytes "procedure q(m); begin x:=x+m end begin call q(5); write(x) end") 16 ∷
    runs (S ++ bytes "procedure q(m); begin x:=x+m end begin call q(5); write(x) end") done 15 (bytes "5  \n") ∷
    refused_with (bytes "program p; procedure q(); procedure q(); var x; begin x:=1 end begin x:=2 end begin call q() end") level_above ∷
    runs (bytes "program p; procedure q(); procedure r(); begin call q() end begin call r() end begin call q(); write(1) end") done 7 [] ∷
    code_runs [] 0 budget_spent ∷
    code_runs [] 1 place_outside ∷
    []

pub sheets : All table
unfolding computing S table All Holds
sheets = (refl, ((refl, refl, refl), ((refl, refl, refl), (refl, ((refl, refl, refl), ((refl, refl), (refl, ((refl, refl, refl), ((refl, refl, refl), ((refl, refl), ((refl, refl, refl), (refl, ((refl, refl, refl), ((refl, refl, refl), ((refl, refl, refl), (refl, ((refl, refl), ((refl, refl, refl), (refl, ((refl, refl, refl), (refl, (refl, tt))))))))))))))))))))))

-- The public outcomes of compile and walk: number, counts, and the whole contents of every lent list afterwards, on every input.
-- A list that is lent stands in an outcome under its own name. 24 comes first, and after it nothing lent has changed.
use Rattle.std.specs.Prelude.{◌≡◌, Bool, true, false, ◌&&◌, List, ℕ, ◌-◌, ℤ, pos, length, take, replicate}
use Rattle.std.proofs.Common.{sym, ◌∙◌}
use Rattle.numbers.specs.Panel.{room_too_small}
use Rattle.numbers.specs.Limits.{max_code, max_variables, tree_places, table_places, draft_places}
use Rattle.numbers.specs.Lent.{holds, onto, filled}
use Rattle.pcode.specs.Code.{nil, Code, code_for}
use Rattle.walk.specs.Walk.{Walked}
use Rattle.outcomes.specs.Compile.{Compiled, number_of, code_of, compile, walk}

-- the working room: places for the tree, the symbol rows and the code before it is handed out
pub record Work : Type 0 where
  pub tree : List ℕ
  pub table : List ℕ
  pub draft : List ℕ

-- each of the three has the room that the docs state
abbrev pub work_holds : Work → Bool
work_holds w = holds tree_places w.tree && holds table_places w.table && holds draft_places w.draft

-- "working room is zero on return"
abbrev pub cleared : Work → Work
cleared w = record { tree = onto w.tree (replicate tree_places 0); table = onto w.table (replicate table_places 0); draft = onto w.draft (replicate draft_places 0) }

-- compile

-- number and code length; the code places and the working room
pub record CompileOutcome : Type 0 where
  pub number : ℕ
  pub length : ℕ
  pub code : Code
  pub work : Work

-- each of the three lists of code places has room for 4,096
abbrev pub code_holds : Code → Bool
code_holds c = holds max_code c.kinds && holds max_code c.levels && holds max_code c.operands

-- a lent code list with new places from its first on
abbrev pub onto_code : Code → Code → Code
onto_code lent new = record { kinds = onto lent.kinds new.kinds; levels = onto lent.levels new.levels; operands = onto lent.operands new.operands }

-- "compile fills all 4,096 code places (NIL 0 0 beyond the last instruction, and everywhere on refusal)"; "number and code length, 0 if refused"
unfoldable pub compile_leaves : Compiled → Code → Work → CompileOutcome
compile_leaves a code work = record {
  number = number_of a;
  length = length (code_of a);
  code = onto_code code (code_for (filled max_code nil (code_of a)));
  work = cleared work;
}

-- text; code places and working room, as lent
unfoldable pub compile_outcome : List ℕ → Code → Work → CompileOutcome
compile_outcome src code work =
    elim (code_holds code && work_holds work) [
      | true ↦ compile_leaves (compile src) code work
      | false ↦ record { number = room_too_small; length = 0; code = code; work = work }
    ]

-- walk

-- number, output length, lines taken, steps completed; the output, the variables and the working room
pub record WalkOutcome : Type 0 where
  pub number : ℕ
  pub out_length : ℕ
  pub lines : ℕ
  pub steps : ℕ
  pub out : List ℕ
  pub vars : List ℤ
  pub work : Work

-- "the variables in declaration order in places 0..511 of a lent list, zero beyond them and zero throughout on compile's refusals and 25"
unfoldable pub walk_leaves : Walked → ℕ → List ℕ → List ℤ → Work → WalkOutcome
walk_leaves x budget out vars work = record {
  number = x.number;
  out_length = length x.final.out;
  lines = x.final.lines;
  steps = budget - x.left;
  out = onto out x.final.out;
  vars = onto vars (filled max_variables (pos 0) x.final.vars);
  work = cleared work;
}

-- text, input, budget; output, variables and working room, as lent
unfoldable pub walk_outcome : List ℕ → List ℕ → ℕ → List ℕ → List ℤ → Work → WalkOutcome
walk_outcome src input budget out vars work =
    elim (holds max_variables vars && work_holds work) [
      | true ↦ walk_leaves (walk src input budget (length out)) budget out vars work
      | false ↦ record { number = room_too_small; out_length = 0; lines = 0; steps = 0; out = out; vars = vars; work = work }
    ]

-- each outcome is a function of what is given and lent: two outcomes that meet the equation coincide

pub one_compile : (src : List ℕ) (code : Code) (work : Work) (x y : CompileOutcome) → x ≡ compile_outcome src code work → y ≡ compile_outcome src code work → x ≡ y
one_compile src code work x y p q = p ∙ sym q

pub one_walk : (src input : List ℕ) (budget : ℕ) (out : List ℕ) (vars : List ℤ) (work : Work) (x y : WalkOutcome)
    → x ≡ walk_outcome src input budget out vars work → y ≡ walk_outcome src input budget out vars work → x ≡ y
one_walk src input budget out vars work x y p q = p ∙ sym q

-- the first n code places, as a caller of run hands them on
abbrev pub cut : ℕ → Code → Code
cut n c = record { kinds = take n c.kinds; levels = take n c.levels; operands = take n c.operands }

-- DEMAND 3: tree and code agree. This file says what is promised and nothing else; Proved.antt beside it proves the three statements.
--
-- Take any text that compile accepts and whose tree holds no procedure, any input, any budget of steps and any room for output. Work the text out on its
-- tree by the rules of 01, "The walk". Run its code by the rules of 01, "The machine". Both end alike: with the same number, the same bytes written, the
-- same lines taken, the same steps completed, and the same value in every variable. Nothing is assumed beyond acceptance: it holds where both are done,
-- and where both are refused with 16, 17, 19, 20, 22 or 23, in the midst of a statement too.
use Rattle.std.specs.Prelude.{◌≡◌, true, List, ℕ, ◌+◌, ◌-◌, ◌<◌, ◌≤◌, ℤ, pos, length, get_or}
use Rattle.numbers.specs.Panel.{done}
use Rattle.numbers.specs.Limits.{max_cells, max_variables}
use Rattle.numbers.specs.Stack.{links}
use Rattle.tree.specs.Tree.{no_procs, Block}
use Rattle.grammar.specs.Grammar.{parse, tree}
use Rattle.pcode.specs.Code.{Code}
use Rattle.machine.specs.Machine.{Ended, run_of}
use Rattle.machine.specs.Outcome.{RunOutcome, run_outcome}
use Rattle.walk.specs.Walk.{Walked}
use Rattle.outcomes.specs.Compile.{number_of, code_of, compile, walk}
use Rattle.machine.specs.Runs.{outcome_of}
use Rattle.machine.specs.declared.runs.Ended.{Ended as Answer}
use Rattle.engine.specs.declared.entries.Compiled.{Compiled}
use Rattle.engine.specs.Entries.{compiled_of}
use Rattle.engine.specs.Walking.{walked_of}
use Rattle.outcomes.specs.Outcomes.{Work, work_holds, CompileOutcome, compile_outcome, WalkOutcome, walk_outcome, cut}

-- A walk and a run with the same budget, of a program with v variables, end alike. The walk's place i is the machine's cell 3 + i.
pub record EndAlike (v budget : ℕ) (w : Walked) (r : Ended) : Type 0 where
  pub number : r.number ≡ w.number
  pub output : r.machine.out ≡ w.final.out
  pub lines : r.machine.lines ≡ w.final.lines
  pub steps : budget - r.left ≡ budget - w.left
  pub variables : (i : ℕ) → i < v → get_or r.machine.cells (links + i) (pos 0) ≡ get_or w.final.vars i (pos 0)

-- The first statement, on the definitions, from the text down.
abbrev pub TreeAndCodeAgree : Type 0
TreeAndCodeAgree =
    (src : List ℕ) (b : Block) → number_of (compile src) ≡ done → parse src ≡ tree b → b.procs ≡ no_procs
    → (input : List ℕ) (budget room : ℕ)
    → EndAlike (length b.vars) budget (walk src input budget room) (run_of (code_of (compile src)) input budget room)

-- The outcomes of a run and of a walk that were lent the same output room end alike: the whole output room too.
pub record OutcomesAlike (v : ℕ) (r : RunOutcome) (w : WalkOutcome) : Type 0 where
  pub number : r.number ≡ w.number
  pub out_length : r.out_length ≡ w.out_length
  pub lines : r.lines ≡ w.lines
  pub steps : r.steps ≡ w.steps
  pub out : r.out ≡ w.out
  pub variables : (i : ℕ) → i < v → get_or r.cells (links + i) (pos 0) ≡ get_or w.vars i (pos 0)

-- The second statement, of the outcomes that the entries' contracts name: whatever compile left, if its number is 0, its first `length`
-- code places handed to run, and walk on the same text, with the same input, budget and output room, and with every other room large enough.
abbrev pub EntriesAgree : Type 0
EntriesAgree =
    (src : List ℕ) (b : Block) → parse src ≡ tree b → b.procs ≡ no_procs
    → (code : Code) (work : Work) (compiled : CompileOutcome) → compiled ≡ compile_outcome src code work → compiled.number ≡ done
    → (input : List ℕ) (budget : ℕ) (out : List ℕ)
    → (cells : List ℤ) → max_cells ≤ length cells → (ran : RunOutcome) → ran ≡ run_outcome (cut compiled.length compiled.code) input budget out cells
    → (vars : List ℤ) (room : Work) → max_variables ≤ length vars → work_holds room ≡ true → (walked : WalkOutcome) → walked ≡ walk_outcome src input budget out vars room
    → OutcomesAlike (length b.vars) ran walked

-- What run and walk return is the same in all of its parts, number, output length, lines and steps; and so is the output room, and each variable.
pub record AnswersAlike (v : ℕ) (r w : Answer) (outRun outWalk : List ℕ) (cells vars : List ℤ) : Type 0 where
  pub answer : r ≡ w
  pub out : outRun ≡ outWalk
  pub variables : (i : ℕ) → i < v → get_or cells (links + i) (pos 0) ≡ get_or vars i (pos 0)

-- The third statement, of the entries themselves: c, r and w are what compile, run and walk returned, and the lists beside them what they left. All that is known of them
-- is their contracts, the three equations. Compile's number is 0, run was handed its first `length` code places, and both had the same input, budget and output room.
abbrev pub AnswersAgree : Type 0
AnswersAgree =
    (src : List ℕ) (b : Block) → parse src ≡ tree b → b.procs ≡ no_procs
    → (code : Code) (work : Work) (c : Compiled) (kinds : List ℤ) (levels : List ℕ) (operands : List ℤ) (left : Work)
    → compiled_of c kinds levels operands left.tree left.table left.draft ≡ compile_outcome src code work → c.number ≡ done
    → (input : List ℕ) (budget : ℕ) (out : List ℕ)
    → (lent cells : List ℤ) (r : Answer) (outRun : List ℕ) → max_cells ≤ length lent → outcome_of r outRun cells ≡ run_outcome (cut c.length (record { kinds = kinds; levels = levels; operands = operands })) input budget out lent
    → (places vars : List ℤ) (room after : Work) (w : Answer) (outWalk : List ℕ) → max_variables ≤ length places → work_holds room ≡ true
    → walked_of w outWalk vars after.tree after.table after.draft ≡ walk_outcome src input budget out places room
    → AnswersAlike (length b.vars) r w outRun outWalk cells vars

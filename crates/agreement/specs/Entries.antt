-- The agreement over the public outcomes: what compile leaves, handed to run, and walk on the same text, with the same input, budget and output room.
use Rattle.std.specs.Prelude.{◌≡◌, refl, Bool, true, false, ◌&&◌, List, [], ◌∷◌, ◌++◌, map, ℕ, zero, suc, ◌+◌, ◌-◌, ◌<◌, ◌≤◌, ℤ, pos, length, get_or, take, replicate}
use Rattle.std.proofs.Common.{ap, sym, ◌∙◌, subst, arith, length-append, le-leb}
use Rattle.std.proofs.lemmas.List.{length-replicate}
use Rattle.std.proofs.Math.ListN.{get_or-append}
use Rattle.numbers.specs.Panel.{done, room_too_small}
use Rattle.numbers.specs.Limits.{max_code, max_cells, max_variables}
use Rattle.numbers.specs.Stack.{links}
use Rattle.tree.specs.Tree.{no_procs, Block}
use Rattle.grammar.specs.Grammar.{parse, tree}
use Rattle.pcode.specs.Code.{Instr, nil, place_for, instr_in, Code, code_for, places_in, instrs_in, kind_back}
use Rattle.machine.specs.Machine.{Ended, run_of}
use Rattle.machine.specs.Sizes.{Sized, run_sized}
use Rattle.walk.specs.Walk.{Walked}
use Rattle.outcomes.specs.Compile.{Compiled, number_of, code_of, compile, walk}
use Rattle.machine.specs.Outcome.{run_leaves, run_outcome}
use Rattle.numbers.specs.Lent.{onto, filled}
use Rattle.outcomes.specs.Outcomes.{code_holds, CompileOutcome, compile_leaves, compile_outcome, walk_leaves, walk_outcome, cut, Work, work_holds}
use Rattle.agreement.specs.Agreement.{OutcomesAlike}
use Rattle.agreement.specs.Program.{Agrees}
use Rattle.agreement.specs.Texts.{agreement, few_variables, variables, steps as same-steps}

-- the places of a code list, with whatever stands after them, mean the list
means : (c rest : List Instr) (ks : List ℤ) (ls : List ℕ) (os : List ℤ)
    → map instr_in (places_in (take (length c) (map (λ p. p.kind) (map place_for (c ++ rest)) ++ ks)) (take (length c) (map (λ p. p.level) (map place_for (c ++ rest)) ++ ls)) (take (length c) (map (λ p. p.operand) (map place_for (c ++ rest)) ++ os))) ≡ c
unfolding instr_in places_in place_for
means [] rest ks ls os = refl
means (i ∷ c) rest ks ls os = rw (kind_back i.op, means c rest ks ls os)

-- what compile leaves, cut to its length, means the code that the text was translated to
handed_on : (a : Compiled) (code : Code) (work : Work) → let o = compile_leaves a code work in instrs_in (cut o.length o.code) ≡ code_of a
unfolding compile_leaves code_for instrs_in
handed_on a code work = means (code_of a) (replicate (max_code - length (code_of a)) nil) _ _ _

-- compile's 0 says that the rooms were large enough
compile_done : (src : List ℕ) (code : Code) (work : Work) → (compile_outcome src code work).number ≡ done → compile_outcome src code work ≡ compile_leaves (compile src) code work
unfolding compile_outcome
compile_done src code work e = go (code_holds code && work_holds work) e
  where
    small : CompileOutcome
    small = record { number = room_too_small; length = 0; code = code; work = work }

    go : (x : Bool) → (elim x as (λ y. CompileOutcome) [ true ↦ compile_leaves (compile src) code work | false ↦ small ]).number ≡ done → elim x as (λ y. CompileOutcome) [ true ↦ compile_leaves (compile src) code work | false ↦ small ] ≡ compile_leaves (compile src) code work
    go true e = refl
    go false e = absurd (omega arith)

run_is : (code : Code) (input : List ℕ) (budget : ℕ) (out : List ℕ) (cells : List ℤ) → max_cells ≤ length cells → run_outcome code input budget out cells ≡ run_leaves (run_of (instrs_in code) input budget (length out)) budget out cells
unfolding run_outcome
run_is code input budget out cells h = rw (run_outcome, le-leb max_cells (length cells) h)

walk_is : (src input : List ℕ) (budget : ℕ) (out : List ℕ) (vars : List ℤ) (work : Work) → max_variables ≤ length vars → work_holds work ≡ true
    → walk_outcome src input budget out vars work ≡ walk_leaves (walk src input budget (length out)) budget out vars work
unfolding walk_outcome
walk_is src input budget out vars work h k = rw (walk_outcome, le-leb max_variables (length vars) h, k)

-- zeros after a list change nothing that is read with 0 past its end
zeros : (k i : ℕ) → get_or (replicate k (pos 0)) i (pos 0) ≡ pos 0
zeros zero i = refl
zeros (suc k) zero = refl
zeros (suc k) (suc i) = zeros k i

padded : (vs : List ℤ) (k i : ℕ) → get_or (vs ++ replicate k (pos 0)) i (pos 0) ≡ get_or vs i (pos 0)
padded [] k i = zeros k i
padded (v ∷ vs) k zero = refl
padded (v ∷ vs) k (suc i) = padded vs k i

-- the ends of a run and a walk that agree, put into the lent lists
leaves_agree : (v : ℕ) (x : Walked) (e : Ended) (budget : ℕ) (out : List ℕ) (cells vars : List ℤ) (work : Work) → v ≤ max_variables → length e.machine.cells ≡ max_cells → Agrees v x e
    → OutcomesAlike v (run_leaves e budget out cells) (walk_leaves x budget out vars work)
unfolding run_leaves walk_leaves
leaves_agree v x e budget out cells vars work few size h = record {
  number = h.number;
  out_length = ap length h.out;
  lines = h.lines;
  steps = same-steps v x e h budget;
  out = ap (onto out) h.out;
  variables = λ i l. cell i l ∙ variables v x e h i l ∙ sym (place i l);
}
  where
    place : (i : ℕ) → i < v → get_or (onto vars (filled max_variables (pos 0) x.final.vars)) i (pos 0) ≡ get_or x.final.vars i (pos 0)
    place i l =
        let n : length (filled max_variables (pos 0) x.final.vars) ≡ length x.final.vars + (max_variables - length x.final.vars) = length-append x.final.vars _ ∙ ap (λ k. length x.final.vars + k) (length-replicate _ (pos 0)) in
        get_or-append (filled max_variables (pos 0) x.final.vars) _ (pos 0) i (omega arith) ∙ padded x.final.vars (max_variables - length x.final.vars) i

    cell : (i : ℕ) → i < v → get_or (onto cells e.machine.cells) (links + i) (pos 0) ≡ get_or e.machine.cells (links + i) (pos 0)
    cell i l = get_or-append e.machine.cells _ (pos 0) (links + i) (omega arith)

number_is : (a : Compiled) (code : Code) (work : Work) → (compile_leaves a code work).number ≡ number_of a
unfolding compile_leaves
number_is a code work = refl

-- Whatever text compile's outcome shows 0 for, and whose tree holds no procedure: the first `length` code places that compile left, handed to run,
-- and walk on the text end alike, for every input, every budget and every output room, with every room lent that is large enough
pub outcomes_agree : (src : List ℕ) (b : Block) → parse src ≡ tree b → b.procs ≡ no_procs → (code : Code) (work : Work) → (compile_outcome src code work).number ≡ done
    → (input : List ℕ) (budget : ℕ) (out : List ℕ) (cells vars : List ℤ) (work' : Work) → max_cells ≤ length cells → max_variables ≤ length vars → work_holds work' ≡ true
    → let o = compile_outcome src code work in OutcomesAlike (length b.vars) (run_outcome (cut o.length o.code) input budget out cells) (walk_outcome src input budget out vars work')
outcomes_agree src b p none code work z input budget out cells vars work' hc hv hw =
    let e : compile_outcome src code work ≡ compile_leaves (compile src) code work = compile_done src code work z in
    let n : number_of (compile src) ≡ done = sym (number_is (compile src) code work) ∙ subst (λ o. o.number ≡ done) e z in
    let c : instrs_in (cut (compile_outcome src code work).length (compile_outcome src code work).code) ≡ code_of (compile src) = rw e (handed_on (compile src) code work) in
    let sized : Sized (code_of (compile src)) (length out) max_cells (run_of (code_of (compile src)) input budget (length out)).machine = run_sized (code_of (compile src)) input budget (length out) in
    rw (run_is (cut (compile_outcome src code work).length (compile_outcome src code work).code) input budget out cells hc, c, walk_is src input budget out vars work' hv hw)
    (leaves_agree (length b.vars) _ _ budget out cells vars work' (few_variables src b n p none) sized.cells (agreement src b n p none input budget (length out)))

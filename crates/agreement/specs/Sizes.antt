-- Every lent list has afterwards as many places as before; and a code list that compile leaves has at most 4,096 instructions.
use Rattle.std.specs.Prelude.{◌≡◌, refl, Bool, true, false, ◌&&◌, List, map, ℕ, suc, ◌+◌, ◌-◌, ◌≤◌, ℤ, pos, length, take, drop, replicate}
use Rattle.std.proofs.Common.{ap, ◌∙◌, arith, length-take, length-append, length-drop, leb-true}
use Rattle.std.proofs.lemmas.List.{length-map, length-replicate}
use Rattle.numbers.specs.Panel.{room_too_small, procedure_in_tree}
use Rattle.numbers.specs.Limits.{max_code, max_cells, max_variables, tree_places, table_places, draft_places}
use Rattle.numbers.specs.Stack.{links}
use Rattle.tree.specs.Tree.{Procs, no_procs, proc, Block}
use Rattle.grammar.specs.Grammar.{parse, Parsed, tree, refused}
use Rattle.pcode.specs.Code.{Instr, nil, Place, place_for, Code, code_for, instrs_in}
use Rattle.machine.specs.Machine.{Ended, run_of}
use Rattle.machine.specs.Sizes.{Sized, run_sized}
use Rattle.walk.specs.Walk.{Walked, begin, walk_block}
use Rattle.outcomes.specs.Compile.{Compiled, accepted, not_accepted, code_of, compile, unwalked, walk_unless, walk_after, walk}
use Rattle.machine.specs.Outcome.{RunOutcome, run_leaves, run_outcome}
use Rattle.numbers.specs.Lent.{holds, onto, filled}
use Rattle.outcomes.specs.Outcomes.{code_holds, CompileOutcome, compile_leaves, compile_outcome, WalkOutcome, walk_leaves, walk_outcome, Work, work_holds, cleared}
use Rattle.agreement.specs.Program.{Agrees, standing}
use Rattle.outcomes.proofs.Accepted.{accepted_shape}
use Rattle.agreement.specs.Texts.{taken, block_agrees}

pub code_fits : (src : List ℕ) → length (code_of (compile src)) ≤ max_code
code_fits src = go (compile src) refl
  where
    go : (x : Compiled) → compile src ≡ x → length (code_of x) ≤ max_code
    go (accepted c) e = (accepted_shape src c e).most
    go (not_accepted n) e = omega arith

onto_keeps : {A : Type 0} (lent new : List A) → length new ≤ length lent → length (onto lent new) ≡ length lent
onto_keeps lent new h = omega (arith, length-append new (drop (length new) lent), length-drop (length new) lent)

part_keeps : {B : Type 0} (f : Place → B) (ps : List Place) (lent : List B) → length ps ≤ length lent → length (onto lent (map f ps)) ≡ length lent
part_keeps f ps lent h = onto_keeps lent (map f ps) (omega (arith, length-map ps f))

both_true : (a b : Bool) → a && b ≡ true → (a ≡ true) × (b ≡ true)
both_true true b e = (refl, e)
both_true false b e = absurd (let z : ◌≡◌ {A = ℕ} 0 1 = cc in omega arith)

-- working room is left at its length
pub record WorkSizes (room left : Work) : Type 0 where
  pub tree : length left.tree ≡ length room.tree
  pub table : length left.table ≡ length room.table
  pub draft : length left.draft ≡ length room.draft

zeroed : (n : ℕ) (lent : List ℕ) → holds n lent ≡ true → length (onto lent (replicate n 0)) ≡ length lent
zeroed n lent h = onto_keeps lent (replicate n 0) (omega (arith, length-replicate {A = ℕ} n 0, leb-true n (length lent) h))

work_sizes : (room : Work) → work_holds room ≡ true → WorkSizes room (cleared room)
work_sizes room h =
    let (h₁, d) = both_true (holds tree_places room.tree && holds table_places room.table) (holds draft_places room.draft) h in
    let (t, r) = both_true (holds tree_places room.tree) (holds table_places room.table) h₁ in
    record { tree = zeroed tree_places room.tree t; table = zeroed table_places room.table r; draft = zeroed draft_places room.draft d }

work_same : (room : Work) → WorkSizes room room
work_same room = record { tree = refl; table = refl; draft = refl }

-- compile leaves each list at its length
pub record CompileSizes (lent : Code) (room : Work) (o : CompileOutcome) : Type 0 where
  pub kinds : length o.code.kinds ≡ length lent.kinds
  pub levels : length o.code.levels ≡ length lent.levels
  pub operands : length o.code.operands ≡ length lent.operands
  pub work : WorkSizes room o.work

filled_length : (c : List Instr) → length c ≤ max_code → length (filled max_code nil c) ≡ max_code
filled_length c h = omega (arith, length-append c (replicate (max_code - length c) nil), length-replicate (max_code - length c) nil)

leaves_sizes : (src : List ℕ) (code : Code) (work : Work) → code_holds code && work_holds work ≡ true → CompileSizes code work (compile_leaves (compile src) code work)
unfolding compile_leaves code_for
leaves_sizes src code work e =
    let (h, w) = both_true (code_holds code) (work_holds work) e in
    let (h₂, p) = both_true (holds max_code code.kinds && holds max_code code.levels) (holds max_code code.operands) h in
    let (k, l) = both_true (holds max_code code.kinds) (holds max_code code.levels) h₂ in
    let ps : List Place = map place_for (filled max_code nil (code_of (compile src))) in
    let n : length ps ≡ max_code = length-map (filled max_code nil (code_of (compile src))) place_for ∙ filled_length (code_of (compile src)) (code_fits src) in
    record {
      kinds = part_keeps (λ p. p.kind) ps code.kinds (omega (arith, n, leb-true max_code (length code.kinds) k));
      levels = part_keeps (λ p. p.level) ps code.levels (omega (arith, n, leb-true max_code (length code.levels) l));
      operands = part_keeps (λ p. p.operand) ps code.operands (omega (arith, n, leb-true max_code (length code.operands) p));
      work = work_sizes work w;
    }

pub compile_sizes : (src : List ℕ) (code : Code) (work : Work) → CompileSizes code work (compile_outcome src code work)
unfolding compile_outcome
compile_sizes src code work = go (code_holds code && work_holds work) refl
  where
    go : (x : Bool) → code_holds code && work_holds work ≡ x → CompileSizes code work (elim x as (λ y. CompileOutcome) [ true ↦ compile_leaves (compile src) code work | false ↦ record { number = room_too_small; length = 0; code = code; work = work } ])
    go true e = leaves_sizes src code work e
    go false e = record { kinds = refl; levels = refl; operands = refl; work = work_same work }

-- and so does run
pub record RunSizes (lent : List ℕ) (room : List ℤ) (o : RunOutcome) : Type 0 where
  pub out : length o.out ≡ length lent
  pub cells : length o.cells ≡ length room

pub run_sizes : (code : Code) (input : List ℕ) (budget : ℕ) (out : List ℕ) (cells : List ℤ) → RunSizes out cells (run_outcome code input budget out cells)
unfolding run_leaves run_outcome
run_sizes code input budget out cells = go (holds max_cells cells) refl
  where
    go : (x : Bool) → holds max_cells cells ≡ x
        → RunSizes out cells (elim x as (λ y. RunOutcome) [ true ↦ run_leaves (run_of (instrs_in code) input budget (length out)) budget out cells | false ↦ record { number = room_too_small; out_length = 0; lines = 0; steps = 0; out = out; cells = cells } ])
    go true e =
        let s : Sized (instrs_in code) (length out) max_cells (run_of (instrs_in code) input budget (length out)).machine = run_sized (instrs_in code) input budget (length out) in
        let l : length (run_of (instrs_in code) input budget (length out)).machine.cells ≤ length cells = omega (arith, leb-true max_cells (length cells) e) in
        record { out = onto_keeps out (run_of (instrs_in code) input budget (length out)).machine.out s.out; cells = onto_keeps cells (run_of (instrs_in code) input budget (length out)).machine.cells l }
    go false e = record { out = refl; cells = refl }

-- a walk writes no more than there is room for, and has at most 512 variables
record WalkFits (room : ℕ) (x : Walked) : Type 0 where
  out : length x.final.out ≤ room
  vars : length x.final.vars ≤ max_variables

agreed_fits : (v room : ℕ) (x : Walked) (e : Ended) → v ≤ max_variables → length e.machine.out ≤ room → Agrees v x e → WalkFits room x
agreed_fits v room x e few fits h =
    let o : length e.machine.out ≡ length x.final.out = ap length h.out in
    let t : length (take (links + v) e.machine.cells) ≡ suc (suc (suc (length x.final.vars))) = ap length h.cells in
    record { out = omega arith; vars = omega (arith, length-take (links + v) e.machine.cells) }

nothing_fits : (n room : ℕ) (input : List ℕ) (budget : ℕ) → WalkFits room (unwalked n input budget)
unfolding begin
nothing_fits n room input budget = record { out = omega arith; vars = omega arith }

walk_fits : (src input : List ℕ) (budget room : ℕ) → WalkFits room (walk src input budget room)
unfolding walk
walk_fits src input budget room = go (compile src) refl (parse src) refl
  where
    block : (b : Block) (c : List Instr) → compile src ≡ accepted c → parse src ≡ tree b → (ps : Procs) → b.procs ≡ ps → WalkFits room (walk_unless ps (walk_block b input budget room) input budget)
    block b c e p no_procs none =
        let (rs, a, f) = taken src b c p e in
        agreed_fits (length b.vars) room (walk_block b input budget room) (run_of c input budget room) (standing b c rs a none f).few (run_sized c input budget room).out (block_agrees b c rs a none f (accepted_shape src c e).most input budget room)
    block b c e p (proc n ar cs vs ps s l) q = nothing_fits procedure_in_tree room input budget

    go : (x : Compiled) → compile src ≡ x → (t : Parsed) → parse src ≡ t → WalkFits room (walk_after x t input budget room)
    go (accepted c) e (tree b) p = block b c e p b.procs refl
    go (accepted c) e (refused n) p = nothing_fits n room input budget
    go (not_accepted n) e t p = nothing_fits n room input budget

-- and so does walk
pub record WalkSizes (lent : List ℕ) (places : List ℤ) (room : Work) (o : WalkOutcome) : Type 0 where
  pub out : length o.out ≡ length lent
  pub vars : length o.vars ≡ length places
  pub work : WorkSizes room o.work

walk_leaves_lem : (x : Walked) (budget : ℕ) (out : List ℕ) (vars : List ℤ) (work : Work) → WalkFits (length out) x → max_variables ≤ length vars → work_holds work ≡ true → WalkSizes out vars work (walk_leaves x budget out vars work)
unfolding walk_leaves
walk_leaves_lem x budget out vars work h hv hw = record {
  out = onto_keeps out x.final.out h.out;
  vars = onto_keeps vars (filled max_variables (pos 0) x.final.vars) (omega (arith, h.vars, length-append x.final.vars (replicate (max_variables - length x.final.vars) (pos 0)), length-replicate (max_variables - length x.final.vars) (pos 0)));
  work = work_sizes work hw;
}

pub walk_sizes : (src input : List ℕ) (budget : ℕ) (out : List ℕ) (vars : List ℤ) (work : Work) → WalkSizes out vars work (walk_outcome src input budget out vars work)
unfolding walk_outcome
walk_sizes src input budget out vars work = go (holds max_variables vars && work_holds work) refl
  where
    go : (x : Bool) → holds max_variables vars && work_holds work ≡ x
        → WalkSizes out vars work (elim x as (λ y. WalkOutcome) [ true ↦ walk_leaves (walk src input budget (length out)) budget out vars work | false ↦ record { number = room_too_small; out_length = 0; lines = 0; steps = 0; out = out; vars = vars; work = work } ])
    go true e =
        let (v, w) = both_true (holds max_variables vars) (work_holds work) e in
        walk_leaves_lem (walk src input budget (length out)) budget out vars work (walk_fits src input budget (length out)) (leb-true max_variables (length vars) v) w
    go false e = record { out = refl; vars = refl; work = work_same work }

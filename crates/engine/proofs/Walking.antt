-- What walk leaves, from what its parts leave.
use mathlib.Core.Path.{◌≡◌, refl, sym, ap, ◌∙◌}
use mathlib.Core.Bool.{Bool, true, false, ◌&&◌}
use mathlib.Core.List.{List, [], ◌++◌, append_assoc}
use Prim.Native.Nat.{ℕ, zero, suc, ◌+◌, ◌-◌, ◌≤◌, ◌<◌}
use native.Mathlib.Omega.{arith}
use lib.IntN.{ℤ, pos}
use lib.ListN.{length, drop, replicate, length-append, length-replicate}
use lib.Seq.{drop_at}
use borrow.Author.Tests.{lt-leb, le-leb}
use Rattle.std.specs.Prelude.{Result, Ok, Err}
use Rattle.std.specs.Result.{MatchResult}
use Rattle.numbers.specs.declared.refusal.Refusal.{Refusal}
use Rattle.numbers.specs.Refusals.{number_of}
use Rattle.numbers.specs.Panel.{room_too_small, procedure_in_tree}
use Rattle.numbers.specs.Limits.{max_variables, tree_places, table_places, draft_places}
use Rattle.numbers.specs.Stack.{links}
use Rattle.numbers.specs.Lent.{holds, onto, filled}
use Rattle.tree.specs.Tree.{Procs, no_procs, proc, Block}
use Rattle.tree.specs.Layout.{enc, Stands}
use Rattle.tree.specs.Nodes.{block_node}
use Rattle.grammar.specs.Grammar.{Parsed, parse}
use Rattle.pcode.specs.Code.{Instr}
use Rattle.symbols.specs.Symbols.{main_scope, Row, rows, const_rows, var_rows}
use Rattle.translator.specs.declared.Translated.{Translated}
use Rattle.translator.specs.Translate.{finished, body_code, procs_code, block_code}
use Rattle.machine.specs.declared.runs.Ended.{Ended}
use Rattle.walk.specs.declared.progress.Progress.{Progress}
use Rattle.walk.specs.Walk.{Walked, begin, walk_block}
use Rattle.walk.specs.Trees.{any_procs, TreeAt, Walks, finished as walked, halted}
use Rattle.outcomes.specs.Compile.{Compiled, compile, unwalked, walk_unless, walk_after, walk_parsed, walk}
use Rattle.outcomes.specs.Outcomes.{Work, work_holds, WalkOutcome, walk_leaves, walk_outcome}
use Rattle.outcomes.specs.Accepted.{tree_read, accepts, with_rows_lem, with_code_lem}
use Rattle.engine.specs.Entries.{Ready, Drafting, ready, refusal}
use Rattle.engine.specs.Walking.{refused_with, ended_of, ended_with, Leaves, walked_of}

-- the rows of a block without procedures are those of its constants and its variables
declared : (b : Block) (c : List Instr) (rs : List Row) (a : ℕ) → b.procs ≡ no_procs → block_code b ≡ finished c rs a → (r : List Row) × (const_rows [] 0 links main_scope b.consts ≡ rows r) × (var_rows r 0 links main_scope b.vars ≡ rows rs)
unfolding block_code procs_code
declared b c rs a none e =
    let (r₁, f₁, e₁) = with_rows_lem (const_rows [] 0 links main_scope b.consts) _ (rw none at e) in
    let (r₂, f₂, e₂) = with_rows_lem (var_rows r₁ 0 links main_scope b.vars) _ e₁ in
    let (d, f₃, e₃) = with_code_lem (body_code (record { rows = r₂; level = 0; scope = main_scope }) (links + length b.vars) b.main 1) _ e₂ in
    let z : r₂ ≡ rs = cc (e₃) in
    (r₁, f₁, f₂ ∙ ap rows z)

-- as the walk asks for it
no_procs_lem : (t : Procs) → false ≡ any_procs t → t ≡ no_procs
no_procs_lem no_procs h = refl
no_procs_lem (proc n ar cs vs inner b later) h = absurd (let z : ◌≡◌ {A = ℕ} 0 1 = cc in omega arith)

module _ {src tr table draft : List ℕ} {x : Result Translated Refusal} {t : Translated} (d : Drafting src tr table draft x) (e : x ≡ Ok t) where
  pub was_ready : Ready src tr table draft t.code t.rows
  was_ready = of (rw e at d)
    where
      of : Drafting src tr table draft (Ok t) → Ready src tr table draft t.code t.rows
      of (ready r) = r

  pub ready_stands : (b : Block) × Stands tr 0 (enc (block_node b))
  ready_stands = (was_ready.block, was_ready.stands.stands)

  module _ {f : Bool} (holding : (b : Block) → Stands tr 0 (enc (block_node b)) → f ≡ any_procs b.procs) where
    none : f ≡ false → was_ready.block.procs ≡ no_procs
    none y = no_procs_lem was_ready.block.procs (sym y ∙ holding was_ready.block was_ready.stands.stands)

    pub ready_tree : f ≡ false → TreeAt src tr table t.rows was_ready.block
    ready_tree y =
        let b = was_ready.block in
        let w = was_ready.whole in
        let (r, p, q) = declared b w.code _ w.address (none y) w.is in
        record { stands = was_ready.stands.stands; named = was_ready.stands.named; consts = r; consts_are = p; rows_are = q; sound = w.sound; seen = w.seen }

    -- the walk of the definitions
    module _ (input : List ℕ) (budget room : ℕ) where
      walk_unless_lem : walk src input budget room ≡ walk_unless was_ready.block.procs (walk_block was_ready.block input budget room) input budget
      unfolding walk
      walk_unless_lem =
          let b = was_ready.block in
          let w = was_ready.whole in
          ap (λ (c : Compiled). walk_after c (parse src) input budget room) (accepts src b w.code _ w.address was_ready.read w.is) ∙ ap (λ (p : Parsed). walk_parsed p input budget room) (tree_read src b was_ready.read)

      pub walk_procs : f ≡ true → walk src input budget room ≡ unwalked procedure_in_tree input budget
      walk_procs y = walk_unless_lem ∙ of was_ready.block.procs (walk_block was_ready.block input budget room) (sym y ∙ holding was_ready.block was_ready.stands.stands)
        where
          of : (p : Procs) (o : Walked) → true ≡ any_procs p → walk_unless p o input budget ≡ unwalked procedure_in_tree input budget
          of no_procs o h = absurd (let z : ◌≡◌ {A = ℕ} 0 1 = cc in omega arith)
          of (proc m ar cs vs inner b later) o h = refl

      pub walk_block_lem : f ≡ false → walk src input budget room ≡ walk_block was_ready.block input budget room
      walk_block_lem y = walk_unless_lem ∙ ap (λ (p : Procs). walk_unless p (walk_block was_ready.block input budget room) input budget) (none y)

-- a refusal, passed on
pub walk_refused : {src tr table draft : List ℕ} {t : Result Translated Refusal} {n : Refusal} → Drafting src tr table draft t → t ≡ Err n → (input : List ℕ) (budget room : ℕ) → walk src input budget room ≡ unwalked (number_of n) input budget
unfolding walk
walk_refused {src} {tr} {table} {draft} {t} {n} d e input budget room = of (rw e at d)
  where
    of : Drafting src tr table draft (Err n) → walk_after (compile src) (parse src) input budget room ≡ unwalked (number_of n) input budget
    of (refusal p) = ap (λ (c : Compiled). walk_after c (parse src) input budget room) p

-- no step was made
pub unmoved : (n : ℕ) (input : List ℕ) (budget : ℕ) (vars : List ℤ) (out : List ℕ) {x : Walked} {r : Ended} → x ≡ unwalked n input budget → r ≡ refused_with n → Leaves x budget vars out vars out r
unfolding begin
unmoved n input budget vars out p q = rw (p, q) (record { number = refl; out_length = refl; lines = refl; steps = omega arith; out_is = refl; vars_are = refl; few = omega arith })

-- the walk was made
pub left_in_lem : {x : Walked} {budget : ℕ} {vars vars' : List ℤ} {out out' : List ℕ} {p : Progress} {o : Result (Unit {0}) Refusal} → Walks x budget vars out vars' out' p o → p.clock.left ≤ budget
left_in_lem (walked h) = h.most
left_in_lem (halted h) = h.most

pub moved : {x y : Walked} {budget : ℕ} {vars vars' : List ℤ} {out out' : List ℕ} {p : Progress} {o : Result (Unit {0}) Refusal} {r : Ended} → x ≡ y → r ≡ ended_of p o budget → Walks y budget vars out vars' out' p o → Leaves x budget vars out vars' out' r
moved {budget = budget} p q (walked h) = rw (p, q) (record { number = sym h.number; out_length = sym h.written; lines = sym h.lines; steps = ap (λ (n : ℕ). budget - n) (sym h.left); out_is = h.out_is; vars_are = h.vars_are; few = h.few })
moved {budget = budget} p q (halted h) = rw (p, q) (record { number = sym h.number; out_length = sym h.written; lines = sym h.lines; steps = ap (λ (n : ℕ). budget - n) (sym h.left); out_is = h.out_is; vars_are = h.vars_are; few = h.few })

-- the refusal's answer, where no walk was made
pub ended_is : (x : Result Ended Refusal) {r : Ended} → MatchResult x (λ y. r ≡ y) (λ e. r ≡ refused_with (number_of e)) → r ≡ ended_with x
ended_is (Ok y) h = h
ended_is (Err e) h = h

-- zeros that were put down stay down
pub zeros_stay : (lent : List ℤ) {vars : List ℤ} → vars ≡ onto lent (replicate max_variables (pos 0)) → vars ≡ onto vars (replicate max_variables (pos 0))
zeros_stay lent {vars} e =
    let z : List ℤ = replicate max_variables (pos 0) in
    e ∙ ap (λ (l : List ℤ). z ++ l) (sym (ap (drop (length z)) e ∙ drop_at z (drop (length z) lent) (length z) refl))

-- the variables, and zeros beyond them
zeros_beyond : (lent vs : List ℤ) {vars vars' : List ℤ} → length vs ≤ max_variables → vars ≡ onto lent (replicate max_variables (pos 0)) → vars' ≡ onto vars vs → vars' ≡ onto lent (filled max_variables (pos 0) vs)
zeros_beyond lent vs {vars} {vars'} h e f =
    let z : List ℤ = replicate (max_variables - length vs) (pos 0) in
    let n : length (vs ++ z) ≡ max_variables = length-append vs z ∙ omega (arith, length-replicate (max_variables - length vs) (pos 0), h) in
    f ∙ ap (λ (l : List ℤ). vs ++ drop (length vs) l) e ∙ ap (λ (l : List ℤ). vs ++ l) (drop_zeros (length vs) max_variables (drop (length (replicate max_variables (pos 0))) lent) h) ∙ sym (append_assoc vs z _)
    ∙ ap (λ (k : ℕ). (vs ++ z) ++ drop k lent) (length-replicate max_variables (pos 0) ∙ sym n)
  where
    drop_zeros : (k n : ℕ) (rest : List ℤ) → k ≤ n → drop k (replicate n (pos 0) ++ rest) ≡ replicate (n - k) (pos 0) ++ rest
    drop_zeros zero n rest h = let e : n ≡ n - 0 = omega arith in ap (λ (m : ℕ). replicate m (pos 0) ++ rest) e
    drop_zeros (suc k) zero rest h = absurd (omega (arith, h))
    drop_zeros (suc k) (suc n) rest h = let e : n - k ≡ suc n - suc k = omega arith in drop_zeros k n rest (omega (arith, h)) ∙ ap (λ (m : ℕ). replicate m (pos 0) ++ rest) e

-- all that walk leaves, where there is room
pub all_left : (x : Walked) (budget : ℕ) (out : List ℕ) (vars : List ℤ) (work : Work) {v₁ v₂ : List ℤ} {o₂ tr table draft : List ℕ} {r : Ended} → v₁ ≡ onto vars (replicate max_variables (pos 0)) → Leaves x budget v₁ out v₂ o₂ r
    → tr ≡ onto work.tree (replicate tree_places 0) → table ≡ onto work.table (replicate table_places 0) → draft ≡ onto work.draft (replicate draft_places 0) → walked_of r o₂ v₂ tr table draft ≡ walk_leaves x budget out vars work
unfolding walk_leaves
all_left x budget out vars work z h pt pr pd =
    let pn = h.number in
    let pl = h.out_length in
    let pi = h.lines in
    let ps = h.steps in
    let po = h.out_is in
    let pv = zeros_beyond vars x.final.vars h.few z h.vars_are in
    λ i. record { number = pn i; out_length = pl i; lines = pi i; steps = ps i; out = po i; vars = pv i; work = record { tree = pt i; table = pr i; draft = pd i } }

-- where all rooms are large enough, and where one is not
module _ (src input : List ℕ) (budget : ℕ) (out : List ℕ) (vars : List ℤ) (work : Work) where
  pub roomy_walk : {o : WalkOutcome} → max_variables ≤ length vars → work_holds work ≡ true → o ≡ walk_leaves (walk src input budget (length out)) budget out vars work → o ≡ walk_outcome src input budget out vars work
  unfolding walk_outcome
  roomy_walk h k e = let both : holds max_variables vars && work_holds work ≡ true = ap (λ (b : Bool). b && work_holds work) (le-leb max_variables (length vars) h) ∙ k in rw (both, walk_outcome) e

  pub cramped_vars : {r : Ended} → r ≡ refused_with room_too_small → length vars < max_variables → walked_of r out vars work.tree work.table work.draft ≡ walk_outcome src input budget out vars work
  unfolding walk_outcome
  cramped_vars e h = let none : holds max_variables vars && work_holds work ≡ false = ap (λ (b : Bool). b && work_holds work) (lt-leb max_variables (length vars) h) in rw (none, walk_outcome, e)

  pub cramped_room : {r : Ended} {tr table draft : List ℕ} → r ≡ refused_with room_too_small → max_variables ≤ length vars → work_holds work ≡ false → tr ≡ work.tree → table ≡ work.table → draft ≡ work.draft
      → walked_of r out vars tr table draft ≡ walk_outcome src input budget out vars work
  unfolding walk_outcome
  cramped_room e h k pt pr pd = let none : holds max_variables vars && work_holds work ≡ false = ap (λ (b : Bool). b && work_holds work) (le-leb max_variables (length vars) h) ∙ k in rw (pt, pr, pd, none, walk_outcome, e)

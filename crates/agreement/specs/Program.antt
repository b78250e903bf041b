-- The whole code of a program without procedures: JMP, INT, the body and the return, beside the walk's first two steps, the statements and the last step;
-- and that the translator's main block is such a code.
use Rattle.std.specs.Prelude.{◌≡◌, refl, ℤ, leb, take}
use Rattle.std.proofs.Math.Path.{ap, sym}
use Rattle.std.proofs.Common.{◌∙◌, subst, get_or-take}
use Rattle.std.proofs.Math.Bool.{true, false}
use mathlib.Core.List.{List, [], ◌∷◌}
use Prim.Native.Nat.{ℕ, zero, suc, ◌+◌, ◌<◌, ◌≤◌}
use native.Mathlib.Omega.{arith}
use Rattle.std.proofs.Math.IntN.{pos}
use Rattle.std.proofs.Math.ListN.{length, get_or}
use borrow.Author.Tests.{le-leb, lt-ltb}
use Rattle.numbers.specs.Panel.{cell_outside}
use Rattle.numbers.specs.Limits.{max_cells, max_rows}
use Rattle.numbers.specs.Stack.{links}
use Rattle.tree.specs.Tree.{Stmts, no_procs, Block}
use Rattle.pcode.specs.Operators.{return}
use Rattle.pcode.specs.Code.{opr, INT, JMP, Instr, ins}
use Rattle.emission.specs.Pieces.{emit_oper, made, ◌⨾◌, emit}
use Rattle.symbols.specs.Symbols.{rows, Row, find, const_rows, var_rows, main_scope}
use Rattle.emission.specs.Statements.{stmts_code}
use Rattle.translator.specs.Translate.{finished, procs_code, block_code}
use Rattle.machine.specs.Machine.{Step, next, halt, stop, Ended, ended, run, step, perform, operate, from, cell_at, goto, with}
use Rattle.walk.specs.Walk.{State, Result, Walk, then, tick, at_top, walk_main, Walked, walked, declared_rows}
use Rattle.outcomes.specs.Accepted.{with_rows_lem, with_code_lem}
use Rattle.agreement.specs.Declared.{const_rows_lem, var_rows_lem, sound_rows}
use Rattle.agreement.specs.Exprs.{SoundFound, main}
use Rattle.agreement.specs.InStep.{at, frame, Rel, Sim, came, stopped, makes}
use Rattle.agreement.specs.Instructions.{fetch, fetch_oper, jmp_step}
use Rattle.agreement.specs.Places.{At, Made, made_emit, made_seq, made_order}
use Rattle.agreement.specs.Statements.{stmts_run}

-- the walk's end and the run's, with v variables: cells 0 to 2 are the main block's links, and the variables follow
pub record Agrees (v : ℕ) (x : Walked) (e : Ended) : Type 0 where
  pub number : e.number ≡ x.number
  pub left : e.left ≡ x.left
  pub out : e.machine.out ≡ x.final.out
  pub input : e.machine.input ≡ x.final.input
  pub lines : e.machine.lines ≡ x.final.lines
  pub cells : take (links + v) e.machine.cells ≡ pos 0 ∷ pos 0 ∷ pos 0 ∷ x.final.vars

module _ (code : List Instr) (room v : ℕ) where
  -- in step so far, and then to the end
  finish : {A : Type 0} {q : ℕ} {Q : A → State → List ℤ → Type 0} {e : Ended} {b : ℕ} {r : Result A} (k : A → Walk (Unit {0})) → Sim v code room q Q e b r
      → ((a : A) (b' : ℕ) (w : State) (cs : List ℤ) → Q a w cs → Agrees v (walked (k a b' w)) (run code room b' (at q w cs))) → Agrees v (walked (then k r)) e
  unfolding walked
  finish k (came {a} {b'} {w} cs h l g) f = rw g (f a b' w cs h)
  finish k (stopped m s g) f = rw g (record { number = refl; left = refl; out = s.out; input = s.input; lines = s.lines; cells = s.cells })

  -- the return at the end halts, since the link is 0
  return_halts : {p : ℕ} → At code p (opr return) → (w : State) (cs : List ℤ) → take (links + v) cs ≡ frame w.vars
      → step code room (at p w cs) ≡ halt (record { pc = p; base = get_or cs 0 (pos 0); top = 0; cells = cs; out = w.out; input = w.input; lines = w.lines })
  unfolding operate from cell_at goto
  return_halts {p} i w cs low =
      let l : 2 < links + v = omega arith in
      let e : get_or cs 2 (pos 0) ≡ pos 0 = sym (get_or-take (links + v) cs 2 (pos 0) l) ∙ ap (λ c. get_or c 2 (pos 0)) low in
      let n : 0 < length code = omega (arith, i.inside) in
      fetch_oper room return w cs i ∙ rw e (rw (goto, lt-ltb 0 (length code) n))

  halts : {p : ℕ} → At code p (opr return) → (b : ℕ) (w : State) (cs : List ℤ) → Rel v w cs → Agrees v (walked (tick b w)) (run code room b (at p w cs))
  unfolding walked run
  halts i zero w cs h = record { number = refl; left = refl; out = refl; input = refl; lines = refl; cells = h.low }
  halts {p} i (suc b) w cs h =
      let e : run code room (suc b) (at p w cs) ≡ ended 0 b (record { pc = p; base = get_or cs 0 (pos 0); top = 0; cells = cs; out = w.out; input = w.input; lines = w.lines }) = rw (run, return_halts i w cs h.low) in
      rw e (record { number = refl; left = refl; out = refl; input = refl; lines = refl; cells = h.low })

  int_opens : {p : ℕ} → At code p (ins INT 0 (pos (links + v))) → v ≤ max_rows → (w : State) (cs : List ℤ) → w.top ≡ 0 → step code room (at p w cs) ≡ next (at (suc p) (at_top (links + v) w) cs)
  unfolding perform with
  int_opens {p} i few w cs e =
      let l : links + v ≤ max_cells = omega arith in
      let t : w.top + (links + v) ≡ links + v = omega arith in
      fetch room w cs i ∙ ap {B = Step} (λ n. elim (leb n max_cells) as (λ x. Step) [ true ↦ next (at (suc p) (at_top n w) cs) | false ↦ stop cell_outside ]) t ∙ rw (le-leb (links + v) max_cells l)

  -- before the frame is open
  pub record Entered (w : State) (cs : List ℤ) : Type 0 where
    pub top : w.top ≡ 0
    pub size : length cs ≡ max_cells
    pub low : take (links + v) cs ≡ frame w.vars

  pub program_agrees : (few : v ≤ max_rows) (rs : List Row) (sound : (n : List ℕ) → SoundFound (links + v) (find rs n main_scope)) (s : Stmts)
      → At code 0 (ins JMP 0 (pos 1)) → Made code (emit INT 0 (pos (links + v)) ⨾ stmts_code (main rs) s ⨾ emit_oper return) 1 (length code)
      → (b : ℕ) (w : State) (cs : List ℤ) → Entered w cs → Agrees v (walked (walk_main rs room v s b w)) (run code room b (at 0 w cs))
  unfolding walk_main
  program_agrees few rs sound s i h b w cs en =
      let (r, h₁, h₂) = made_seq h in
      let (t, h₃, h₄) = made_seq h₂ in
      let (i₁, e₁) = made_emit h₁ in
      let (i₂, e₂) = made_emit h₄ in
      let (o₁, m₁) = made_order h₁ in
      let (o₃, m₃) = made_order h₃ in
      let one : 1 < length code = omega arith in
      finish _ (makes 0 w cs (tt {0}) w cs en.low (jmp_step room i (omega arith) one w cs) en b) λ u b₁ w₁ cs₁ en₁.
      finish _ (makes 1 w₁ cs₁ (tt {0}) (at_top (links + v) w₁) cs₁ en₁.low (int_opens i₁ few w₁ cs₁ en₁.top) (opening w₁ cs₁ en₁) b₁) λ u b₂ w₂ cs₂ rel.
      finish _ (stmts_run code room v few rs sound s 2 t (subst (λ n. Made code (stmts_code (main rs) s) n t) e₁ h₃) (omega arith) (omega arith) b₂ w₂ cs₂ rel) λ u b₃ w₃ cs₃ rel₃.
      halts i₂ b₃ w₃ cs₃ rel₃
    where
      opening : (w : State) (cs : List ℤ) → Entered w cs → Rel v (at_top (links + v) w) cs
      opening w cs en = let l : links + v ≤ links + v = omega arith in record { size = en.size; low = en.low; over = l }

-- what stands behind an accepted main block without procedures
pub record Standing (b : Block) (c : List Instr) : Type 0 where
  pub rs : List Row
  pub declared : declared_rows b ≡ rs
  pub sound : (n : List ℕ) → SoundFound (links + length b.vars) (find rs n main_scope)
  pub few : length b.vars ≤ max_rows
  pub piece : List Instr
  pub gives : (emit INT 0 (pos (links + length b.vars)) ⨾ stmts_code (main rs) b.main ⨾ emit_oper return) 1 ≡ made piece
  pub is : c ≡ ins JMP 0 (pos 1) ∷ piece

parts_stand : (b : Block) (c : List Instr) (rs r₁ r₂ : List Row) (a : ℕ) (d : List Instr) → const_rows [] 0 links main_scope b.consts ≡ rows r₁ → var_rows r₁ 0 links main_scope b.vars ≡ rows r₂
    → (emit INT 0 (pos (links + length b.vars)) ⨾ stmts_code (main r₂) b.main ⨾ emit_oper return) 1 ≡ made d → finished (ins JMP 0 (pos 1) ∷ d) r₂ (links + length b.vars) ≡ finished c rs a → Standing b c
unfolding declared_rows
parts_stand b c rs r₁ r₂ a d f₁ f₂ f₃ e =
    let (s₁, l₁) = const_rows_lem (links + length b.vars) b.consts [] r₁ f₁ tt (omega arith) in
    let (s₂, l₂) = var_rows_lem (links + length b.vars) b.vars 3 r₁ r₂ f₂ (omega arith) (omega arith) s₁ l₁ in
    record { rs = r₂; declared = rw (f₁, f₂); sound = sound_rows (links + length b.vars) r₂ s₂; few = omega arith; piece = d; gives = f₃; is = cc }

pub standing : (b : Block) (c : List Instr) (rs : List Row) (a : ℕ) → b.procs ≡ no_procs → block_code b ≡ finished c rs a → Standing b c
unfolding block_code procs_code
standing b c rs a none e =
    let (r₁, f₁, e₁) = with_rows_lem (const_rows [] 0 links main_scope b.consts) _ (rw none at e) in
    let (r₂, f₂, e₂) = with_rows_lem (var_rows r₁ 0 links main_scope b.vars) _ e₁ in
    let (d, f₃, e₃) = with_code_lem ((emit INT 0 (pos (links + length b.vars)) ⨾ stmts_code (main r₂) b.main ⨾ emit_oper return) 1) _ e₂ in
    parts_stand b c rs r₁ r₂ a d f₁ f₂ f₃ e₃

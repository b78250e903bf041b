-- Laws of blocks and procedures on the definitions alone: what a procedure becomes, step by step.
use mathlib.Core.Path.{◌≡◌, refl, ap, ◌∙◌}
use mathlib.Core.Bool.{Bool, true, false}
use mathlib.Core.List.{List, [], ◌∷◌, ◌++◌}
use Prim.Native.Nat.{ℕ, suc, ◌+◌, ◌≤◌, ◌<◌}
use lib.IntN.{pos}
use lib.Dec.{ltb}
use lib.ListN.{length}
use borrow.Author.Tests.{lt-ltb, le-ltb}
use Rattle.numbers.specs.Limits.{max_code}
use Rattle.numbers.specs.Panel.{too_many_instructions}
use Rattle.numbers.specs.Stack.{links}
use Rattle.lexer.specs.Tokens.{Name}
use Rattle.tree.specs.Tree.{Const, Stmts, Procs, proc, Block}
use Rattle.pcode.specs.Code.{JMP, Instr, ins}
use Rattle.symbols.specs.Symbols.{Scope, main_scope, Row, Rows, rows, refuse_rows, and_rows, fresh, proc_row, const_rows, var_rows, arg_rows}
use Rattle.emission.specs.Pieces.{Out, made, refuse}
use Rattle.emission.specs.Statements.{Env}
use Rattle.translator.specs.Translate.{body_code, Done, finished, failed, with_rows, with_done, with_code, entry_at, procs_code, block_code}
use Rattle.translator.specs.Rows.{head_rows}
use Rattle.translator.specs.Blocks.{inside_code, end_code}

-- one step before another
and_with : (x : Rows) (k : List Row → Rows) (f : List Row → Done) → with_rows x (λ r. with_rows (k r) f) ≡ with_rows (and_rows x k) f
and_with (rows q) k f = refl
and_with (refuse_rows e) k f = refl

done_with : (x : Rows) (k : List Row → Done) (h : List Instr → List Row → ℕ → Done) → with_rows x (λ r. with_done (k r) h) ≡ with_done (with_rows x k) h
done_with (rows q) k h = refl
done_with (refuse_rows e) k h = refl

with_same : (x : Rows) (f g : List Row → Done) → ((q : List Row) → f q ≡ g q) → with_rows x f ≡ with_rows x g
with_same (rows q) f g h = h q
with_same (refuse_rows e) f g h = refl

module _ (n : Name) (ar : List Name) (cs : List Const) (vs : List Name) (inner : Procs) (b : Stmts) (later : Procs) (l : ℕ) (sc : Scope) (a : ℕ) (rs : List Row) (p : ℕ) where
  abbrev here : List Instr → ℕ
  here c1 = p + 1 + length c1

  abbrev pub within : List Instr → List Row → Env
  within c1 r5 = record { rows = entry_at r5 (length rs) (here c1); level = suc l; scope = n.text ∷ sc }

  abbrev pub so_far : List Instr → List Instr → List Instr
  so_far c1 c2 = ins JMP 0 (pos (here c1 + length ar)) ∷ c1 ++ c2

  abbrev after : List Instr → List Row → List Instr → Done
  after c1 r5 c2 = with_done (procs_code later l sc (suc a) (entry_at r5 (length rs) (here c1)) (p + length (so_far c1 c2))) λ c3 r7 a3. finished (so_far c1 c2 ++ c3) r7 a3

  abbrev rest : List Instr → List Row → ℕ → Done
  rest c1 r5 a1 = with_code (end_code (within c1 r5) a1 (length ar) b (here c1)) (after c1 r5)

  abbrev inside : List Row → Done
  inside r2 = inside_code cs vs inner (suc l) (n.text ∷ sc) (links + length ar) r2 (p + 1)

  abbrev next : List Row → Done
  next r2 = elim (ltb p max_code) [ true ↦ with_done (inside r2) rest | false ↦ failed too_many_instructions ]

  proc_is : procs_code (proc n ar cs vs inner b later) l sc a rs p ≡ with_rows (head_rows rs n ar l a sc) next
  unfolding procs_code head_rows inside_code
  proc_is =
      and_with (fresh rs (proc_row n (length ar) l a sc)) (λ r1. arg_rows r1 (suc l) links (n.text ∷ sc) ar) _
      ∙ with_same (and_rows (fresh rs (proc_row n (length ar) l a sc)) λ r1. arg_rows r1 (suc l) links (n.text ∷ sc) ar) _ next (λ r2. test r2 (ltb p max_code))
    where
      test : (r2 : List Row) (t : Bool)
          → ◌≡◌ {A = Done}
          (elim t [ true ↦ with_rows (const_rows r2 (suc l) (links + length ar) (n.text ∷ sc) cs) (λ r3. with_rows (var_rows r3 (suc l) (links + length ar) (n.text ∷ sc) vs) λ r4. with_done (procs_code inner (suc l) (n.text ∷ sc) (links + length ar + length vs) r4 (p + 1)) rest) | false ↦ failed too_many_instructions ])
          (elim t [ true ↦ with_done (inside r2) rest | false ↦ failed too_many_instructions ])
      test r2 false = refl
      test r2 true =
          with_same (const_rows r2 (suc l) (links + length ar) (n.text ∷ sc) cs) _ _ (λ r3. done_with (var_rows r3 (suc l) (links + length ar) (n.text ∷ sc) vs) (λ r4. procs_code inner (suc l) (n.text ∷ sc) (links + length ar + length vs) r4 (p + 1)) rest)
          ∙ done_with (const_rows r2 (suc l) (links + length ar) (n.text ∷ sc) cs) (λ r3. with_rows (var_rows r3 (suc l) (links + length ar) (n.text ∷ sc) vs) λ r4. procs_code inner (suc l) (n.text ∷ sc) (links + length ar + length vs) r4 (p + 1)) rest

  pub head_refused : {e : ℕ} → head_rows rs n ar l a sc ≡ refuse_rows e → procs_code (proc n ar cs vs inner b later) l sc a rs p ≡ failed e
  head_refused h = proc_is ∙ ap (λ (x : Rows). with_rows x next) h

  module _ (r2 : List Row) (h : head_rows rs n ar l a sc ≡ rows r2) where
    head_made : procs_code (proc n ar cs vs inner b later) l sc a rs p ≡ next r2
    head_made = proc_is ∙ ap (λ (x : Rows). with_rows x next) h

    pub no_place : max_code ≤ p → procs_code (proc n ar cs vs inner b later) l sc a rs p ≡ failed too_many_instructions
    no_place q = head_made ∙ ap (λ (t : Bool). elim t as (λ x. Done) [ true ↦ with_done (inside r2) rest | false ↦ failed too_many_instructions ]) (le-ltb p max_code q)

    module _ (q : p < max_code) where
      place_made : procs_code (proc n ar cs vs inner b later) l sc a rs p ≡ with_done (inside r2) rest
      place_made = head_made ∙ ap (λ (t : Bool). elim t as (λ x. Done) [ true ↦ with_done (inside r2) rest | false ↦ failed too_many_instructions ]) (lt-ltb p max_code q)

      pub inside_refused : {e : ℕ} → inside r2 ≡ failed e → procs_code (proc n ar cs vs inner b later) l sc a rs p ≡ failed e
      inside_refused w = place_made ∙ ap (λ (d : Done). with_done d rest) w

      module _ (c1 : List Instr) (r5 : List Row) (a1 : ℕ) (w : inside r2 ≡ finished c1 r5 a1) where
        inside_made : procs_code (proc n ar cs vs inner b later) l sc a rs p ≡ rest c1 r5 a1
        inside_made = place_made ∙ ap (λ (d : Done). with_done d rest) w

        pub end_refused : {e : ℕ} → end_code (within c1 r5) a1 (length ar) b (here c1) ≡ refuse e → procs_code (proc n ar cs vs inner b later) l sc a rs p ≡ failed e
        end_refused v = inside_made ∙ ap (λ (o : Out). with_code o (after c1 r5)) v

        pub end_made : (c2 : List Instr) → end_code (within c1 r5) a1 (length ar) b (here c1) ≡ made c2
            → procs_code (proc n ar cs vs inner b later) l sc a rs p ≡ with_done (procs_code later l sc (suc a) (entry_at r5 (length rs) (here c1)) (p + length (so_far c1 c2))) (λ c3 r7 a3. finished (so_far c1 c2 ++ c3) r7 a3)
        end_made c2 v = inside_made ∙ ap (λ (o : Out). with_code o (after c1 r5)) v

-- the main block
module _ (b : Block) where
  abbrev pub main : List Row → Env
  main r3 = record { rows = r3; level = 0; scope = main_scope }

  abbrev pub closing : List Instr → List Row → ℕ → Done
  closing c1 r3 a = with_code (body_code (main r3) a b.main (1 + length c1)) λ c2. finished (ins JMP 0 (pos (1 + length c1)) ∷ c1 ++ c2) r3 a

  pub block_is : block_code b ≡ with_done (inside_code b.consts b.vars b.procs 0 main_scope links [] 1) closing
  unfolding block_code inside_code
  block_is =
      with_same (const_rows [] 0 links main_scope b.consts) _ _ (λ r1. done_with (var_rows r1 0 links main_scope b.vars) (λ r2. procs_code b.procs 0 main_scope (links + length b.vars) r2 1) closing)
      ∙ done_with (const_rows [] 0 links main_scope b.consts) (λ r1. with_rows (var_rows r1 0 links main_scope b.vars) λ r2. procs_code b.procs 0 main_scope (links + length b.vars) r2 1) closing

-- Expressions and conditions: the code that is made of one does what the walk does on it, and leaves its value on top.
use Rattle.std.specs.Prelude.{◌≡◌, refl, List, ℕ, suc, ◌+◌, ◌<◌, ◌≤◌, ℤ, pos}
use Rattle.std.proofs.Math.Option.{Option, none, some}
use Rattle.std.proofs.Common.{arith}
use Rattle.numbers.specs.Limits.{max_rows}
use Rattle.numbers.specs.Stack.{links}
use Rattle.tree.specs.Tree.{Exp, lit, ref, neg, chain, brackets, Chain, end, link, Cond, is_odd, rel}
use Rattle.pcode.specs.Code.{Op, LOD, Instr, ins}
use Rattle.emission.specs.Pieces.{Piece}
use Rattle.symbols.specs.Symbols.{Kind, const, var, procedure, Row, find, main_scope}
use Rattle.emission.specs.Statements.{Env, reach, value_code, used, exp_code, chain_code, cond_code}
use Rattle.machine.specs.Machine.{run}
use Rattle.walk.specs.Walk.{State, Walk, walk_exp, walk_chain, walk_cond, value_in, value_by, push}
use Rattle.agreement.specs.InStep.{at, Rel, Pushed, Sim, came, bind}
use Rattle.agreement.specs.Instructions.{lit_law, lod_law, neg_law, odd_law, arith_law, compare_law}
use Rattle.agreement.specs.Places.{At, Made, made_emit, made_seq, made_no, made_nothing}

-- a row of the main block: a constant, or a variable with a cell below n
abbrev pub SoundBy : ℕ → Row → Kind → Type 0
SoundBy n r const = Unit {0}
SoundBy n r var = (r.level ≡ 0) × (links ≤ r.addr) × (r.addr < n)
SoundBy n r procedure = ⊥

abbrev pub SoundFound : ℕ → Option Row → Type 0
SoundFound n none = Unit {0}
SoundFound n (some r) = SoundBy n r r.kind

-- the main block's rows are in force
abbrev pub main : List Row → Env
main rs = record { rows = rs; level = 0; scope = main_scope }

pub made_reach : {code : List Instr} (rs : List Row) (o : Op) (r : Row) (p q : ℕ) → r.level ≡ 0 → Made code (reach o (main rs) r r.addr) p q → At code p (ins o 0 (pos r.addr)) × (q ≡ suc p)
unfolding reach
made_reach rs o r p q e h = made_emit (rw (reach, e, e) at h)

module _ (code : List Instr) (room v : ℕ) (few : v ≤ max_rows) (rs : List Row) (sound : (n : List ℕ) → SoundFound (links + v) (find rs n main_scope)) where
  -- a piece that pushes what the walk answers
  abbrev pub Pushes : Piece → Walk ℤ → Type 0
  Pushes g k = (p q : ℕ) → Made code g p q → (b : ℕ) (w : State) (cs : List ℤ) → Rel v w cs → Sim v code room q (Pushed v w cs) (run code room b (at p w cs)) b (k b w)

  ref_pushes : (f : Option Row) → SoundFound (links + v) f → Pushes (used (main rs) f) (λ b w. push (value_in f w.vars) b w)
  ref_pushes none s p q h = absurd (made_no _ h)
  ref_pushes (some r) s p q h = by r.kind s h
    where
      by : (k : Kind) → SoundBy (links + v) r k → Made code (value_code (main rs) r k) p q
          → (b : ℕ) (w : State) (cs : List ℤ) → Rel v w cs → Sim v code room q (Pushed v w cs) (run code room b (at p w cs)) b (push (value_by r k w.vars) b w)
      by const s h b w cs k = let (i, e) = made_emit h in rw e (lit_law (pos r.value) i b w cs k)
      by var s h b w cs k = let (i, e) = made_reach rs LOD r p q s.0 h in rw e (lod_law i s.1 s.2 few b w cs k)
      by procedure s h b w cs k = absurd s

  -- a chain goes on from the value x on top
  abbrev GoesOn : Chain → Type 0
  GoesOn c = (p q : ℕ) → Made code (chain_code (main rs) c) p q → (b : ℕ) (w : State) (cs : List ℤ) (w₁ : State) (cs₁ : List ℤ) (x : ℤ) → Rel v w cs → Pushed v w cs x w₁ cs₁ → Sim v code room q (Pushed v w cs) (run code room b (at p w₁ cs₁)) b (walk_chain rs c x b w₁)

  mutual
    unfolding exp_code walk_exp

    pub exp_pushes : (e : Exp) → Pushes (exp_code (main rs) e) (walk_exp rs e)
    exp_pushes (lit n) p q h b w cs k = let (i, e) = made_emit h in rw e (lit_law (pos n) i b w cs k)
    exp_pushes (ref n) p q h b w cs k = ref_pushes (find rs n.text main_scope) (sound n.text) p q h b w cs k
    exp_pushes (neg e) p q h b w cs k =
        let (r, h₁, h₂) = made_seq h in
        let (i, eq) = made_emit h₂ in
        rw eq (bind _ (exp_pushes e p r h₁ b w cs k) λ z b₁ w₁ cs₁ l k₁. neg_law i b₁ w cs w₁ cs₁ z k k₁)
    exp_pushes (chain e c) p q h b w cs k =
        let (r, h₁, h₂) = made_seq h in
        bind _ (exp_pushes e p r h₁ b w cs k) λ x b₁ w₁ cs₁ l k₁. chain_goes c r q h₂ b₁ w cs w₁ cs₁ x k k₁
    exp_pushes (brackets e) p q h b w cs k = exp_pushes e p q h b w cs k

    chain_goes : (c : Chain) → GoesOn c
    chain_goes end p q h b w cs w₁ cs₁ x k k₁ = let t : b ≤ b = omega arith in rw (← (made_nothing h)) (came cs₁ k₁ t refl)
    chain_goes (link o e c) p q h b w cs w₁ cs₁ x k k₁ =
        let (r, h₁, h₂) = made_seq h in
        let (t, h₃, h₄) = made_seq h₂ in
        let (i, eq) = made_emit h₃ in
        bind _ (exp_pushes e p r h₁ b w₁ cs₁ k₁.rel) λ y b₂ w₂ cs₂ l₂ k₂.
        bind _ (arith_law o i b₂ w cs w₁ cs₁ w₂ cs₂ x y k k₁ k₂) λ z b₃ w₃ cs₃ l₃ k₃.
        chain_goes c (suc r) q (rw eq at h₄) b₃ w cs w₃ cs₃ z k k₃

  pub cond_pushes : (c : Cond) → Pushes (cond_code (main rs) c) (walk_cond rs c)
  unfolding cond_code walk_cond
  cond_pushes (is_odd e) p q h b w cs k =
      let (r, h₁, h₂) = made_seq h in
      let (i, eq) = made_emit h₂ in
      rw eq (bind _ (exp_pushes e p r h₁ b w cs k) λ z b₁ w₁ cs₁ l k₁. odd_law i b₁ w cs w₁ cs₁ z k k₁)
  cond_pushes (rel o x y) p q h b w cs k =
      let (r, h₁, h₂) = made_seq h in
      let (t, h₃, h₄) = made_seq h₂ in
      let (i, eq) = made_emit h₄ in
      rw eq (bind _ (exp_pushes x p r h₁ b w cs k) λ m b₁ w₁ cs₁ l k₁. bind _ (exp_pushes y r t h₃ b₁ w₁ cs₁ k₁.rel) λ n b₂ w₂ cs₂ l₂ k₂. compare_law o i b₂ w cs w₁ cs₁ w₂ cs₂ m n k k₁ k₂)

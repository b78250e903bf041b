-- Statements: the code that is made of one does what the walk does on it. A `while` goes by the laps that the budget leaves.
use Rattle.std.specs.Prelude.{◌≡◌, Bool, ℤ, pos, length, set}
use Rattle.std.proofs.Math.Path.{refl}
use Rattle.std.proofs.Math.Bool.{true, false}
use mathlib.Core.List.{List, [], ◌∷◌}
use Rattle.std.proofs.Math.Option.{Option, none, some}
use Prim.Native.Nat.{ℕ, zero, suc, ◌+◌, ◌-◌, ◌<◌, ◌≤◌}
use native.Mathlib.Omega.{arith}
use Rattle.std.proofs.Common.{add-one, add-zero}
use Rattle.numbers.specs.Panel.{name_not_found, wrong_kind}
use Rattle.numbers.specs.Limits.{max_rows}
use Rattle.numbers.specs.Stack.{links}
use Rattle.numbers.specs.Arithmetic.{eq_z}
use Rattle.lexer.specs.Tokens.{Name}
use Rattle.tree.specs.Tree.{Exp, Cond, Stmt, assign, if_then, if_else, while, call, body, read_s, write_s, Stmts, last, more}
use Rattle.pcode.specs.Operators.{read}
use Rattle.pcode.specs.Code.{STO, JMP, JPC, Instr, ins}
use Rattle.emission.specs.Pieces.{emit_oper, Piece, ◌⨾◌, emit, nothing, jump_over, refuse, refusing}
use Rattle.symbols.specs.Symbols.{Kind, const, var, procedure, Row, find, main_scope}
use Rattle.emission.specs.Statements.{reach, storing, if_var, if_proc, call_code, reads_code, writes_code, stmt_code, stmts_code, exp_code, cond_code}
use Rattle.machine.specs.Machine.{run}
use Rattle.walk.specs.Walk.{State, Walk, then, ◌>>=◌, ◌>>◌, pure, step, tick, whether, loop, store, place_in, walk_exp, walk_cond, read_line, walk_reads, walk_writes, walk_stmt, walk_stmts}
use Rattle.agreement.specs.Exprs.{SoundBy, SoundFound, main, Pushes, made_reach, exp_pushes, cond_pushes}
use Rattle.agreement.specs.InStep.{at, Rel, Pushed, Sim, came, bind, ticks}
use Rattle.agreement.specs.Instructions.{sto_law, write_law, newline_law, read_law, jmp_step, jpc_out, jpc_on, tick_law}
use Rattle.agreement.specs.Places.{At, Made, made_emit, made_seq, made_no, made_nothing, made_jump, made_order}

-- without a procedure to find, a call is refused with 10 or 11
pub call_refused : (v : ℕ) (rs : List Row) → ((n : List ℕ) → SoundFound (links + v) (find rs n main_scope)) → (n : Name) (es : List Exp) (p : ℕ) → (k : ℕ) × (stmt_code (main rs) (call n es) p ≡ refuse k) × (name_not_found ≤ k) × (k ≤ wrong_kind)
unfolding stmt_code refusing
call_refused v rs sound n es p = found (find rs n.text main_scope) (sound n.text)
  where
    by : (d : Kind) (r : Row) (g : Piece) → SoundBy (links + v) r d → (k : ℕ) × (if_proc d g p ≡ refuse k) × (name_not_found ≤ k) × (k ≤ wrong_kind)
    by const r g s = (wrong_kind, refl, omega arith, omega arith)
    by var r g s = (wrong_kind, refl, omega arith, omega arith)
    by procedure r g s = absurd s

    found : (f : Option Row) → SoundFound (links + v) f → (k : ℕ) × (call_code (main rs) es f p ≡ refuse k) × (name_not_found ≤ k) × (k ≤ wrong_kind)
    found none s = (name_not_found, refl, omega arith, omega arith)
    found (some r) s = by r.kind r _ s

module _ (code : List Instr) (room v : ℕ) (few : v ≤ max_rows) (rs : List Row) (sound : (n : List ℕ) → SoundFound (links + v) (find rs n main_scope)) where
  -- a piece that does what the walk does; it stands after the first cellAt, and something stands after it
  abbrev pub Runs : Piece → Walk (Unit {0}) → Type 0
  Runs g k = (p q : ℕ) → Made code g p q → 0 < p → q < length code → (b : ℕ) (w : State) (cs : List ℤ) → Rel v w cs → Sim v code room q (λ u. Rel v) (run code room b (at p w cs)) b (k b w)

  -- the value that a piece pushes goes to a variable
  abbrev store_at : Option Row → ℤ → Walk (Unit {0})
  store_at f z b w = step (tt {0}) (record { top = w.top - 1; vars = set w.vars (place_in f) z; out = w.out; input = w.input; lines = w.lines }) b w

  storing_runs : (g : Piece) (k : Walk ℤ) → Pushes code room v few rs sound g k → (f : Option Row) → SoundFound (links + v) f → Runs (storing (main rs) g f) (k >>= λ z. store_at f z)
  storing_runs g k pushes none s p q h = absurd (made_no _ h)
  storing_runs g k pushes (some r) s p q h = by r.kind s h
    where
      by : (d : Kind) → SoundBy (links + v) r d → Made code (if_var d (g ⨾ reach STO (main rs) r r.addr)) p q → 0 < p → q < length code
          → (b : ℕ) (w : State) (cs : List ℤ) → Rel v w cs → Sim v code room q (λ u. Rel v) (run code room b (at p w cs)) b (then (λ z. store_at (some r) z) (k b w))
      by const s h lp lq b w cs rel = absurd (made_no _ h)
      by var s h lp lq b w cs rel =
          let (t, h₁, h₂) = made_seq h in
          let (i, e) = made_reach rs STO r t q s.0 h₂ in
          rw e (bind _ (pushes p t h₁ b w cs rel) λ z b₁ w₁ cs₁ l k₁. sto_law i s.1 s.2 few b₁ w cs w₁ cs₁ z rel k₁)
      by procedure s h lp lq b w cs rel = absurd s

  reads_run : (ns : List Name) → Runs (reads_code (main rs) ns) (walk_reads rs room ns)
  unfolding reads_code walk_reads store
  reads_run [] p q h lp lq b w cs rel = let t : b ≤ b = omega arith in rw (← (made_nothing h)) (came cs rel t refl)
  reads_run (n ∷ ns) p q h lp lq b w cs rel =
      let (r, h₁, h₂) = made_seq h in
      let (o, m) = made_order h₂ in
      let (o₁, m₁) = made_order h₁ in
      bind _
      (storing_runs (emit_oper read) (read_line room) (λ p q h b w cs rel. let (i, e) = made_emit h in rw e (read_law i b w cs rel)) (find rs n.text main_scope) (sound n.text) p r h₁ lp (omega arith) b w cs rel)
      λ u b₁ w₁ cs₁ l k₁. reads_run ns r q h₂ (omega arith) lq b₁ w₁ cs₁ k₁

  writes_run : (es : List Exp) → Runs (writes_code (main rs) es) (walk_writes rs room es)
  unfolding writes_code walk_writes
  writes_run [] p q h lp lq b w cs rel = let (i, e) = made_emit h in rw e (newline_law i b w cs rel)
  writes_run (e ∷ es) p q h lp lq b w cs rel =
      let (r, h₁, h₂) = made_seq h in
      let (t, h₃, h₄) = made_seq h₂ in
      let (i, x) = made_emit h₃ in
      let (o₁, m₁) = made_order h₁ in
      bind _ (exp_pushes code room v few rs sound e p r h₁ b w cs rel) λ z b₁ w₁ cs₁ l k₁.
      bind _ (write_law i b₁ w cs w₁ cs₁ z k₁) λ u b₂ w₂ cs₂ l₂ k₂.
      writes_run es (suc r) q (rw x at h₄) (omega arith) lq b₂ w₂ cs₂ k₂

  nothing_runs : Runs nothing (pure tt)
  nothing_runs p q h lp lq b w cs rel = let t : b ≤ b = omega arith in rw (← (made_nothing h)) (came cs rel t refl)

  -- a condition and two pieces
  choice_runs : (c : Cond) (g g' : Piece) (k k' : Walk (Unit {0})) → Runs g k → Runs g' k'
      → Runs (cond_code (main rs) c ⨾ jump_over JPC 1 g ⨾ jump_over JMP 0 g') (walk_cond rs c >>= λ z. tick >> whether (eq_z z (pos 0)) k' (k >> tick))
  choice_runs c g g' k k' runs runs' p q h lp lq b w cs rel =
      let (r, h₁, h₂) = made_seq h in
      let (t, h₃, h₄) = made_seq h₂ in
      let (i, hg) = made_jump JPC 1 h₃ in
      let (j, hg') = made_jump JMP 0 h₄ in
      let (o₁, m₁) = made_order h₁ in
      let (o₂, m₂) = made_order hg in
      let (o₃, m₃) = made_order hg' in
      bind _ (cond_pushes code room v few rs sound c p r h₁ b w cs rel) λ z b₁ w₁ cs₁ l k₁. go r t (rw add-one at i) (rw add-zero at j) hg hg' (omega arith) o₂ o₃ z b₁ w₁ cs₁ k₁ (eq_z z (pos 0)) refl
    where
      go : (r t : ℕ) → At code r (ins JPC 0 (pos (suc t))) → At code t (ins JMP 0 (pos q)) → Made code g (suc r) t → Made code g' (suc t) q → 0 < r → suc r ≤ t → suc t ≤ q
          → (z : ℤ) (b₁ : ℕ) (w₁ : State) (cs₁ : List ℤ) → Pushed v w cs z w₁ cs₁ → (y : Bool) → eq_z z (pos 0) ≡ y
          → Sim v code room q (λ u. Rel v) (run code room b₁ (at r w₁ cs₁)) b₁ (then (λ u. whether y k' (k >> tick)) (tick b₁ w₁))
      go r t i j hg hg' o₁ o₂ o₃ z b₁ w₁ cs₁ k₁ true e =
          ticks k' r w₁ cs₁ k₁.rel.low (jpc_out room i (omega arith) (omega arith) w cs w₁ cs₁ z k₁ e) b₁
          λ b₂ l. runs' (suc t) q hg' (omega arith) lq b₂ w₁ cs₁ k₁.rel
      go r t i j hg hg' o₁ o₂ o₃ z b₁ w₁ cs₁ k₁ false e =
          ticks (k >> tick) r w₁ cs₁ k₁.rel.low (jpc_on room i w cs w₁ cs₁ z k₁ e) b₁
          λ b₂ l. bind _ (runs (suc r) t hg (omega arith) (omega arith) b₂ w₁ cs₁ k₁.rel) λ u b₃ w₃ cs₃ l₃ k₃.
          tick_law t w₃ cs₃ (jmp_step room j (omega arith) lq w₃ cs₃) k₃ b₃

  -- a condition and a piece, again and again: n is above the budget
  module _ (c : Cond) (g : Piece) (k : Walk (Unit {0})) (runs : Runs g k) (p r t : ℕ) (hc : Made code (cond_code (main rs) c) p r) (i : At code r (ins JPC 0 (pos (suc t)))) (hg : Made code g (suc r) t) (j : At code t (ins JMP 0 (pos p)))
      (first : 0 < p) (order : (p ≤ r) × (suc r ≤ t)) (last : suc t < length code) where
    laps : (n b : ℕ) (w : State) (cs : List ℤ) → b < n → Rel v w cs → Sim v code room (suc t) (λ u. Rel v) (run code room b (at p w cs)) b (loop n (walk_cond rs c) k b w)
    unfolding loop
    laps zero b w cs l rel = absurd (omega arith)
    laps (suc n) b w cs l rel =
        bind _ (cond_pushes code room v few rs sound c p r hc b w cs rel) λ z b₁ w₁ cs₁ l₁ k₁. go (λ b w cs l rel. laps n b w cs l rel) z b₁ w₁ cs₁ (omega arith) k₁ (eq_z z (pos 0)) refl
      where
        go : ((b : ℕ) (w : State) (cs : List ℤ) → b < n → Rel v w cs → Sim v code room (suc t) (λ u. Rel v) (run code room b (at p w cs)) b (loop n (walk_cond rs c) k b w))
            → (z : ℤ) (b₁ : ℕ) (w₁ : State) (cs₁ : List ℤ) → b₁ ≤ n → Pushed v w cs z w₁ cs₁ → (y : Bool) → eq_z z (pos 0) ≡ y
            → Sim v code room (suc t) (λ u. Rel v) (run code room b₁ (at r w₁ cs₁)) b₁ (then (λ u. whether y (pure tt) (k >> tick >> loop n (walk_cond rs c) k)) (tick b₁ w₁))
        go again z b₁ w₁ cs₁ l₁ k₁ true e =
            ticks (pure tt) r w₁ cs₁ k₁.rel.low (jpc_out room i (omega arith) last w cs w₁ cs₁ z k₁ e) b₁
            λ b₂ l. let m : b₂ ≤ b₂ = omega arith in came cs₁ k₁.rel m refl
        go again z b₁ w₁ cs₁ l₁ k₁ false e =
            ticks (k >> tick >> loop n (walk_cond rs c) k) r w₁ cs₁ k₁.rel.low (jpc_on room i w cs w₁ cs₁ z k₁ e) b₁
            λ b₂ l₂. bind _ (runs (suc r) t hg (omega arith) (omega arith) b₂ w₁ cs₁ k₁.rel) λ u b₃ w₃ cs₃ l₃ k₃.
            ticks (loop n (walk_cond rs c) k) t w₃ cs₃ k₃.low (jmp_step room j first (omega arith) w₃ cs₃) b₃ λ b₄ l₄. again b₄ w₃ cs₃ (omega arith) k₃

  while_runs : (c : Cond) (g : Piece) (k : Walk (Unit {0})) → Runs g k → Runs (λ p. (cond_code (main rs) c ⨾ jump_over JPC 1 g ⨾ emit JMP 0 (pos p)) p) (λ b w. loop (suc b) (walk_cond rs c) k b w)
  while_runs c g k runs p q h lp lq b w cs rel =
      let h₀ : Made code (cond_code (main rs) c ⨾ jump_over JPC 1 g ⨾ emit JMP 0 (pos p)) p q = record { pre = h.pre; piece = h.piece; post = h.post; gives = h.gives; stands = h.stands; starts = h.starts; ends = h.ends } in
      let (r, h₁, h₂) = made_seq h₀ in
      let (t, h₃, h₄) = made_seq h₂ in
      let (i, hg) = made_jump JPC 1 h₃ in
      let (j, e) = made_emit h₄ in
      let (o₁, m₁) = made_order h₁ in
      let (o₂, m₂) = made_order hg in
      rw e (laps c g k runs p r t h₁ (rw add-one at i) hg j lp (o₁, o₂) (rw e at lq) (suc b) b w cs (omega arith) rel)

  mutual
    unfolding stmt_code walk_stmt store

    pub stmt_runs : (s : Stmt) → Runs (stmt_code (main rs) s) (walk_stmt rs room s)
    stmt_runs (assign n e) p q h lp lq b w cs rel =
        storing_runs (exp_code (main rs) e) (walk_exp rs e) (exp_pushes code room v few rs sound e) (find rs n.text main_scope) (sound n.text) p q h lp lq b w cs rel
    stmt_runs (if_then c s) p q h lp lq b w cs rel = choice_runs c (stmt_code (main rs) s) nothing (walk_stmt rs room s) (pure tt) (stmt_runs s) nothing_runs p q h lp lq b w cs rel
    stmt_runs (if_else c s e) p q h lp lq b w cs rel = choice_runs c (stmt_code (main rs) s) (stmt_code (main rs) e) (walk_stmt rs room s) (walk_stmt rs room e) (stmt_runs s) (stmt_runs e) p q h lp lq b w cs rel
    stmt_runs (while c s) p q h lp lq b w cs rel = while_runs c (stmt_code (main rs) s) (walk_stmt rs room s) (stmt_runs s) p q h lp lq b w cs rel
    stmt_runs (call n es) p q h lp lq b w cs rel = absurd (let (k, e, l, m) = call_refused v rs sound n es p in let z : ◌≡◌ {A = ℕ} 0 1 = cc in omega arith)
    stmt_runs (body l) p q h lp lq b w cs rel = stmts_run l p q h lp lq b w cs rel
    stmt_runs (read_s ns) p q h lp lq b w cs rel = reads_run ns p q h lp lq b w cs rel
    stmt_runs (write_s es) p q h lp lq b w cs rel = writes_run es p q h lp lq b w cs rel

    pub stmts_run : (l : Stmts) → Runs (stmts_code (main rs) l) (walk_stmts rs room l)
    stmts_run (last s) p q h lp lq b w cs rel = stmt_runs s p q h lp lq b w cs rel
    stmts_run (more s l) p q h lp lq b w cs rel =
        let (r, h₁, h₂) = made_seq h in
        let (o₁, m₁) = made_order h₁ in
        let (o₂, m₂) = made_order h₂ in
        bind _ (stmt_runs s p r h₁ lp (omega arith) b w cs rel) λ u b₁ w₁ cs₁ j k₁. stmts_run l r q h₂ (omega arith) lq b₁ w₁ cs₁ k₁

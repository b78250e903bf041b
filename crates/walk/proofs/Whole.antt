-- Laws of the walk of a block: where its parts stand, its first state, and its end.
use mathlib.Core.Path.{◌≡◌, refl, sym, ap, ◌∙◌}
use mathlib.Core.Bool.{true, false}
use mathlib.Core.List.{List, [], ◌∷◌, ◌++◌}
use Prim.Native.Nat.{ℕ, zero, suc, ◌+◌, ◌≤◌, ◌<◌}
use native.Mathlib.Omega.{arith}
use lib.IntN.{ℤ, pos}
use lib.ListN.{length, get_or, take, drop, replicate, length-replicate, take-append-drop}
use lib.Seq.{take-append-le}
use Rattle.std.proofs.Common.{Result as Answer, Ok, Err}
use Rattle.numbers.specs.declared.refusal.Refusal.{Refusal}
use Rattle.numbers.specs.Limits.{max_variables}
use Rattle.numbers.specs.Stack.{links}
use Rattle.numbers.specs.Lent.{onto}
use Rattle.lexer.specs.Tokens.{Name}
use Rattle.tree.specs.Tree.{Procs, no_procs, proc, Stmt, body, Block}
use Rattle.tree.specs.Layout.{list_kind, procedure_kind, block_kind, no_more, member, node_no, count, enc, Stands}
use Rattle.tree.specs.Nodes.{list_nodes, name_node, consts_node, names_node, procs_node, stmt_node, body_node, block_node}
use Rattle.tree.specs.Named.{Each, NamedStmt}
use Rattle.tree.specs.Reading.{Two, branch_at, first_at, next_at, After}
use Rattle.tree.specs.Heads.{procs_no, procs_head_lem}
use Rattle.tree.specs.Standing.{StmtAt}
use Rattle.symbols.specs.Symbols.{main_scope, Row}
use Rattle.symbols.specs.Table.{rows_in}
use Rattle.symbols.specs.Kept.{rows_length}
use Rattle.walk.specs.declared.expressions.Env.{Env}
use Rattle.walk.specs.declared.progress.Progress.{Progress}
use Rattle.walk.specs.Walk.{State, Result, ◌>>◌, tick, opened, at_top, walk_stmt, walk_stmts, walk_main, walked, begin, declared_rows, walk_block}
use Rattle.walk.specs.Meets.{Rows, rows_of}
use Rattle.walk.specs.Holds.{Holds, HasState, Ends, done, refused, Steps}
use Rattle.walk.specs.Tests.{part_walk}
use Rattle.walk.specs.Trees.{any_procs, start_of, open_walk, main_walk, TreeAt, Walks, finished, halted}
use Rattle.walk.proofs.Steps.{at_top_lem}
use Rattle.walk.proofs.Exps.{then_assoc}
use Rattle.walk.proofs.Ends.{ends_halt, ends_then}
use Rattle.walk.specs.Declaring.{Small, consts_small, vars_small, small_rows}

-- the parts of the block, each after the one before
module _ {tr : List ℕ} (b : Block) (st : Stands tr 0 (enc (block_node b))) where
  pub consts_at : Two tr 4 (consts_node b.consts) (member (names_node b.vars) (member (procs_node b.procs) (member (body_node b.main) no_more)))
  unfolding block_node
  consts_at = first_at tr 0 block_kind 0 (consts_node b.consts) (member (names_node b.vars) (member (procs_node b.procs) (member (body_node b.main) no_more))) st

  module _ {i : ℕ} (f : After tr 4 i) where
    pub names_at : Two tr i (names_node b.vars) (member (procs_node b.procs) (member (body_node b.main) no_more))
    names_at = next_at tr 4 i (consts_node b.consts) (names_node b.vars) (member (procs_node b.procs) (member (body_node b.main) no_more)) f consts_at

    module _ {j : ℕ} (g : After tr i j) where
      pub procs_at : Two tr j (procs_node b.procs) (member (body_node b.main) no_more)
      procs_at = next_at tr i j (names_node b.vars) (procs_node b.procs) (member (body_node b.main) no_more) g names_at

      -- what the first number there says of procedures
      pub procs_some : get_or tr j 0 ≡ node_no procedure_kind → true ≡ any_procs b.procs
      procs_some h = of b.procs (procs_head_lem tr j b.procs procs_at.one).kind
        where
          of : (t : Procs) → get_or tr j 0 ≡ procs_no t → true ≡ any_procs t
          of no_procs k = absurd (omega (arith, h, k))
          of (proc n ar cs vs inner m later) k = refl

      pub procs_none : (get_or tr j 0 ≡ node_no procedure_kind → ⊥) → false ≡ any_procs b.procs
      procs_none h = of b.procs (procs_head_lem tr j b.procs procs_at.one).kind
        where
          of : (t : Procs) → get_or tr j 0 ≡ procs_no t → false ≡ any_procs t
          of no_procs k = refl
          of (proc n ar cs vs inner m later) k = absurd (h k)

      pub main_at : {m : ℕ} → After tr j m → Two tr m (body_node b.main) no_more
      main_at {m} h = next_at tr j m (procs_node b.procs) (body_node b.main) no_more h procs_at

    -- how many variables there are
    pub names_count : get_or tr (i + 2) 0 ≡ length b.vars
    unfolding list_nodes count
    names_count = (branch_at tr i list_kind 0 (list_nodes name_node b.vars) names_at.one).at2 ∙ counted b.vars
      where
        counted : (l : List Name) → count (list_nodes name_node l) ≡ length l
        counted [] = refl
        counted (x ∷ l) = ap suc (counted l)

-- what the block's walk goes by
module _ {s tr xs : List ℕ} {used : ℕ} {b : Block} (a : TreeAt s tr xs used b) where
  small : Each Small (rows_in s xs used) × (used ≡ length a.consts + length b.vars)
  unfolding Each
  small =
      let c = consts_small s 0 links main_scope b.consts [] a.consts a.consts_are a.named.consts tt in
      let (v, n) = vars_small 0 links main_scope b.vars a.consts (rows_in s xs used) a.rows_are c in
      (v, sym (rows_length s xs used) ∙ n)

  pub few : length b.vars ≤ max_variables
  few = omega (arith, small.1, a.sound.linked.most)

  small_in : Each Small (rows_in s xs used)
  small_in = small.0

  declared_is : declared_rows b ≡ rows_in s xs used
  unfolding declared_rows
  declared_is = rw (a.consts_are, a.rows_are)

  pub main_in : {i j m : ℕ} → After tr 4 i → After tr i j → After tr j m → StmtAt s tr m (body b.main)
  unfolding stmt_node NamedStmt
  main_in f g h = record { stands = (main_at b a.stands f g h).one; named = a.named.main }

  block_is : (input : List ℕ) (budget room : ℕ) → walk_block b input budget room ≡ walked (walk_main (rows_in s xs used) room (length b.vars) b.main budget (begin (length b.vars) input))
  unfolding walk_block
  block_is input budget room = ap (λ (rs : List Row). walked (walk_main rs room (length b.vars) b.main budget (begin (length b.vars) input))) declared_is

-- zeros in the first places
zeros_first : (v n : ℕ) (l rest : List ℤ) → v ≤ n → l ≡ replicate n (pos 0) ++ rest → l ≡ replicate v (pos 0) ++ drop v l
zeros_first v n l rest h e = sym (take-append-drop v l) ∙ ap (λ (t : List ℤ). t ++ drop v l) (ap (take v) e ∙ take-append-le v (replicate n (pos 0)) rest (omega (arith, length-replicate n (pos 0), h)) ∙ take_zeros v n h)
  where
    take_zeros : (v n : ℕ) → v ≤ n → take v (replicate n (pos 0)) ≡ replicate v (pos 0)
    take_zeros zero n h = refl
    take_zeros (suc v) zero h = absurd (omega (arith, h))
    take_zeros (suc v) (suc n) h = ap (λ (t : List ℤ). pos 0 ∷ t) (take_zeros v n (omega (arith, h)))

-- the first state
pub first_held : (e : Env) (input : List ℕ) (vars : List ℤ) (out : List ℕ) (budget : ℕ) → e.vars ≤ max_variables → budget < 4294967296 → vars ≡ onto vars (replicate max_variables (pos 0)) → Holds e input vars out vars out (start_of budget) (begin e.vars input)
unfolding begin
first_held e input vars out budget f l z =
    let n : length (replicate e.vars (pos 0)) ≡ e.vars = length-replicate e.vars (pos 0) in
    record {
      top = refl;
      vars_are = zeros_first e.vars max_variables vars _ f z ∙ ap (λ (k : ℕ). replicate e.vars (pos 0) ++ drop k vars) (sym n);
      many = n;
      out_is = refl;
      fits = omega arith;
      written = refl;
      rest = refl;
      lines = refl;
      few = omega (arith, l);
    }

-- the two steps at the start
module _ (v : ℕ) {p : Progress} (z : p.clock.top ≡ 0) {r : Answer (Unit {0}) Refusal} {q : Progress} (x : Steps p (at_top 0) q r) where
  -- the first of them changes nothing
  first_step : {e : Env} {input : List ℕ} {lv : List ℤ} {lo : List ℕ} {vars : List ℤ} {out : List ℕ} {w : State} → Holds e input lv lo vars out p w → Ends e input lv lo vars out p (tick p.clock.left w) q r
  first_step {e} {input} {lv} {lo} {vars} {out} {w} h = rw (at_top_lem w 0 (h.top ∙ z)) at (x e input lv lo vars out w h)

  pub open_stop : {k : Refusal} → r ≡ Err k → (rs : List Row) {e : Env} {input : List ℕ} {lv : List ℤ} {lo : List ℕ} {vars : List ℤ} {out : List ℕ} {w : State} (t : Stmt) → Holds e input lv lo vars out p w → Ends e input lv lo vars out p (main_walk rs (length lo) v t p.clock.left w) q (Err k)
  open_stop y rs {lo = lo} t h = ends_halt refl (ends_halt y (first_step h) (λ u. opened v)) (λ u. part_walk rs (length lo) t)

  module _ {u : Unit {0}} (y : r ≡ Ok u) {s : Answer (Unit {0}) Refusal} {g : Progress} (f : Steps q (at_top (links + v)) g s) where
    both_steps : {e : Env} {input : List ℕ} {lv : List ℤ} {lo : List ℕ} {vars : List ℤ} {out : List ℕ} {w : State} → Holds e input lv lo vars out p w → Ends e input lv lo vars out p (open_walk v p.clock.left w) g s
    both_steps {e} {input} {lv} {lo} {vars} {out} {w} h = ends_then y (first_step h) (λ u. opened v) (λ t held. f e input lv lo vars out t held)

    pub open_halt : {k : Refusal} → s ≡ Err k → (rs : List Row) {e : Env} {input : List ℕ} {lv : List ℤ} {lo : List ℕ} {vars : List ℤ} {out : List ℕ} {w : State} (t : Stmt) → Holds e input lv lo vars out p w → Ends e input lv lo vars out p (main_walk rs (length lo) v t p.clock.left w) g (Err k)
    open_halt w rs {lo = lo} t h = ends_halt w (both_steps h) (λ u. part_walk rs (length lo) t)

    module _ {o : Unit {0}} (w : s ≡ Ok o) where
      pub open_held : {e : Env} {input : List ℕ} {vars : List ℤ} {out : List ℕ} → HasState e input vars out p → HasState e input vars out g
      open_held {e} {input} {vars} {out} h = of (rw w at (both_steps h.holds))
        where
          of : Ends e input h.lv h.lo vars out p (open_walk v p.clock.left h.state) g (Ok o) → HasState e input vars out g
          of (done w i m l) = record { lv = h.lv; lo = h.lo; state = w; holds = m }

      pub open_on : (rs : List Row) {e : Env} {input : List ℕ} {lv : List ℤ} {lo : List ℕ} {vars vars' : List ℤ} {out out' : List ℕ} {w : State} (t : Stmt) {l : Answer (Unit {0}) Refusal} {d : Progress} → Holds e input lv lo vars out p w
          → ((w : State) → Holds e input lv lo vars out g w → Ends e input lv lo vars' out' g (part_walk rs (length lo) t g.clock.left w) d l) → Ends e input lv lo vars' out' p (main_walk rs (length lo) v t p.clock.left w) d l
      open_on rs {lo = lo} t h f = ends_then w (both_steps h) (λ u. part_walk rs (length lo) t) f

-- how the walk ended
ended : {e : Env} {input : List ℕ} {lv : List ℤ} {lo : List ℕ} {vars : List ℤ} {out : List ℕ} {p : Progress} {o : Result (Unit {0})} {r : Answer (Unit {0}) Refusal} {q : Progress} → e.vars ≤ max_variables → Ends e input lv lo vars out p o q r → Walks (walked o) p.clock.left lv lo vars out q r
unfolding walked
ended {e} {input} {lv} {lo} {vars} {out} {p} {o} f (done {u} w i h l) =
    rw i (finished {u = u} (record { number = refl; left = refl; most = l; written = sym h.written; lines = h.lines; out_is = h.out_is; vars_are = h.vars_are; few = omega (arith, h.many, f) }))
ended {e} {input} {lv} {lo} {vars} {out} {p} {o} f (refused {k} w i h l) =
    rw i (halted {k = k} (record { number = refl; left = refl; most = l; written = sym h.written; lines = h.lines; out_is = h.out_is; vars_are = h.vars_are; few = omega (arith, h.many, f) }))

-- the whole
module _ (e : Env) {i : ℕ} (f : After e.tree.now 4 i) (n : e.vars ≡ get_or e.tree.now (i + 2) 0) where
  count_is : {b : Block} → TreeAt e.text.now e.tree.now e.table.now e.used b → e.vars ≡ length b.vars
  count_is {b} a = n ∙ names_count b a.stands f

  pub few_vars : {b : Block} → TreeAt e.text.now e.tree.now e.table.now e.used b → e.vars ≤ max_variables
  few_vars a = omega (arith, count_is a, few a)

  pub rows_here : {b : Block} → TreeAt e.text.now e.tree.now e.table.now e.used b → Rows e
  rows_here a = record { sound = a.sound; seen = a.seen; small = small_rows e.text.now e.table.now e.used (small_in a) }

  main_is : {b : Block} (a : TreeAt e.text.now e.tree.now e.table.now e.used b) (input : List ℕ) (budget : ℕ) (out : List ℕ)
      → walk_block b input budget (length out) ≡ walked (main_walk (rows_of e) (length out) e.vars (body b.main) budget (begin e.vars input))
  unfolding walk_main walk_stmt
  main_is {b} a input budget out =
      block_is a input budget (length out) ∙ rw (sym (count_is a)) (ap walked (then_assoc (tick budget (begin e.vars input)) (λ u. opened e.vars) (λ u. walk_stmts (rows_of e) (length out) b.main >> tick)))

  module _ {input : List ℕ} {budget : ℕ} {vars : List ℤ} {out : List ℕ} (l : budget < 4294967296) (z : vars ≡ onto vars (replicate max_variables (pos 0))) where
    -- the first state
    first : {b : Block} → TreeAt e.text.now e.tree.now e.table.now e.used b → Holds e input vars out vars out (start_of budget) (begin e.vars input)
    first a = first_held e input vars out budget (few_vars a) l z

    pub start_held : {b : Block} → TreeAt e.text.now e.tree.now e.table.now e.used b → HasState e input vars out (start_of budget)
    start_held a = record { lv = vars; lo = out; state = begin e.vars input; holds = first a }

    pub whole_walked : {j m : ℕ} {vars' : List ℤ} {out' : List ℕ} {r : Answer (Unit {0}) Refusal} {q : Progress} → After e.tree.now i j → After e.tree.now j m
        → ((t : Stmt) → StmtAt e.text.now e.tree.now m t → (lv : List ℤ) (lo : List ℕ) (w : State) → Holds e input lv lo vars out (start_of budget) w → Ends e input lv lo vars' out' (start_of budget) (main_walk (rows_of e) (length lo) e.vars t budget w) q r)
        → (b : Block) → TreeAt e.text.now e.tree.now e.table.now e.used b → Walks (walk_block b input budget (length out)) budget vars out vars' out' q r
    whole_walked g h p b a = rw (main_is a input budget out) (ended (few_vars a) (p (body b.main) (main_in a f g h) vars out (begin e.vars input) (first a)))

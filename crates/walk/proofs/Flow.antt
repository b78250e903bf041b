-- Laws of `if` and `while`: their parts in the tree, and how their answers give the answer of the whole.
use mathlib.Core.Path.{◌≡◌, refl, sym, ap, ◌∙◌}
use mathlib.Core.Bool.{Bool, true, false}
use mathlib.Core.List.{List}
use mathlib.Core.Option.{Option, none, some}
use Prim.Native.Nat.{ℕ, zero, suc, ◌+◌, ◌≤◌, ◌<◌}
use native.Mathlib.Omega.{arith}
use lib.IntN.{ℤ, pos}
use lib.ListN.{length, get_or}
use Rattle.std.proofs.Common.{Result as Answer, Ok, Err}
use Rattle.numbers.specs.declared.refusal.Refusal.{Refusal}
use Rattle.numbers.specs.Arithmetic.{eq_z}
use Rattle.tree.specs.Tree.{Cond, Stmt, while}
use Rattle.tree.specs.Layout.{if_kind, while_kind, node_no}
use Rattle.tree.specs.Reading.{After}
use Rattle.tree.specs.Heads.{node_head, StmtIs, is_while, stmt_is}
use Rattle.tree.specs.Standing.{CondAt, HasCond, StmtAt, HasStmt, Further}
use Rattle.tree.specs.Parts.{guard_cond, guard_stmt, guard_further, while_guard, if_of, IfAt, if_at}
use Rattle.symbols.specs.Symbols.{Row}
use Rattle.walk.specs.declared.expressions.Env.{Env}
use Rattle.walk.specs.declared.progress.Progress.{Progress}
use Rattle.walk.specs.Walk.{State, Walk, then, ◌>>◌, pure, whether, tick, tested, at_top, loop, walk_cond, walk_stmt}
use Rattle.walk.specs.Holds.{Holds, HasState, Ends, done, Steps}
use Rattle.walk.specs.Tests.{test_walk, part_walk, Tests}
use Rattle.walk.proofs.Steps.{at_top_lem}
use Rattle.walk.proofs.Exps.{then_assoc}
use Rattle.walk.proofs.Ends.{ends_as, ends_from, ends_halt, ends_then, ends_less}
use Rattle.walk.proofs.Testing.{tested_then, Led, leads, tests_stop, tests_passed, on_passed, on_failed}

-- the step after a part
module _ (rs : List Row) (s tr : List ℕ) (i : ℕ) {e : Env} {input : List ℕ} {vars vars' : List ℤ} {out out' : List ℕ} {p : Progress} {r : Answer (Unit {0}) Refusal} {q : Progress}
    (x : (t : Stmt) → StmtAt s tr i t → (lv : List ℤ) (lo : List ℕ) (w : State) → Holds e input lv lo vars out p w → Ends e input lv lo vars' out' p (walk_stmt rs (length lo) t p.clock.left w) q r) where
  pub part_halt : {k : Refusal} → r ≡ Err k → (t : Stmt) → StmtAt s tr i t → (lv : List ℤ) (lo : List ℕ) (w : State) → Holds e input lv lo vars out p w → Ends e input lv lo vars' out' p (part_walk rs (length lo) t p.clock.left w) q (Err k)
  part_halt y t a lv lo w h = ends_halt y (x t a lv lo w h) (λ u. tick)

  pub part_tick : {u : Unit {0}} {v : Answer (Unit {0}) Refusal} {g : Progress} → r ≡ Ok u → Steps q (at_top q.clock.top) g v
      → (t : Stmt) → StmtAt s tr i t → (lv : List ℤ) (lo : List ℕ) (w : State) → Holds e input lv lo vars out p w → Ends e input lv lo vars' out' p (part_walk rs (length lo) t p.clock.left w) g v
  part_tick y f t a lv lo w h = ends_then y (x t a lv lo w h) (λ c. tick) (λ v held. rw (at_top_lem v q.clock.top held.top) at (f e input lv lo vars' out' v held))

-- an `if`: what is walked for its `else`, if it has one
abbrev else_walk : List Row → ℕ → Option Stmt → Walk (Unit {0})
else_walk rs room none = pure tt
else_walk rs room (some e) = walk_stmt rs room e

if_walk : (rs : List Row) (room : ℕ) (c : Cond) (t : Stmt) (o : Option Stmt) (b : ℕ) (w : State) → walk_stmt rs room (if_of c t o) b w ≡ then (λ z. whether (eq_z z (pos 0)) (else_walk rs room o) (part_walk rs room t)) (test_walk rs c b w)
unfolding walk_stmt
if_walk rs room c t none b w = tested_then (walk_cond rs c b w) (λ z. whether (eq_z z (pos 0)) (pure tt) (part_walk rs room t))
if_walk rs room c t (some e) b w = tested_then (walk_cond rs c b w) (λ z. whether (eq_z z (pos 0)) (walk_stmt rs room e) (part_walk rs room t))

walk_is : (rs : List Row) {s tr : List ℕ} {i : ℕ} (t : Stmt) (v : IfAt s tr i t) (room b : ℕ) (w : State) → walk_stmt rs room t b w ≡ then (λ z. whether (eq_z z (pos 0)) (else_walk rs room v.other) (part_walk rs room v.stmt)) (test_walk rs v.cond b w)
walk_is rs t v room b w = ap (λ (u : Stmt). walk_stmt rs room u b w) v.is ∙ if_walk rs room v.cond v.stmt v.other b w

-- what stands there
module _ {s tr : List ℕ} {i : ℕ} (k : get_or tr i 0 ≡ node_no if_kind) (h : HasStmt s tr i) where
  found : IfAt s tr i h.stmt
  found = if_at k h.stmt h.at

  pub if_cond : HasCond s tr (i + 4)
  if_cond = record { cond = found.cond; at = guard_cond found.guard }

  pub if_inner : {j : ℕ} → After tr (i + 4) j → Further s tr i j
  if_inner f = guard_further found.guard f

-- how an `if` ends
module _ (rs : List Row) (s tr : List ℕ) (i : ℕ) (e : Env) (input : List ℕ) (vars : List ℤ) (out : List ℕ) (p : Progress) {r : Answer Bool Refusal} {q : Progress} (k : get_or tr i 0 ≡ node_no if_kind)
    (x : (t : Cond) → CondAt s tr (i + 4) t → (input : List ℕ) (lv : List ℤ) (lo out : List ℕ) (w : State) → Holds e input lv lo vars out p w → Tests e input lv lo vars out p (test_walk rs t p.clock.left w) q r) where
  abbrev Meet : List ℤ → List ℕ → Answer (Unit {0}) Refusal → Progress → Type 0
  Meet vars' out' u g = (t : Stmt) → StmtAt s tr i t → (lv : List ℤ) (lo : List ℕ) (w : State) → Holds e input lv lo vars out p w → Ends e input lv lo vars' out' p (walk_stmt rs (length lo) t p.clock.left w) g u

  pub if_stop : {m : Refusal} → r ≡ Err m → Meet vars out (Err m) q
  if_stop y t a lv lo w h =
      let v = if_at k t a in
      ends_as (sym (walk_is rs t v (length lo) p.clock.left w)) (tests_stop (x v.cond (guard_cond v.guard) input lv lo out w h) y (λ z. whether (eq_z z (pos 0)) (else_walk rs (length lo) v.other) (part_walk rs (length lo) v.stmt)))

  pub if_passed : {j : ℕ} {vars' : List ℤ} {out' : List ℕ} {u : Answer (Unit {0}) Refusal} {g : Progress} → r ≡ Ok true → After tr (i + 4) j
      → ((t : Stmt) → StmtAt s tr j t → (lv : List ℤ) (lo : List ℕ) (w : State) → Holds e input lv lo vars out q w → Ends e input lv lo vars' out' q (part_walk rs (length lo) t q.clock.left w) g u) → Meet vars' out' u g
  if_passed y f g t a lv lo w h =
      let v = if_at k t a in
      ends_as (sym (walk_is rs t v (length lo) p.clock.left w)) (on_passed (x v.cond (guard_cond v.guard) input lv lo out w h) (else_walk rs (length lo) v.other) (part_walk rs (length lo) v.stmt) y (λ u held. g v.stmt (guard_stmt v.guard f) lv lo u held))

  pub if_short : {u : Unit {0}} → r ≡ Ok false → get_or tr (i + 2) 0 < 3 → Meet vars out (Ok u) q
  if_short y l t a lv lo w h =
      let v = if_at k t a in
      ends_as (sym (walk_is rs t v (length lo) p.clock.left w)) (on_failed (x v.cond (guard_cond v.guard) input lv lo out w h) (else_walk rs (length lo) v.other) (part_walk rs (length lo) v.stmt) y
      (λ u held. ends_as (ap (λ (x : Option Stmt). else_walk rs (length lo) x q.clock.left u) (sym (v.short l))) (done u refl held (omega arith))))

  pub if_failed : {j j₂ : ℕ} {vars' : List ℤ} {out' : List ℕ} {u : Answer (Unit {0}) Refusal} {g : Progress} → r ≡ Ok false → 3 ≤ get_or tr (i + 2) 0 → After tr (i + 4) j → After tr j j₂
      → ((t : Stmt) → StmtAt s tr j₂ t → (lv : List ℤ) (lo : List ℕ) (w : State) → Holds e input lv lo vars out q w → Ends e input lv lo vars' out' q (walk_stmt rs (length lo) t q.clock.left w) g u) → Meet vars' out' u g
  if_failed {j} {j₂} y l f f₂ g t a lv lo w h =
      let v = if_at k t a in
      let o = v.long l j j₂ f f₂ in
      ends_as (sym (walk_is rs t v (length lo) p.clock.left w)) (on_failed (x v.cond (guard_cond v.guard) input lv lo out w h) (else_walk rs (length lo) v.other) (part_walk rs (length lo) v.stmt) y
      (λ u held. ends_as (ap (λ (x : Option Stmt). else_walk rs (length lo) x q.clock.left u) (sym o.1)) (g o.0 o.2 lv lo u held)))

-- the parts of a `while`
module _ {s tr : List ℕ} {i : ℕ} where
  the_while : get_or tr i 0 ≡ node_no while_kind → HasStmt s tr i → (c : Cond) × (t : Stmt) × StmtAt s tr i (while c t)
  the_while k h = of (stmt_is (node_head while_kind) tr i h.stmt k h.at.stands) h.at
    where
      of : {t : Stmt} → StmtIs (node_head while_kind) t → StmtAt s tr i t → (c : Cond) × (t : Stmt) × StmtAt s tr i (while c t)
      of (is_while c t) a = (c, t, a)

  pub while_cond : get_or tr i 0 ≡ node_no while_kind → HasStmt s tr i → HasCond s tr (i + 4)
  while_cond k h = let w = the_while k h in record { cond = w.0; at = guard_cond (while_guard w.2) }

  pub while_inner : {j : ℕ} → get_or tr i 0 ≡ node_no while_kind → HasStmt s tr i → After tr (i + 4) j → Further s tr i j
  while_inner k h f = let w = the_while k h in guard_further (while_guard w.2) f

-- where the laps stand for one state at their start
pub record Lap (rs : List Row) (c : Cond) (t : Stmt) (e : Env) (input : List ℕ) (lv : List ℤ) (lo : List ℕ) (p : Progress) (w : State) (vars : List ℤ) (out : List ℕ) (q : Progress) : Type 0 where
  pub state : State
  pub holds : Holds e input lv lo vars out q state
  pub fuel : ℕ
  pub enough : q.clock.left < fuel
  pub is : walk_stmt rs (length lo) (while c t) p.clock.left w ≡ loop fuel (walk_cond rs c) (walk_stmt rs (length lo) t) q.clock.left state
  pub less : q.clock.left ≤ p.clock.left

abbrev pub Laps : List Row → List ℕ → List ℕ → ℕ → Env → List ℕ → List ℤ → List ℕ → Progress → List ℤ → List ℕ → Progress → Type 0
Laps rs s tr i e input vars₀ out₀ p vars out q = (c : Cond) (t : Stmt) → StmtAt s tr i (while c t) → (lv : List ℤ) (lo : List ℕ) (w : State) → Holds e input lv lo vars₀ out₀ p w → Lap rs c t e input lv lo p w vars out q

-- the statement of a lap, its step back, and at most n laps after it
abbrev lap_walk : List Row → ℕ → Cond → Stmt → ℕ → Walk (Unit {0})
lap_walk rs room c t n = walk_stmt rs room t >> tick >> loop n (walk_cond rs c) (walk_stmt rs room t)

-- one lap more, by its parts
lap_is : (n : ℕ) (c : Walk ℤ) (s : Walk (Unit {0})) (b : ℕ) (w : State) → loop (suc n) c s b w ≡ then (λ z. whether (eq_z z (pos 0)) (pure tt) (s >> tick >> loop n c s)) (then (λ z. tested >> pure z) (c b w))
unfolding loop
lap_is n c s b w = tested_then (c b w) (λ z. whether (eq_z z (pos 0)) (pure tt) (s >> tick >> loop n c s))

lap_next : {rs : List Row} {c : Cond} {t : Stmt} {e : Env} {input : List ℕ} {lv : List ℤ} {lo : List ℕ} {p : Progress} {w : State} {vars vars' : List ℤ} {out out' : List ℕ} {q d g : Progress} {u : Unit {0}} (o : Lap rs c t e input lv lo p w vars out q)
    (b : Led e input lv lo vars out q (test_walk rs c q.clock.left o.state) d false) → Ends e input lv lo vars' out' d (part_walk rs (length lo) t d.clock.left b.state) g (Ok u) → Lap rs c t e input lv lo p w vars' out' g
lap_next {rs} {c} {t} {e} {input} {lv} {lo} {p} {w} {vars} {vars'} {out} {out'} {q} {d} {g} {u} o b (done v x held less) = of o.fuel o.enough o.is
  where
    of : (n : ℕ) → q.clock.left < n → walk_stmt rs (length lo) (while c t) p.clock.left w ≡ loop n (walk_cond rs c) (walk_stmt rs (length lo) t) q.clock.left o.state → Lap rs c t e input lv lo p w vars' out' g
    of zero m y = absurd (omega (arith, m))
    of (suc n) m y = record {
      state = v;
      holds = held;
      fuel = n;
      enough = omega (arith, m, b.less, less);
      is =
          y ∙ lap_is n (walk_cond rs c) (walk_stmt rs (length lo) t) q.clock.left o.state ∙ leads (pure tt) (lap_walk rs (length lo) c t n) b
          ∙ then_assoc (walk_stmt rs (length lo) t d.clock.left b.state) (λ u. tick) (λ u. loop n (walk_cond rs c) (walk_stmt rs (length lo) t)) ∙ ap (then (λ u. loop n (walk_cond rs c) (walk_stmt rs (length lo) t))) x;
      less = omega (arith, o.less, b.less, less);
    }

module _ (rs : List Row) (s tr : List ℕ) (i : ℕ) (e : Env) (input : List ℕ) (vars₀ : List ℤ) (out₀ : List ℕ) (p : Progress) where
  pub laps_start : Laps rs s tr i e input vars₀ out₀ p vars₀ out₀ p
  unfolding walk_stmt
  laps_start c t a lv lo w h = record { state = w; holds = h; fuel = suc p.clock.left; enough = omega arith; is = refl; less = omega arith }

  abbrev Whole : List ℤ → List ℕ → Answer (Unit {0}) Refusal → Progress → Type 0
  Whole vars' out' r g = (t : Stmt) → StmtAt s tr i t → (lv : List ℤ) (lo : List ℕ) (w : State) → Holds e input lv lo vars₀ out₀ p w → Ends e input lv lo vars' out' p (walk_stmt rs (length lo) t p.clock.left w) g r

  by_while : {vars' : List ℤ} {out' : List ℕ} {r : Answer (Unit {0}) Refusal} {g : Progress} → get_or tr i 0 ≡ node_no while_kind
      → ((c : Cond) (t : Stmt) → StmtAt s tr i (while c t) → (lv : List ℤ) (lo : List ℕ) (w : State) → Holds e input lv lo vars₀ out₀ p w → Ends e input lv lo vars' out' p (walk_stmt rs (length lo) (while c t) p.clock.left w) g r) → Whole vars' out' r g
  by_while {vars'} {out'} {r} {g} k f t a lv lo w h = of (stmt_is (node_head while_kind) tr i t k a.stands) a
    where
      of : {u : Stmt} → StmtIs (node_head while_kind) u → StmtAt s tr i u → Ends e input lv lo vars' out' p (walk_stmt rs (length lo) u p.clock.left w) g r
      of (is_while c u) b = f c u b lv lo w h

  module _ (vars : List ℤ) (out : List ℕ) (q : Progress) (l : Laps rs s tr i e input vars₀ out₀ p vars out q) where
    -- a state is held all along
    pub laps_held : get_or tr i 0 ≡ node_no while_kind → HasStmt s tr i → HasState e input vars₀ out₀ p → HasState e input vars out q
    laps_held k x h =
        let t = the_while k x in
        let g = l t.0 t.1 t.2 h.lv h.lo h.state h.holds in
        record { lv = h.lv; lo = h.lo; state = g.state; holds = g.holds }

    module _ {r : Answer Bool Refusal} {d : Progress} (x : (t : Cond) → CondAt s tr (i + 4) t → (input : List ℕ) (lv : List ℤ) (lo out : List ℕ) (w : State) → Holds e input lv lo vars out q w → Tests e input lv lo vars out q (test_walk rs t q.clock.left w) d r) where
      -- one lap more, or the end
      on : {c : Cond} {t : Stmt} (lv : List ℤ) (lo : List ℕ) {vars' : List ℤ} {out' : List ℕ} {u : Answer (Unit {0}) Refusal} {b : Progress} (w : State) (g : Lap rs c t e input lv lo p w vars out q)
          → ((n : ℕ) → Ends e input lv lo vars' out' q (then (λ z. whether (eq_z z (pos 0)) (pure tt) (lap_walk rs (length lo) c t n)) (test_walk rs c q.clock.left g.state)) b u)
          → Ends e input lv lo vars' out' p (walk_stmt rs (length lo) (while c t) p.clock.left w) b u
      on {c} {t} lv lo {vars'} {out'} {u} {b} w g f = of g.fuel g.enough g.is
        where
          of : (n : ℕ) → q.clock.left < n → walk_stmt rs (length lo) (while c t) p.clock.left w ≡ loop n (walk_cond rs c) (walk_stmt rs (length lo) t) q.clock.left g.state → Ends e input lv lo vars' out' p (walk_stmt rs (length lo) (while c t) p.clock.left w) b u
          of zero h y = absurd (omega (arith, h))
          of (suc n) h y = ends_as (sym (y ∙ lap_is n (walk_cond rs c) (walk_stmt rs (length lo) t) q.clock.left g.state)) (ends_from p g.less (f n))

      pub laps_stop : {m : Refusal} → get_or tr i 0 ≡ node_no while_kind → r ≡ Err m → Whole vars out (Err m) d
      laps_stop k y = by_while k (λ c t a lv lo w h.
          let g = l c t a lv lo w h in
          on lv lo w g (λ n. tests_stop (x c (guard_cond (while_guard a)) input lv lo out g.state g.holds) y (λ z. whether (eq_z z (pos 0)) (pure tt) (lap_walk rs (length lo) c t n))))

      pub laps_done : {u : Unit {0}} → get_or tr i 0 ≡ node_no while_kind → r ≡ Ok false → Whole vars out (Ok u) d
      laps_done k y = by_while k (λ c t a lv lo w h.
          let g = l c t a lv lo w h in
          on lv lo w g (λ n. on_failed (x c (guard_cond (while_guard a)) input lv lo out g.state g.holds) (pure tt) (lap_walk rs (length lo) c t n) y (λ v held. done v refl held (omega arith))))

      module _ (y : r ≡ Ok true) {j : ℕ} (f : After tr (i + 4) j) (vars' : List ℤ) (out' : List ℕ) {u : Answer (Unit {0}) Refusal} {g : Progress}
          (part : (t : Stmt) → StmtAt s tr j t → (lv : List ℤ) (lo : List ℕ) (w : State) → Holds e input lv lo vars out d w → Ends e input lv lo vars' out' d (part_walk rs (length lo) t d.clock.left w) g u) where
        pub laps_halt : {m : Refusal} → get_or tr i 0 ≡ node_no while_kind → u ≡ Err m → Whole vars' out' (Err m) g
        laps_halt k z = by_while k (λ c t a lv lo w h.
            let g = l c t a lv lo w h in
            on lv lo w g (λ n. on_passed (x c (guard_cond (while_guard a)) input lv lo out g.state g.holds) (pure tt) (lap_walk rs (length lo) c t n) y
            (λ v held. ends_as (sym (then_assoc (walk_stmt rs (length lo) t d.clock.left v) (λ o. tick) (λ o. loop n (walk_cond rs c) (walk_stmt rs (length lo) t)))) (ends_halt z (part t (guard_stmt (while_guard a) f) lv lo v held) (λ o. loop n (walk_cond rs c) (walk_stmt rs (length lo) t))))))

        pub laps_more : {v : Unit {0}} → u ≡ Ok v → Laps rs s tr i e input vars₀ out₀ p vars' out' g
        laps_more z c t a lv lo w h =
            let o = l c t a lv lo w h in
            let b = tests_passed (x c (guard_cond (while_guard a)) input lv lo out o.state o.holds) y in
            lap_next o b (rw z at (part t (guard_stmt (while_guard a) f) lv lo b.state b.holds))

        pub laps_less : {v : Unit {0}} → get_or tr i 0 ≡ node_no while_kind → HasStmt s tr i → HasState e input vars₀ out₀ p → u ≡ Ok v → g.clock.left < q.clock.left
        laps_less k here h z =
            let t = the_while k here in
            let o = l t.0 t.1 t.2 h.lv h.lo h.state h.holds in
            let b = tests_passed (x t.0 (guard_cond (while_guard t.2)) input h.lv h.lo out o.state o.holds) y in
            let m = ends_less (rw z at (part t.1 (guard_stmt (while_guard t.2) f) h.lv h.lo b.state b.holds)) in
            omega (arith, b.less, m)

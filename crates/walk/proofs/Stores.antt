-- Laws of assignments.
use mathlib.Core.Path.{◌≡◌, sym, ap, ◌∙◌}
use mathlib.Core.List.{List}
use Prim.Native.Nat.{ℕ, zero, suc, ◌+◌, ◌-◌}
use native.Mathlib.Omega.{arith as linear}
use lib.IntN.{ℤ}
use lib.ListN.{length, get_or, set, length-set}
use Rattle.std.proofs.Common.{Result as Answer, Ok, Err}
use Rattle.numbers.specs.declared.refusal.Refusal.{Refusal}
use Rattle.numbers.specs.Refusals.{number_of}
use Rattle.numbers.specs.Lent.{onto}
use Rattle.lexer.specs.Tokens.{Name}
use Rattle.tree.specs.Tree.{Exp, Stmt, assign}
use Rattle.tree.specs.Layout.{assign_kind, no_more, member, node_no}
use Rattle.tree.specs.Nodes.{name_node, exp_node, stmt_node}
use Rattle.tree.specs.Named.{NamedStmt}
use Rattle.tree.specs.Reading.{word_at, first_at}
use Rattle.tree.specs.Heads.{node_head, StmtIs, is_assign}
use Rattle.tree.specs.Standing.{NameAt, HasName, ExpAt, StmtAt, HasStmt}
use Rattle.tree.specs.Parts.{stmt_by, assigned}
use Rattle.symbols.specs.Symbols.{main_scope, Row, find}
use Rattle.symbols.specs.Table.{part}
use Rattle.symbols.specs.ByNumbers.{name_is}
use Rattle.walk.specs.declared.expressions.Env.{Env}
use Rattle.walk.specs.declared.expressions.Clock.{Clock}
use Rattle.walk.specs.declared.progress.Progress.{Progress}
use Rattle.walk.specs.Walk.{State, Result, ok, stop, step, at_top, stored, place_in, store, walk_exp, walk_stmt}
use Rattle.walk.specs.Meets.{Shows, Gives}
use Rattle.walk.specs.Holds.{with_clock, Holds, Ends, done, refused, Steps}
use Rattle.walk.proofs.Ends.{shown, exp_stop, exp_then}

-- a step that was made changes the state as it says, and one to another state is made too
pub made : (v v' : State) (b : ℕ) (w : State) (n : ℕ) (u : State) → ◌≡◌ {A = Result (Unit {0})} (step tt v b w) (ok tt n u) → (v ≡ u) × ◌≡◌ {A = Result (Unit {0})} (step tt v' b w) (ok tt n v')
made v v' zero w n u x = let f : ◌≡◌ {A = ℕ} 0 1 = cc in absurd (omega linear)
made v v' (suc b) w n u x = let f : b ≡ n = cc in (cc, rw f)

-- and one that was not made, to any
not_made : (v v' : State) (b : ℕ) (w : State) (k n : ℕ) (u : State) → ◌≡◌ {A = Result (Unit {0})} (step tt v b w) (stop k n u) → ◌≡◌ {A = Result (Unit {0})} (step tt v' b w) (stop k n u)
not_made v v' zero w k n u x = x
not_made v v' (suc b) w k n u x = let f : ◌≡◌ {A = ℕ} 0 1 = cc in absurd (omega linear)

module _ (rs : List Row) (s tr : List ℕ) (i : ℕ) (z : ℤ) (n : Name) (a : NameAt s tr i n) {e : Env} {input : List ℕ} {lv : List ℤ} {lo : List ℕ} {vars : List ℤ} {out : List ℕ} {p : Progress} {w : State} (h : Holds e input lv lo vars out p w)
    {r : Answer (Unit {0}) Refusal} {q : Progress} (f : Steps p (at_top (p.clock.top - 1)) q r) where
  -- 16: nothing is stored
  pub store_halt : {k : Refusal} → r ≡ Err k → Ends e input lv lo vars out p (store rs n z p.clock.left w) q (Err k)
  unfolding store
  store_halt {k} x = of (rw x at (f e input lv lo vars out w h))
    where
      of : Ends e input lv lo vars out p (step tt (at_top (p.clock.top - 1) w) p.clock.left w) q (Err k) → Ends e input lv lo vars out p (step tt (stored (place_in (find rs n.text main_scope)) z w) p.clock.left w) q (Err k)
      of (refused v i m l) = refused {k = k} v (not_made (at_top (p.clock.top - 1) w) (stored (place_in (find rs n.text main_scope)) z w) p.clock.left w (number_of k) q.clock.left v i) m l

  pub store_on : {u o : Unit {0}} (y : ℤ) (k : ℕ) (vars' : List ℤ) → r ≡ Ok o → y ≡ z → k ≡ place_in (find rs (part s (get_or tr (i + 2) 0) (get_or tr (i + 3) 0)) main_scope)
      → ((lent vs : List ℤ) → vars ≡ onto lent vs → length vs ≡ e.vars → vars' ≡ onto lent (set vs k y)) → Ends e input lv lo vars' out p (store rs n z p.clock.left w) q (Ok u)
  unfolding store
  store_on {u} {o} y k vars' x c g v = of (rw x at (f e input lv lo vars out w h))
    where
      k_is : k ≡ place_in (find rs n.text main_scope)
      k_is =
          let m = word_at tr i 0 n.at (length n.text) a.stands in
          g ∙ ap (λ (t : List ℕ). place_in (find rs t main_scope)) (name_is {s = s} {n = n} (get_or tr (i + 2) 0) (get_or tr (i + 3) 0) m.at2 m.at3 a.named)

      held : Holds e input lv lo vars out q (at_top (p.clock.top - 1) w) → Holds e input lv lo vars' out q (stored (place_in (find rs n.text main_scope)) z w)
      held m = record {
        top = ap (λ (t : ℕ). t - 1) h.top ∙ m.top;
        vars_are = v lv w.vars h.vars_are h.many ∙ rw (c, k_is);
        many = length-set w.vars (place_in (find rs n.text main_scope)) z ∙ h.many;
        out_is = h.out_is;
        fits = h.fits;
        written = m.written;
        rest = m.rest;
        lines = m.lines;
        few = m.few;
      }

      of : Ends e input lv lo vars out p (step tt (at_top (p.clock.top - 1) w) p.clock.left w) q (Ok o) → Ends e input lv lo vars' out p (step tt (stored (place_in (find rs n.text main_scope)) z w) p.clock.left w) q (Ok u)
      of (done t i m l) =
          let j = made (at_top (p.clock.top - 1) w) (stored (place_in (find rs n.text main_scope)) z w) p.clock.left w q.clock.left t i in
          done {u = u} (stored (place_in (find rs n.text main_scope)) z w) j.1 (held (rw (sym j.0) at m)) l

-- the parts of an assignment
module _ {s tr : List ℕ} {i : ℕ} where
  assign_name : {n : Name} {x : Exp} → StmtAt s tr i (assign n x) → NameAt s tr (i + 4) n
  unfolding stmt_node NamedStmt
  assign_name {n} {x} a = record { stands = (first_at tr i assign_kind 0 (name_node n) (member (exp_node 0 x) no_more) a.stands).one; named = a.named.0 }

  pub has_target : get_or tr i 0 ≡ node_no assign_kind → HasStmt s tr i → HasName s tr (i + 4)
  has_target k h = of (stmt_by (node_head assign_kind) k h.at) h.at
    where
      of : {t : Stmt} → StmtIs (node_head assign_kind) t → StmtAt s tr i t → HasName s tr (i + 4)
      of (is_assign n x) a = record { name = n; at = assign_name a }

module _ (rs : List Row) (s tr : List ℕ) (i : ℕ) (e : Env) (vars : List ℤ) (p : Progress) (k : get_or tr i 0 ≡ node_no assign_kind) {r : Answer ℤ Refusal} {d : Clock} (x : (t : Exp) → ExpAt s tr (i + 8) t → (w : State) → Shows vars e p.clock w → Gives (p.clock.top + 1) p.clock w (walk_exp rs t p.clock.left w) d r) where
  abbrev Meet : List ℤ → Answer (Unit {0}) Refusal → Progress → Type 0
  Meet vars' u q = (t : Stmt) → StmtAt s tr i t → (room : ℕ) (input : List ℕ) (lv : List ℤ) (lo out : List ℕ) (w : State) → Holds e input lv lo vars out p w → Ends e input lv lo vars' out p (walk_stmt rs room t p.clock.left w) q u

  pub assign_stop : {m : Refusal} → r ≡ Err m → Meet vars (Err m) (with_clock p d)
  unfolding walk_stmt
  assign_stop {m} g t a room input lv lo out w h = of (stmt_by (node_head assign_kind) k a) a
    where
      of : {t : Stmt} → StmtIs (node_head assign_kind) t → StmtAt s tr i t → Ends e input lv lo vars out p (walk_stmt rs room t p.clock.left w) (with_clock p d) (Err m)
      of (is_assign n y) b = exp_stop h (x y (assigned n y b) w (shown h)) g (λ z. store rs n z)

  pub assign_on : {z v : ℤ} {vars' : List ℤ} {u : Answer (Unit {0}) Refusal} {q : Progress} → r ≡ Ok z → v ≡ z
      → ((n : Name) → NameAt s tr (i + 4) n → (input : List ℕ) (lv : List ℤ) (lo out : List ℕ) (w : State) → Holds e input lv lo vars out (with_clock p d) w → Ends e input lv lo vars' out (with_clock p d) (store rs n v d.left w) q u) → Meet vars' u q
  unfolding walk_stmt
  assign_on {z} {v} {vars'} {u} {q} g c f t a room input lv lo out w h = of (stmt_by (node_head assign_kind) k a) a
    where
      of : {t : Stmt} → StmtIs (node_head assign_kind) t → StmtAt s tr i t → Ends e input lv lo vars' out p (walk_stmt rs room t p.clock.left w) q u
      of (is_assign n y) b = exp_then h (x y (assigned n y b) w (shown h)) g (λ z. store rs n z) (λ held. rw (← c) (f n (assign_name b) input lv lo out (at_top d.top w) held))

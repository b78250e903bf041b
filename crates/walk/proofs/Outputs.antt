-- Laws of bytes that are written.
use mathlib.Core.Path.{◌≡◌, sym, ◌∙◌}
use mathlib.Core.List.{List, ◌++◌}
use Prim.Native.Nat.{ℕ, ◌+◌, ◌≤◌}
use native.Mathlib.Omega.{arith}
use lib.IntN.{ℤ}
use lib.Dec.{leb}
use lib.ListN.{length, length-append}
use borrow.Author.Tests.{leb-true}
use Rattle.std.proofs.Common.{Result as Answer, Ok, Err}
use Rattle.numbers.specs.declared.refusal.Refusal.{Refusal}
use Rattle.numbers.specs.declared.refusal.Refusal.TheVariants.{BudgetSpent, OutputFull}
use Rattle.numbers.specs.Panel.{output_full}
use Rattle.numbers.specs.Screen.{written, fits_in}
use Rattle.numbers.specs.Answers.{Puts, Wrote, Kept}
use Rattle.tree.specs.Tree.{Exp}
use Rattle.tree.specs.Standing.{ExpAt}
use Rattle.symbols.specs.Symbols.{Row}
use Rattle.walk.specs.declared.expressions.Env.{Env}
use Rattle.walk.specs.declared.expressions.Clock.{Clock}
use Rattle.walk.specs.declared.progress.Progress.{Progress}
use Rattle.walk.specs.Walk.{State, at_top, wrote, put, put_number, walk_exp}
use Rattle.walk.specs.Meets.{Shows, Gives}
use Rattle.walk.specs.Holds.{with_clock, Holds, Ends, refused, Steps, Writes, write_walk}
use Rattle.walk.proofs.Steps.{step_on, refuse_on, spent_unless}
use Rattle.walk.proofs.Lines.{onto_length, onto_more}
use Rattle.walk.proofs.Ends.{shown, ends_as, ends_from, exp_stop, exp_then}

-- with so many bytes written
abbrev pub up_to : Progress → ℕ → Progress
up_to p n = record { clock = p.clock; at = p.at; written = n; lines = p.lines }

-- the state with bytes written
abbrev more : State → List ℕ → State
more w bs = record { top = w.top; vars = w.vars; out = w.out ++ bs; input = w.input; lines = w.lines }

module _ (p : Progress) (u : Answer ℕ Refusal) (bs before after : List ℕ) (v : Puts bs p.written before after u) where
  fits_as : (e : Env) (input : List ℕ) (lv : List ℤ) (lo : List ℕ) (vars : List ℤ) (w : State) → Holds e input lv lo vars before p w → fits_in (length lo) w.out bs ≡ leb (p.written + length bs) (length before)
  fits_as e input lv lo vars w h = rw (h.written, h.out_is, onto_length lo w.out h.fits)

  pub wrote_full : {k : Refusal} → (p.clock.left ≡ 0 → ⊥) → u ≡ Err k → Writes bs before after p p (Err k)
  unfolding put
  wrote_full {k} l x e input lv lo vars w h =
      let f : (k ≡ OutputFull) × Kept bs p.written before after = rw x at v in
      let q = f.1 in
      rw (f.0, q.same) (refused {k = OutputFull} w (rw (fits_as e input lv lo vars w h ∙ q.full, put) (refuse_on output_full w p.clock.left l)) h (omega arith))

  pub wrote_on : (n : ℕ) {r : Answer (Unit {0}) Refusal} {d : Progress} → (p.clock.left ≡ 0 → ⊥) → u ≡ Ok n → Steps (up_to p n) (at_top p.clock.top) d r → Writes bs before after p d r
  unfolding put
  wrote_on n l x f e input lv lo vars w h =
      let q : Wrote bs p.written before after n = rw x at v in
      let fit : length w.out + length bs ≤ length lo = leb-true (length w.out + length bs) (length lo) (fits_as e input lv lo vars w h ∙ q.fits) in
      let held : Holds e input lv lo vars after (up_to p n) (more w bs) = record {
        top = h.top;
        vars_are = h.vars_are;
        many = h.many;
        out_is = q.whole ∙ rw h.out_is (onto_more lo w.out bs p.written h.written fit);
        fits = omega (arith, length-append w.out bs, fit);
        written = omega (arith, q.next, h.written, length-append w.out bs);
        rest = h.rest;
        lines = h.lines;
        few = h.few;
      } in
      let to : at_top p.clock.top (more w bs) ≡ wrote bs w.top w = rw (sym h.top) in
      ends_as (step_on tt (at_top p.clock.top (more w bs)) (more w bs) p.clock.left l ∙ rw to (sym (rw (fits_as e input lv lo vars w h ∙ q.fits, put) (step_on tt (wrote bs w.top w) w p.clock.left l))))
      (ends_from p (omega arith) (f e input lv lo vars after (more w bs) held))

pub write_spent : (bs before : List ℕ) (p : Progress) → p.clock.left ≡ 0 → Writes bs before before p p (Err BudgetSpent)
unfolding put
write_spent bs before p z e input lv lo vars w h = refused {k = BudgetSpent} w (rw z (spent_unless (fits_in (length lo) w.out bs) output_full tt (wrote bs w.top w) w)) h (omega arith)

module _ (rs : List Row) (s tr : List ℕ) (i : ℕ) (e : Env) (vars : List ℤ) (before : List ℕ) (p : Progress) {r : Answer ℤ Refusal} {d : Clock} (x : (t : Exp) → ExpAt s tr i t → (w : State) → Shows vars e p.clock w → Gives (p.clock.top + 1) p.clock w (walk_exp rs t p.clock.left w) d r) where
  abbrev Meet : List ℕ → Answer (Unit {0}) Refusal → Progress → Type 0
  Meet after u q = (t : Exp) → ExpAt s tr i t → (input : List ℕ) (lv : List ℤ) (lo : List ℕ) (w : State) → Holds e input lv lo vars before p w → Ends e input lv lo vars after p (write_walk rs (length lo) t p.clock.left w) q u

  pub write_stop : {m : Refusal} → r ≡ Err m → Meet before (Err m) (with_clock p d)
  write_stop {m} g t a input lv lo w h = exp_stop h (x t a w (shown h)) g (λ z. put_number (length lo) z)

  pub write_on : {z y : ℤ} {after : List ℕ} {u : Answer (Unit {0}) Refusal} {q : Progress} → r ≡ Ok z → y ≡ z → Writes (written y) before after (with_clock p d) q u → Meet after u q
  write_on {z} {y} {after} {u} {q} g c f t a input lv lo w h =
      exp_then h (x t a w (shown h)) g (λ z. put_number (length lo) z) (λ held. rw (← c) (f e input lv lo vars (at_top d.top w) held))

-- Laws of statements' answers: one after the other, and single steps.
use mathlib.Core.Path.{◌≡◌, refl, sym, ap, ◌∙◌}
use mathlib.Core.List.{List}
use Prim.Native.Nat.{ℕ, ◌-◌, ◌≤◌}
use native.Mathlib.Omega.{arith}
use lib.IntN.{ℤ}
use Rattle.std.proofs.Common.{Result as Answer, Ok, Err}
use Rattle.numbers.specs.declared.refusal.Refusal.{Refusal}
use Rattle.numbers.specs.declared.refusal.Refusal.TheVariants.{BudgetSpent}
use Rattle.walk.specs.declared.expressions.Env.{Env}
use Rattle.walk.specs.declared.expressions.Clock.{Clock}
use Rattle.walk.specs.declared.progress.Progress.{Progress}
use Rattle.walk.specs.Walk.{State, Result, ok, Walk, then, step, at_top}
use Rattle.walk.specs.Meets.{Gives, gives, halts, Shows}
use Rattle.walk.specs.Holds.{with_clock, Holds, Ends, done, refused, Reads, read, unread}
use Rattle.walk.proofs.Steps.{step_on}

module _ {e : Env} {input : List ℕ} {lv : List ℤ} {lo : List ℕ} {vars : List ℤ} {out : List ℕ} {p : Progress} {w : State} (h : Holds e input lv lo vars out p w) where
  -- what expressions see of it
  pub shown : Shows vars e p.clock w
  shown = record { top = h.top; cells = record { lent = lv; is = h.vars_are; many = h.many } }

  -- with another clock, and another top
  pub hold_clock : (d : Clock) → d.left ≤ p.clock.left → Holds e input lv lo vars out (with_clock p d) (at_top d.top w)
  hold_clock d l = record { top = refl; vars_are = h.vars_are; many = h.many; out_is = h.out_is; fits = h.fits; written = h.written; rest = h.rest; lines = h.lines; few = omega (arith, h.few) }

  -- 16
  pub spent : (v : State) → p.clock.left ≡ 0 → Ends e input lv lo vars out p (step tt v p.clock.left w) p (Err BudgetSpent)
  spent v z = refused {k = BudgetSpent} w (rw z) h (omega arith)

  pub step_done : (d : Clock) → d.left ≡ p.clock.left - 1 → (p.clock.left ≡ 0 → ⊥) → (u : Unit {0}) → Ends e input lv lo vars out p (step tt (at_top d.top w) p.clock.left w) (with_clock p d) (Ok u)
  step_done d f z u = done (at_top d.top w) (step_on tt (at_top d.top w) w p.clock.left z ∙ rw f) (hold_clock d (omega (arith, f))) (omega (arith, f))

module _ {e : Env} {input : List ℕ} {lv : List ℤ} {lo : List ℕ} {vars : List ℤ} {out : List ℕ} {p : Progress} {o : Result (Unit {0})} {r : Answer (Unit {0}) Refusal} {q : Progress} where
  -- a refusal ends what comes after it, too
  pub ends_halt : {k : Refusal} → r ≡ Err k → Ends e input lv lo vars out p o q r → (g : Unit {0} → Walk (Unit {0})) → Ends e input lv lo vars out p (then g o) q (Err k)
  ends_halt {k} x h g = of (rw x at h)
    where
      of : Ends e input lv lo vars out p o q (Err k) → Ends e input lv lo vars out p (then g o) q (Err k)
      of (refused w i s l) = refused {k = k} w (ap (then g) i) s l

  -- on after a statement
  pub ends_then : {vars' : List ℤ} {out' : List ℕ} {u : Unit {0}} {s : Answer (Unit {0}) Refusal} {t : Progress}
      → r ≡ Ok u → Ends e input lv lo vars out p o q r → (g : Unit {0} → Walk (Unit {0})) → ((w : State) → Holds e input lv lo vars out q w → Ends e input lv lo vars' out' q (g tt q.clock.left w) t s) → Ends e input lv lo vars' out' p (then g o) t s
  ends_then {vars'} {out'} {u} {s} {t} x h g f = of (rw x at h)
    where
      after : {s : Answer (Unit {0}) Refusal} {t : Progress} (w : State) → o ≡ ok tt q.clock.left w → q.clock.left ≤ p.clock.left → Ends e input lv lo vars' out' q (g tt q.clock.left w) t s → Ends e input lv lo vars' out' p (then g o) t s
      after w i l (done v j m n) = done v (ap (then g) i ∙ j) m (omega (arith, n))
      after w i l (refused {k = k} v j m n) = refused {k = k} v (ap (then g) i ∙ j) m (omega (arith, n))

      of : Ends e input lv lo vars out p o q (Ok u) → Ends e input lv lo vars' out' p (then g o) t s
      of (done w i m l) = after w i l (f w m)

  pub ends_as : {o' : Result (Unit {0})} → o ≡ o' → Ends e input lv lo vars out p o q r → Ends e input lv lo vars out p o' q r
  ends_as x h = rw (sym x) h

-- after an expression
module _ {e : Env} {input : List ℕ} {lv : List ℤ} {lo : List ℕ} {vars : List ℤ} {out : List ℕ} {p : Progress} {w : State} {n : ℕ} {o : Result ℤ} {r : Answer ℤ Refusal} {d : Clock} (h : Holds e input lv lo vars out p w) (a : Gives n p.clock w o d r) where
  pub exp_stop : {k : Refusal} → r ≡ Err k → (g : ℤ → Walk (Unit {0})) → Ends e input lv lo vars out p (then g o) (with_clock p d) (Err k)
  exp_stop {k} x g = of (rw x at a)
    where
      of : Gives n p.clock w o d (Err k) → Ends e input lv lo vars out p (then g o) (with_clock p d) (Err k)
      of (halts b) = refused {k = k} (at_top d.top w) (ap (then g) b.is) (hold_clock h d b.less) b.less

  pub exp_then : {z : ℤ} {vars' : List ℤ} {out' : List ℕ} {s : Answer (Unit {0}) Refusal} {t : Progress} → r ≡ Ok z → (g : ℤ → Walk (Unit {0}))
      → (Holds e input lv lo vars out (with_clock p d) (at_top d.top w) → Ends e input lv lo vars' out' (with_clock p d) (g z d.left (at_top d.top w)) t s) → Ends e input lv lo vars' out' p (then g o) t s
  exp_then {z} {vars'} {out'} {s} {t} x g f = of (rw x at a)
    where
      after : {s : Answer (Unit {0}) Refusal} {t : Progress} → o ≡ ok z d.left (at_top d.top w) → d.left ≤ p.clock.left → Ends e input lv lo vars' out' (with_clock p d) (g z d.left (at_top d.top w)) t s → Ends e input lv lo vars' out' p (then g o) t s
      after i l (done v j m n) = done v (ap (then g) i ∙ j) m (omega (arith, n))
      after i l (refused {k = k} v j m n) = refused {k = k} v (ap (then g) i ∙ j) m (omega (arith, n))

      of : Gives n p.clock w o d (Ok z) → Ends e input lv lo vars' out' p (then g o) t s
      of (gives b) = after b.is b.less (f (hold_clock h d b.less))

-- from an earlier clock
pub ends_from : {e : Env} {input : List ℕ} {lv : List ℤ} {lo : List ℕ} {vars : List ℤ} {out : List ℕ} (p : Progress) {q : Progress} {o : Result (Unit {0})} {r : Answer (Unit {0}) Refusal} {t : Progress} → q.clock.left ≤ p.clock.left → Ends e input lv lo vars out q o t r → Ends e input lv lo vars out p o t r
ends_from p l (done v j m n) = done v j m (omega (arith, n))
ends_from p l (refused {k = k} v j m n) = refused {k = k} v j m (omega (arith, n))

-- no step comes back
pub ends_less : {e : Env} {input : List ℕ} {lv : List ℤ} {lo : List ℕ} {vars : List ℤ} {out : List ℕ} {p q : Progress} {o : Result (Unit {0})} {r : Answer (Unit {0}) Refusal} → Ends e input lv lo vars out p o q r → q.clock.left ≤ p.clock.left
ends_less (done v x h l) = l
ends_less (refused v x h l) = l

-- after a line was read
module _ {e : Env} {input : List ℕ} {lv : List ℤ} {lo : List ℕ} {vars : List ℤ} {out : List ℕ} {p : Progress} {o : Result ℤ} {r : Answer ℤ Refusal} {q : Progress} (a : Reads e input lv lo vars out p o q r) where
  pub read_stop : {k : Refusal} → r ≡ Err k → (g : ℤ → Walk (Unit {0})) → Ends e input lv lo vars out p (then g o) q (Err k)
  read_stop {k} x g = of (rw x at a)
    where
      of : Reads e input lv lo vars out p o q (Err k) → Ends e input lv lo vars out p (then g o) q (Err k)
      of (unread w i h l) = refused {k = k} w (ap (then g) i) h l

  pub read_then : {z : ℤ} {vars' : List ℤ} {out' : List ℕ} {s : Answer (Unit {0}) Refusal} {t : Progress} → r ≡ Ok z → (g : ℤ → Walk (Unit {0}))
      → ((w : State) → Holds e input lv lo vars out q w → Ends e input lv lo vars' out' q (g z q.clock.left w) t s) → Ends e input lv lo vars' out' p (then g o) t s
  read_then {z} {vars'} {out'} {s} {t} x g f = of (rw x at a)
    where
      of : Reads e input lv lo vars out p o q (Ok z) → Ends e input lv lo vars' out' p (then g o) t s
      of (read w i h l) = ends_as (sym (ap (then g) i)) (ends_from p l (f w h))

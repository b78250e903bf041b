-- Laws of conditions that are tested, and of what comes after the test.
use mathlib.Core.Path.{◌≡◌, refl, sym, ap, ◌∙◌}
use mathlib.Core.Bool.{Bool, true, false, not}
use mathlib.Core.List.{List}
use Prim.Native.Nat.{ℕ, zero, suc, ◌≤◌, ◌<◌}
use native.Mathlib.Omega.{arith}
use lib.IntN.{ℤ, pos}
use Rattle.std.proofs.Common.{Result as Answer, Ok, Err}
use Rattle.numbers.specs.declared.refusal.Refusal.{Refusal}
use Rattle.numbers.specs.Arithmetic.{eq_z}
use Rattle.tree.specs.Tree.{Cond}
use Rattle.tree.specs.Standing.{CondAt, HasCond}
use Rattle.symbols.specs.Symbols.{Row}
use Rattle.walk.specs.declared.expressions.Env.{Env}
use Rattle.walk.specs.declared.expressions.Clock.{Clock}
use Rattle.walk.specs.declared.progress.Progress.{Progress}
use Rattle.walk.specs.Walk.{State, Result, ok, stop, Walk, then, ◌>>◌, pure, whether, step, at_top, tested}
use Rattle.walk.specs.Meets.{Gives, gives, halts}
use Rattle.walk.specs.Holds.{with_clock, Holds, HasState, Ends, done, refused, Steps}
use Rattle.walk.specs.Tests.{test_walk, Tests, passed, failed, stopped}
use Rattle.walk.proofs.Ends.{hold_clock, ends_as, ends_from}

-- the test's step, then what comes after it
pub tested_then : (o : Result ℤ) (k : ℤ → Walk (Unit {0})) → then (λ z. tested >> k z) o ≡ then k (then (λ z. tested >> pure z) o)
tested_then (ok z zero w) k = refl
tested_then (ok z (suc b) w) k = refl
tested_then (stop n b w) k = refl

-- a step takes one off the budget
step_less : (v : State) (b : ℕ) (w : State) (n : ℕ) (u : State) → ◌≡◌ {A = Result (Unit {0})} (step tt v b w) (ok tt n u) → n < b
step_less v zero w n u x = let f : ◌≡◌ {A = ℕ} 0 1 = cc in absurd (omega arith)
step_less v (suc b) w n u x = let f : b ≡ n = cc in omega (arith, f)

module _ {e : Env} {input : List ℕ} {lv : List ℤ} {lo : List ℕ} {vars : List ℤ} {out : List ℕ} {p : Progress} {w : State} {n : ℕ} {o : Result ℤ} {r : Answer ℤ Refusal} {d : Clock} (h : Holds e input lv lo vars out p w) (a : Gives n p.clock w o d r) where
  abbrev Meets : Answer Bool Refusal → Progress → Type 0
  Meets t q = Tests e input lv lo vars out p (then (λ z. tested >> pure z) o) q t

  -- the condition is refused
  pub test_halt : {k : Refusal} → r ≡ Err k → Meets (Err k) (with_clock p d)
  test_halt {k} x = of (rw x at a)
    where
      of : Gives n p.clock w o d (Err k) → Meets (Err k) (with_clock p d)
      of (halts b) = stopped {k = k} (at_top d.top w) (ap (then (λ z. tested >> pure z)) b.is) (hold_clock h d b.less) b.less

  module _ {z : ℤ} (x : r ≡ Ok z) {t : Answer (Unit {0}) Refusal} {g : Progress} (f : Steps (with_clock p d) (at_top d.top) g t) where
    -- the step of the test
    abbrev Stepped : Answer (Unit {0}) Refusal → Type 0
    Stepped t = (d.left ≤ p.clock.left) × ((o ≡ ok z d.left (at_top d.top w)) × Ends e input lv lo vars out (with_clock p d) (step tt (at_top d.top w) d.left (at_top d.top w)) g t)

    stepped : Stepped t
    stepped = of (rw x at a)
      where
        of : Gives n p.clock w o d (Ok z) → Stepped t
        of (gives b) = (b.less, (b.is, f e input lv lo vars out (at_top d.top w) (hold_clock h d b.less)))

    -- 16 for the test
    pub test_spent : {k : Refusal} → t ≡ Err k → Meets (Err k) g
    test_spent {k} v = of (rw v at stepped)
      where
        of : Stepped (Err k) → Meets (Err k) g
        of (l, (i, refused s j m t)) = stopped {k = k} s (ap (then (λ z. tested >> pure z)) i ∙ ap (then (λ c. pure z)) j) m (omega (arith, l, t))

    module _ {u : Unit {0}} (v : t ≡ Ok u) where
      test_passed : eq_z z (pos 0) ≡ false → Meets (Ok true) g
      test_passed t = of (rw v at stepped)
        where
          of : Stepped (Ok u) → Meets (Ok true) g
          of (l, (i, done s j m n)) = let f = step_less (at_top d.top w) d.left (at_top d.top w) g.clock.left s j in passed z s t (ap (then (λ z. tested >> pure z)) i ∙ ap (then (λ c. pure z)) j) m (omega (arith, l, f))

      test_failed : eq_z z (pos 0) ≡ true → Meets (Ok false) g
      test_failed t = of (rw v at stepped)
        where
          of : Stepped (Ok u) → Meets (Ok false) g
          of (l, (i, done s j m n)) = let f = step_less (at_top d.top w) d.left (at_top d.top w) g.clock.left s j in failed z s t (ap (then (λ z. tested >> pure z)) i ∙ ap (then (λ c. pure z)) j) m (omega (arith, l, f))

      -- either way
      pub test_says : (b : Bool) → eq_z z (pos 0) ≡ b → Meets (Ok (not b)) g
      test_says true t = test_failed t
      test_says false t = test_passed t

-- the state after a test, with its value and whether that is 0
pub record Led (e : Env) (input : List ℕ) (lv : List ℤ) (lo : List ℕ) (vars : List ℤ) (out : List ℕ) (p : Progress) (o : Result ℤ) (q : Progress) (f : Bool) : Type 0 where
  pub value : ℤ
  pub state : State
  pub says : eq_z value (pos 0) ≡ f
  pub is : o ≡ ok value q.clock.left state
  pub holds : Holds e input lv lo vars out q state
  pub less : q.clock.left < p.clock.left

-- what is done after it
pub leads : {e : Env} {input : List ℕ} {lv : List ℤ} {lo : List ℕ} {vars : List ℤ} {out : List ℕ} {p : Progress} {o : Result ℤ} {q : Progress} {f : Bool} (f₀ f₁ : Walk (Unit {0})) (t : Led e input lv lo vars out p o q f) → then (λ z. whether (eq_z z (pos 0)) f₀ f₁) o ≡ whether f f₀ f₁ q.clock.left t.state
leads {q = q} f₀ f₁ t = ap (then (λ z. whether (eq_z z (pos 0)) f₀ f₁)) t.is ∙ ap (λ (b : Bool). whether b f₀ f₁ q.clock.left t.state) t.says

-- after a test
module _ {e : Env} {input : List ℕ} {lv : List ℤ} {lo : List ℕ} {vars : List ℤ} {out : List ℕ} {p : Progress} {o : Result ℤ} {r : Answer Bool Refusal} {q : Progress} (a : Tests e input lv lo vars out p o q r) where
  pub tests_stop : {k : Refusal} → r ≡ Err k → (g : ℤ → Walk (Unit {0})) → Ends e input lv lo vars out p (then g o) q (Err k)
  tests_stop {k} x g = of (rw x at a)
    where
      of : Tests e input lv lo vars out p o q (Err k) → Ends e input lv lo vars out p (then g o) q (Err k)
      of (stopped w i h l) = refused {k = k} w (ap (then g) i) h l

  pub tests_passed : r ≡ Ok true → Led e input lv lo vars out p o q false
  tests_passed x = of (rw x at a)
    where
      of : Tests e input lv lo vars out p o q (Ok true) → Led e input lv lo vars out p o q false
      of (passed z w t i h l) = record { value = z; state = w; says = t; is = i; holds = h; less = l }

  pub tests_failed : r ≡ Ok false → Led e input lv lo vars out p o q true
  tests_failed x = of (rw x at a)
    where
      of : Tests e input lv lo vars out p o q (Ok false) → Led e input lv lo vars out p o q true
      of (failed z w t i h l) = record { value = z; state = w; says = t; is = i; holds = h; less = l }

  module _ (f₀ f₁ : Walk (Unit {0})) {vars' : List ℤ} {out' : List ℕ} {s : Answer (Unit {0}) Refusal} {t : Progress} where
    pub on_passed : r ≡ Ok true → ((w : State) → Holds e input lv lo vars out q w → Ends e input lv lo vars' out' q (f₁ q.clock.left w) t s) → Ends e input lv lo vars' out' p (then (λ z. whether (eq_z z (pos 0)) f₀ f₁) o) t s
    on_passed x f = let l = tests_passed x in ends_as (sym (leads f₀ f₁ l)) (ends_from p (omega (arith, l.less)) (f l.state l.holds))

    pub on_failed : r ≡ Ok false → ((w : State) → Holds e input lv lo vars out q w → Ends e input lv lo vars' out' q (f₀ q.clock.left w) t s) → Ends e input lv lo vars' out' p (then (λ z. whether (eq_z z (pos 0)) f₀ f₁) o) t s
    on_failed x f = let l = tests_failed x in ends_as (sym (leads f₀ f₁ l)) (ends_from p (omega (arith, l.less)) (f l.state l.holds))

-- a state is held after a test
module _ (rs : List Row) {s tr : List ℕ} {i : ℕ} {e : Env} {input : List ℕ} {vars : List ℤ} {out : List ℕ} {p : Progress} {r : Answer Bool Refusal} {q : Progress}
    (x : (t : Cond) → CondAt s tr i t → (input : List ℕ) (lv : List ℤ) (lo out : List ℕ) (w : State) → Holds e input lv lo vars out p w → Tests e input lv lo vars out p (test_walk rs t p.clock.left w) q r) (h : HasCond s tr i) (a : HasState e input vars out p) where
  tests_here : Tests e input a.lv a.lo vars out p (test_walk rs h.cond p.clock.left a.state) q r
  tests_here = x h.cond h.at input a.lv a.lo out a.state a.holds

  pub passed_held : r ≡ Ok true → HasState e input vars out q
  passed_held y = let t = tests_passed tests_here y in record { lv = a.lv; lo = a.lo; state = t.state; holds = t.holds }

  pub failed_held : r ≡ Ok false → HasState e input vars out q
  failed_held y = let t = tests_failed tests_here y in record { lv = a.lv; lo = a.lo; state = t.state; holds = t.holds }

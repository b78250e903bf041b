-- Laws of single steps: what the clock's tests say of the definition's steps.
use mathlib.Core.Path.{◌≡◌, refl, sym, ap, ◌∙◌}
use mathlib.Core.Bool.{Bool, true, false}
use Prim.Native.Nat.{ℕ, zero, suc, ◌+◌, ◌-◌, ◌≤◌, ◌<◌}
use native.Mathlib.Omega.{arith}
use native.Mathlib.Numerals.{add-one}
use lib.IntN.{ℤ}
use lib.Dec.{ltb}
use borrow.Author.Tests.{lt-ltb, le-ltb}
use Rattle.std.proofs.Common.{Ok, Err}
use Rattle.numbers.specs.declared.refusal.Refusal.{Refusal}
use Rattle.numbers.specs.declared.refusal.Refusal.TheVariants.{BudgetSpent, CellOutside}
use Rattle.numbers.specs.Refusals.{number_of}
use Rattle.numbers.specs.Panel.{budget_spent, cell_outside}
use Rattle.numbers.specs.Limits.{max_cells}
use Rattle.numbers.specs.Arithmetic.{Val, val, fault}
use Rattle.walk.specs.declared.expressions.Clock.{Clock}
use Rattle.walk.specs.Walk.{State, Result, ok, stop, step, refuse, unless, at_top, push, result}
use Rattle.walk.specs.Meets.{Halted, Gives, gives, halts}

pub positive : (n : ℕ) → (n ≡ 0 → ⊥) → 1 ≤ n
positive zero h = absurd (h refl)
positive (suc n) h = omega arith

pub one_more_lem : (n : ℕ) → (n ≡ 0 → ⊥) → n ≡ suc (n - 1)
one_more_lem n h = omega (arith, positive n h)

-- the top as it is
pub at_top_lem : (w : State) (n : ℕ) → w.top ≡ n → at_top n w ≡ w
at_top_lem w n e = ap (λ (t : ℕ). at_top t w) (sym e)

-- a clock that a step was taken from
abbrev pub ticked : Clock → ℕ → Clock
ticked c t = record { left = c.left - 1; top = t }

module _ {A : Type 0} where
  pub spent_unless : (b : Bool) (n : ℕ) (a : A) (v w : State) → unless b n a v 0 w ≡ stop budget_spent 0 w
  spent_unless true n a v w = refl
  spent_unless false n a v w = refl

  pub step_on : (a : A) (v w : State) (b : ℕ) → (b ≡ 0 → ⊥) → step a v b w ≡ ok a (b - 1) v
  step_on a v w b h = ap (λ (n : ℕ). step a v n w) (one_more_lem b h)

  pub refuse_on : (n : ℕ) (w : State) (b : ℕ) → (b ≡ 0 → ⊥) → refuse {A = A} n b w ≡ stop n b w
  refuse_on n w b h = ap (λ (m : ℕ). refuse {A = A} n m w) (one_more_lem b h) ∙ ap (λ (m : ℕ). stop n m w) (sym (one_more_lem b h))

-- a refusal where the clock stands
pub halted : (c : Clock) (w : State) (k : Refusal) (o : Result ℤ) → w.top ≡ c.top → o ≡ stop (number_of k) c.left w → Halted c w o k c
halted c w k o t e = record { is = e ∙ ap (stop (number_of k) c.left) (sym (at_top_lem w c.top t)); less = omega arith }

module _ (z : ℤ) (c : Clock) (w : State) (t : w.top ≡ c.top) where
  pub push_spent : (n : ℕ) → c.left ≡ 0 → Gives n c w (push z c.left w) c (Err BudgetSpent)
  unfolding push
  push_spent n e = halts (halted c w BudgetSpent _ t (rw e (spent_unless (ltb w.top max_cells) cell_outside z (at_top (suc w.top) w) w)))

  pub push_full : (n : ℕ) → (c.left ≡ 0 → ⊥) → max_cells ≤ c.top → Gives n c w (push z c.left w) c (Err CellOutside)
  unfolding push
  push_full n h f = halts (halted c w CellOutside _ t (rw (le-ltb w.top max_cells (omega (arith, t))) (refuse_on cell_outside w c.left h)))

  pub push_on : (y : ℤ) → y ≡ z → (c.left ≡ 0 → ⊥) → c.top < max_cells → Gives (c.top + 1) c w (push z c.left w) (ticked c (c.top + 1)) (Ok y)
  unfolding push
  push_on y e h f = gives {z = y} (record {
    is = rw (lt-ltb w.top max_cells (omega (arith, t))) (step_on z (at_top (suc w.top) w) w c.left h ∙ rw (t, add-one, e));
    top = refl;
    less = omega arith;
  })

module _ (n : ℕ) (c : Clock) (w : State) (t : w.top ≡ c.top) where
  pub settle_spent : (v : Val) → c.left ≡ 0 → Gives n c w (result n v c.left w) c (Err BudgetSpent)
  settle_spent (val z) e = halts (halted c w BudgetSpent _ t (rw e))
  settle_spent (fault k) e = halts (halted c w BudgetSpent _ t (rw e))

  pub settle_on : (v : Val) (z y : ℤ) → v ≡ val z → y ≡ z → (c.left ≡ 0 → ⊥) → Gives n c w (result n v c.left w) (ticked c n) (Ok y)
  settle_on v z y e d h = gives {z = y} (record { is = ap (λ (u : Val). result n u c.left w) e ∙ step_on z (at_top n w) w c.left h ∙ rw d; top = refl; less = omega arith })

  pub settle_not : (v : Val) (k : Refusal) → v ≡ fault (number_of k) → (c.left ≡ 0 → ⊥) → Gives n c w (result n v c.left w) c (Err k)
  settle_not v k e h = halts (halted c w k _ t (ap (λ (u : Val). result n u c.left w) e ∙ refuse_on (number_of k) w c.left h))

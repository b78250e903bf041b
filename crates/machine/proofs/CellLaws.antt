-- Laws of cells: the number that the code computes is the cell that the definition names.
use mathlib.Core.Path.{◌≡◌, refl, sym, ap, ◌∙◌}
use mathlib.Core.Bool.{Bool, true, false}
use mathlib.Core.List.{List, [], ◌∷◌}
use mathlib.Core.Option.{none, some}
use Prim.Native.Nat.{ℕ, zero, suc, ◌+◌, ◌-◌, ◌≤◌, ◌<◌}
use native.Mathlib.Omega.{arith}
use lib.IntN.{ℤ, pos, negsuc, nat_abs, ◌-ℤ◌}
use lib.Signed.{lt_z, non_neg}
use lib.Dec.{T}
use lib.ListN.{length, get_or, set}
use borrow.Author.Tests.{ltb-true, lt-ltb, le-ltb}
use mir.Syntax.{w64}
use mir.Val.{Fits, SFits}
use mir.ValLaws.{to_z-of_z}
use Rattle.numbers.specs.Limits.{max_cells}
use Rattle.numbers.proofs.Bits.{back}
use Rattle.machine.specs.Machine.{Machine, cell_at, below, held, from, up, there}
use Rattle.machine.specs.Frames.{from_by, there_by}

pub clash : ◌≡◌ {A = Bool} true false → ⊥
clash h = let z : ◌≡◌ {A = ℕ} 0 1 = cc in omega arith

-- a test of a signed number, as the code reads it
pub read : (t : ℤ → Bool) (z : ℤ) → SFits w64 z → {v : Bool} → t (back z) ≡ v → t z ≡ v
read t z h e = sym (ap t (to_z-of_z w64 z h)) ∙ e

-- a cell is there below 4,096
pub cell_in : {i : ℕ} → i < max_cells → cell_at (pos i) ≡ some i
unfolding cell_at
cell_in {i} h = rw (lt-ltb i max_cells h, cell_at)

pub cell_out : {i : ℕ} → max_cells ≤ i → cell_at (pos i) ≡ none
unfolding cell_at
cell_out {i} h = rw (le-ltb i max_cells h, cell_at)

-- a base or an operand that is negative names no cell
pub low_base : (b a : ℤ) → lt_z b (pos 0) ≡ true → from_by b a ≡ none
unfolding from from_by
low_base (pos b) a h = absurd (omega (arith, ltb-true b 0 h))
low_base (negsuc b) (pos a) h = refl
low_base (negsuc b) (negsuc a) h = refl

pub low_operand : (b a : ℤ) → lt_z a (pos 0) ≡ true → from_by b a ≡ none
unfolding from_by
low_operand b (pos a) h = absurd (omega (arith, ltb-true a 0 h))
low_operand b (negsuc a) h = refl

-- the sum of the others is the number of the cell
pub sum_cell : (b a : ℤ) → lt_z b (pos 0) ≡ false → lt_z a (pos 0) ≡ false → from_by b a ≡ cell_at (pos (nat_abs b + nat_abs a))
unfolding from from_by
sum_cell (pos b) (pos a) h k = refl
sum_cell (negsuc b) a h k = absurd (clash h)
sum_cell (pos b) (negsuc a) h k = absurd (clash k)

-- up the static links, one level
pub up_out : (cs : List ℤ) (l : ℕ) (b : ℤ) → 0 < l → from_by b (pos 1) ≡ none → up cs l b ≡ none
unfolding up from_by
up_out cs zero b p e = absurd (omega arith)
up_out cs (suc l) b p e = rw (e, up)

pub up_on : (cs : List ℤ) (l : ℕ) (b : ℤ) {i : ℕ} → 0 < l → from_by b (pos 1) ≡ some i → up cs l b ≡ up cs (l - 1) (held cs i)
unfolding up from_by
up_on cs zero b p e = absurd (omega arith)
up_on cs (suc l) b {i} p e = let k : suc l - 1 ≡ l = omega arith in rw (e, k, up)

-- the cell of a level and an operand
pub there_none : (cs : List ℤ) (l : ℕ) (a b : ℤ) → up cs l b ≡ none → there_by cs l a b ≡ none
unfolding there_by
there_none cs l (pos a) b e = rw e
there_none cs l (negsuc a) b e = refl

pub there_some : (cs : List ℤ) (l : ℕ) (a b : ℤ) {z : ℤ} → up cs l b ≡ some z → there_by cs l a b ≡ from_by z a
unfolding from_by there_by
there_some cs l (pos a) b e = rw e
there_some cs l (negsuc a) b e = refl

pub there_by_lem : (m : Machine) (l : ℕ) (a : ℤ) → there m l a ≡ there_by m.cells l a m.base
unfolding there there_by
there_by_lem m l (pos a) = refl
there_by_lem m l (negsuc a) = refl

-- below a top
pub below_none : {t : ℕ} → t ≡ 0 → below t ≡ none
below_none e = rw e

pub below_some : (t : ℕ) → 0 < t → below t ≡ some (t - 1)
below_some zero h = absurd (omega arith)
below_some (suc t) h = let e : suc t - 1 ≡ t = omega arith in rw e

-- the cell that STA reads
pub under_in : (t l : ℕ) → l ≤ t → t - l < max_cells → cell_at (pos t -ℤ pos l) ≡ some (t - l)
under_in t zero h k = let e : t + 0 ≡ t - 0 = omega arith in rw e (cell_in k)
under_in t (suc l) h k = rw (le-ltb t (suc l) h) (cell_in k)

pub under_high : (t l : ℕ) → l ≤ t → max_cells ≤ t - l → cell_at (pos t -ℤ pos l) ≡ none
under_high t zero h k = let e : t + 0 ≡ t - 0 = omega arith in rw e (cell_out k)
under_high t (suc l) h k = rw (le-ltb t (suc l) h) (cell_out k)

pub under_out : (t l : ℕ) → t < l → cell_at (pos t -ℤ pos l) ≡ none
unfolding cell_at
under_out t zero h = absurd (omega arith)
under_out t (suc l) h = rw (lt-ltb t (suc l) h)

-- a number that is not negative, as the code casts it
pub whole : (a : ℤ) → SFits w64 a → lt_z a (pos 0) ≡ false → T (non_neg a) × Fits w64 (nat_abs a)
whole (pos a) f h = (tt, record { fits = omega (arith, f.sfits) })
whole (negsuc a) f h = absurd (clash h)

-- a top that is not 0
pub some_top : {t : ℕ} → (t ≡ 0 → ⊥) → 0 < t
some_top {t = zero} h = absurd (h refl)
some_top {t = suc t} h = omega arith

-- a cell that is set and set back
pub set_back : (cs : List ℤ) (t : ℕ) (x d : ℤ) → t < length cs → set (set cs t x) t (get_or cs t d) ≡ cs
set_back [] t x d h = absurd (omega arith)
set_back (c ∷ cs) zero x d h = refl
set_back (c ∷ cs) (suc t) x d h = ap (λ (l : List ℤ). c ∷ l) (set_back cs t x d (omega arith))

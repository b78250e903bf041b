-- Laws of chains of procedure rows, exported: they end, and go on while their rows' numbers are kept.
use Rattle.std.specs.Prelude.{◌≡◌, refl, List, [], ◌∷◌, ℕ, zero, suc, ◌-◌, ◌≤◌, ◌<◌, length}
use Rattle.std.proofs.Common.{sym, ap, ◌∙◌, arith, ne_eqb}
use Rattle.numbers.specs.Limits.{max_rows}
use Rattle.symbols.specs.Symbols.{Scope, main_scope}
use Rattle.symbols.specs.Table.{first, scope, name_at, chain, scope_at, firsts, Linked, Kept}

pub positive : (p : ℕ) → (p ≡ 0 → ⊥) → 1 ≤ p
positive zero h = absurd (h refl)
positive (suc p) h = omega arith

pub chain_end : (f : ℕ) (s xs : List ℕ) → chain f s xs 0 ≡ main_scope
unfolding chain
chain_end zero s xs = refl
chain_end (suc f) s xs = refl

pub chain_cons : (f : ℕ) (s xs : List ℕ) (p : ℕ) → chain (suc f) s xs (suc p) ≡ name_at s xs p ∷ chain f s xs (scope xs p)
unfolding chain
chain_cons f s xs p =
    let nz : suc p ≡ 0 → ⊥ = λ e. omega arith in
    let e : suc p - 1 ≡ p = omega arith in
    rw (ne_eqb (suc p) 0 nz, chain) (rw e)

pub chain_step : (f : ℕ) (s xs : List ℕ) (p : ℕ) → suc p ≤ f → chain f s xs (suc p) ≡ name_at s xs p ∷ chain (f - 1) s xs (scope xs p)
chain_step zero s xs p h = absurd (omega arith)
chain_step (suc f) s xs p h = let e : suc f - 1 ≡ f = omega arith in chain_cons f s xs p ∙ rw e

pub firsts_none : (xs : List ℕ) (p : ℕ) → firsts 0 xs p ≡ []
unfolding firsts
firsts_none xs p = refl

pub firsts_end : (f : ℕ) (xs : List ℕ) → firsts f xs 0 ≡ []
unfolding firsts
firsts_end zero xs = refl
firsts_end (suc f) xs = refl

pub firsts_cons : (f : ℕ) (xs : List ℕ) (p : ℕ) → firsts (suc f) xs (suc p) ≡ first xs p ∷ firsts f xs (scope xs p)
unfolding firsts
firsts_cons f xs p =
    let nz : suc p ≡ 0 → ⊥ = λ e. omega arith in
    let e : suc p - 1 ≡ p = omega arith in
    rw (ne_eqb (suc p) 0 nz, firsts) (rw e)

-- a part of the rows, and other numbers that lead to the same ones
pub linked_less : {xs ys : List ℕ} (k j : ℕ) → j ≤ k → Linked xs k → length ys ≡ length xs → ((i : ℕ) → first ys i ≡ first xs i) → ((i : ℕ) → scope ys i ≡ scope xs i) → Linked ys j
linked_less {xs} {ys} k j h g l f s = record {
  most = omega (arith, g.most);
  room = omega (arith, g.room);
  older = λ i b. omega (arith, g.older i (omega arith), s i);
  before = λ i b. omega (arith, g.before i (omega arith), f i);
  again = λ i b. rw (f i, f (first xs i)) (g.again i (omega arith));
}

-- the main program's scope list
pub scope_main : (s xs : List ℕ) → scope_at s xs 0 ≡ main_scope
unfolding scope_at
scope_main s xs = chain_end max_rows s xs

module _ (n k : ℕ) (s xs ys : List ℕ) (enough : 9 ≤ n) (g : Linked xs k) (kp : Kept n k xs ys) where
  pub name_kept : (i : ℕ) → i < k → name_at s ys i ≡ name_at s xs i
  unfolding name_at
  name_kept i h = rw (kp.at i 0 h (omega arith), kp.at i 1 h (omega arith))

  pub chain_kept : (f p : ℕ) → p ≤ f → p ≤ k → chain f s ys p ≡ chain f s xs p
  chain_kept zero zero h l = chain_end 0 s ys ∙ sym (chain_end 0 s xs)
  chain_kept zero (suc p) h l = absurd (omega arith)
  chain_kept (suc f) zero h l = chain_end (suc f) s ys ∙ sym (chain_end (suc f) s xs)
  chain_kept (suc f) (suc p) h l =
      let o = g.older p (omega arith) in
      let q = chain_kept f (scope xs p) (omega (arith, o)) (omega (arith, o)) in
      chain_cons f s ys p ∙ rw (name_kept p (omega arith), kp.at p 4 (omega arith) (omega arith), q) (sym (chain_cons f s xs p))

  pub scope_kept : (p : ℕ) → p ≤ k → scope_at s ys p ≡ scope_at s xs p
  unfolding scope_at
  scope_kept p h = chain_kept max_rows p (omega (arith, g.most)) h

module _ (n k : ℕ) (xs ys : List ℕ) (enough : 9 ≤ n) (g : Linked xs k) (kp : Kept n k xs ys) where
  pub firsts_kept : (f p : ℕ) → p ≤ f → p ≤ k → firsts f ys p ≡ firsts f xs p
  firsts_kept zero zero h l = firsts_end 0 ys ∙ sym (firsts_end 0 xs)
  firsts_kept zero (suc p) h l = absurd (omega arith)
  firsts_kept (suc f) zero h l = firsts_end (suc f) ys ∙ sym (firsts_end (suc f) xs)
  firsts_kept (suc f) (suc p) h l =
      let o = g.older p (omega arith) in
      let q = firsts_kept f (scope xs p) (omega (arith, o)) (omega (arith, o)) in
      firsts_cons f ys p ∙ rw (kp.at p 3 (omega arith) (omega arith), kp.at p 4 (omega arith) (omega arith), q) (sym (firsts_cons f xs p))

-- a chain's first row, by a number that is not 0
pub firsts_step : (f : ℕ) (xs : List ℕ) (p : ℕ) → (p ≡ 0 → ⊥) → p ≤ f → firsts f xs p ≡ first xs (p - 1) ∷ firsts (f - 1) xs (scope xs (p - 1))
firsts_step f xs zero n h = absurd (n refl)
firsts_step zero xs (suc p) n h = absurd (omega arith)
firsts_step (suc f) xs (suc p) n h =
    let e : suc p - 1 ≡ p = omega arith in
    let d : suc f - 1 ≡ f = omega arith in
    firsts_cons f xs p ∙ rw (e, d)

-- how many rows a chain may have does not matter, where they are enough
pub firsts_fuel : (k : ℕ) (xs : List ℕ) → Linked xs k → (f g p : ℕ) → p ≤ f → p ≤ g → p ≤ k → firsts f xs p ≡ firsts g xs p
firsts_fuel k xs l zero g zero h i j = firsts_end 0 xs ∙ sym (firsts_end g xs)
firsts_fuel k xs l zero g (suc p) h i j = absurd (omega arith)
firsts_fuel k xs l (suc f) g zero h i j = firsts_end (suc f) xs ∙ sym (firsts_end g xs)
firsts_fuel k xs l (suc f) zero (suc p) h i j = absurd (omega arith)
firsts_fuel k xs l (suc f) (suc g) (suc p) h i j =
    let o = l.older p (omega arith) in
    firsts_cons f xs p ∙ ap (λ (r : List ℕ). first xs p ∷ r) (firsts_fuel k xs l f g (scope xs p) (omega (arith, o)) (omega (arith, o)) (omega (arith, o))) ∙ sym (firsts_cons g xs p)

pub chain_fuel : (k : ℕ) (s xs : List ℕ) → Linked xs k → (f g p : ℕ) → p ≤ f → p ≤ g → p ≤ k → chain f s xs p ≡ chain g s xs p
chain_fuel k s xs l zero g zero h i j = chain_end 0 s xs ∙ sym (chain_end g s xs)
chain_fuel k s xs l zero g (suc p) h i j = absurd (omega arith)
chain_fuel k s xs l (suc f) g zero h i j = chain_end (suc f) s xs ∙ sym (chain_end g s xs)
chain_fuel k s xs l (suc f) zero (suc p) h i j = absurd (omega arith)
chain_fuel k s xs l (suc f) (suc g) (suc p) h i j =
    let o = l.older p (omega arith) in
    chain_cons f s xs p ∙ ap (λ (r : Scope). name_at s xs p ∷ r) (chain_fuel k s xs l f g (scope xs p) (omega (arith, o)) (omega (arith, o)) (omega (arith, o))) ∙ sym (chain_cons g s xs p)

-- Laws of the four places of an instruction.
use Rattle.std.proofs.Common.{◌≡◌, ◌∙◌, List, [], ◌∷◌, ◌++◌, ℕ, ◌+◌, ◌-◌, ◌≤◌, arith, length, take}
use Rattle.std.specs.Prelude.{◌<◌, Option as Found, Some, None, SomeIff, Result, Err, ok_or}
use Rattle.numbers.specs.declared.refusal.Refusal.{Refusal}
use borrow.Rule.Slice.PartMut.{put_mid}
use Rattle.std.proofs.lemmas.Slice.{take-put_mid}

-- four numbers that are written at u
pub placed : (u : ℕ) (xs new : List ℕ) {a b l low high : ℕ} → u ≤ length xs → new ≡ a ∷ l ∷ low ∷ high ∷ [] → a ≡ b → take (u + 4) (put_mid u (u + 4 - u) xs new) ≡ take u xs ++ (b ∷ l ∷ low ∷ high ∷ [])
placed u xs new h e f = take-put_mid u (u + 4 - u) xs new (u + 4) (rw e) h ∙ rw (e, f)

-- a difference that there is, or none
pub apart : {o : Found ℕ} {a b : ℕ} → SomeIff o (b ≤ a) (a - b) → o ≡ None → a < b
apart {o} {a} {b} h e = grind (arith, rw e at h)

pub distance : {o : Found ℕ} {a b d : ℕ} → SomeIff o (b ≤ a) (a - b) → o ≡ Some d → (b ≤ a) × (d ≡ a - b)
distance {o} {a} {b} {d} h e = let g = rw e at h in (grind arith, grind arith)

-- what stands for a value that is not there
pub in_place : {A : Type 0} {o : Found A} {e x : Refusal} → o ≡ None → ◌≡◌ {A = Result A Refusal} (Err x) (ok_or o e) → x ≡ e
in_place {A} {o} {e} {x} h q = let g : ◌≡◌ {A = Result A Refusal} (Err x) (Err e) = rw h at q in cc

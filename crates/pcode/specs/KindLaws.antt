-- Laws of kinds by the bits of their number, as a match on a lent kind tests them.
use Rattle.std.specs.Prelude.{◌≡◌, refl, ℕ, zero, suc, ◌≤◌, ℤ, pos, negsuc}
use Rattle.std.proofs.Common.{ap, arith, SFits, of_z}
use Rattle.std.specs.Int.{w8}
use Rattle.pcode.specs.Code.{NIL, kind_of, kinds}

-- a number outside 0..10 is no kind's
kind_none : (n : ℕ) → (n ≡ 0 → ⊥) → (n ≡ 1 → ⊥) → (n ≡ 2 → ⊥) → (n ≡ 3 → ⊥) → (n ≡ 4 → ⊥) → (n ≡ 5 → ⊥) → (n ≡ 6 → ⊥) → (n ≡ 7 → ⊥) → (n ≡ 8 → ⊥) → (n ≡ 9 → ⊥) → (n ≡ 10 → ⊥) → kind_of (pos n) ≡ NIL
unfolding kind_of kinds
kind_none zero h0 h1 h2 h3 h4 h5 h6 h7 h8 h9 h10 = absurd (h0 refl)
kind_none (suc zero) h0 h1 h2 h3 h4 h5 h6 h7 h8 h9 h10 = absurd (h1 refl)
kind_none (suc (suc zero)) h0 h1 h2 h3 h4 h5 h6 h7 h8 h9 h10 = absurd (h2 refl)
kind_none (suc (suc (suc zero))) h0 h1 h2 h3 h4 h5 h6 h7 h8 h9 h10 = absurd (h3 refl)
kind_none (suc (suc (suc (suc zero)))) h0 h1 h2 h3 h4 h5 h6 h7 h8 h9 h10 = absurd (h4 refl)
kind_none (suc (suc (suc (suc (suc zero))))) h0 h1 h2 h3 h4 h5 h6 h7 h8 h9 h10 = absurd (h5 refl)
kind_none (suc (suc (suc (suc (suc (suc zero)))))) h0 h1 h2 h3 h4 h5 h6 h7 h8 h9 h10 = absurd (h6 refl)
kind_none (suc (suc (suc (suc (suc (suc (suc zero))))))) h0 h1 h2 h3 h4 h5 h6 h7 h8 h9 h10 = absurd (h7 refl)
kind_none (suc (suc (suc (suc (suc (suc (suc (suc zero)))))))) h0 h1 h2 h3 h4 h5 h6 h7 h8 h9 h10 = absurd (h8 refl)
kind_none (suc (suc (suc (suc (suc (suc (suc (suc (suc zero))))))))) h0 h1 h2 h3 h4 h5 h6 h7 h8 h9 h10 = absurd (h9 refl)
kind_none (suc (suc (suc (suc (suc (suc (suc (suc (suc (suc zero)))))))))) h0 h1 h2 h3 h4 h5 h6 h7 h8 h9 h10 = absurd (h10 refl)
kind_none (suc (suc (suc (suc (suc (suc (suc (suc (suc (suc (suc n))))))))))) h0 h1 h2 h3 h4 h5 h6 h7 h8 h9 h10 = refl

pub kind_rest : (z : ℤ) → (of_z w8 z ≡ 0 → ⊥) → (of_z w8 z ≡ 1 → ⊥) → (of_z w8 z ≡ 2 → ⊥) → (of_z w8 z ≡ 3 → ⊥) → (of_z w8 z ≡ 4 → ⊥) → (of_z w8 z ≡ 5 → ⊥) → (of_z w8 z ≡ 6 → ⊥) → (of_z w8 z ≡ 7 → ⊥) → (of_z w8 z ≡ 8 → ⊥) → (of_z w8 z ≡ 9 → ⊥) → (of_z w8 z ≡ 10 → ⊥) → kind_of z ≡ NIL
unfolding kind_of
kind_rest (pos n) h0 h1 h2 h3 h4 h5 h6 h7 h8 h9 h10 = kind_none n h0 h1 h2 h3 h4 h5 h6 h7 h8 h9 h10
kind_rest (negsuc n) h0 h1 h2 h3 h4 h5 h6 h7 h8 h9 h10 = refl

-- a kind's number, from its bits
pub kind_key : (z : ℤ) {n : ℕ} → SFits w8 z → n ≤ 10 → of_z w8 z ≡ n → kind_of z ≡ kind_of (pos n)
kind_key (pos k) h l e = ap (λ (x : ℕ). kind_of (pos x)) e
kind_key (negsuc k) h l e = absurd (omega (arith, h.sfits))

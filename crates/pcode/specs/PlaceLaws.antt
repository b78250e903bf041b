-- Laws of code places that are lent in three parts: how many there are, and which instruction stands where.
use Rattle.std.specs.Prelude.{◌≡◌, refl, List, [], ◌∷◌, ℕ, zero, suc, ◌≤◌, ◌<◌, min, ℤ, pos, length, get_or}
use Rattle.std.proofs.Common.{sym, ap, ◌∙◌, arith}
use Rattle.std.proofs.Math.Nat.{zero-min, min-zero, suc-min-suc, min-le_left, min-le_right}
use Rattle.std.proofs.lemmas.List.{length-map}
use Rattle.pcode.specs.Code.{Code, ins, nil, kind_of, instr_in, places_in, instrs_in}

-- as many as the shortest part has
pub length_places : (ks : List ℤ) (ls : List ℕ) (os : List ℤ) → length (places_in ks ls os) ≡ min (length ks) (min (length ls) (length os))
unfolding places_in
length_places [] ls os = sym (zero-min (min (length ls) (length os)))
length_places (k ∷ ks) [] os = sym (ap (min (length (k ∷ ks))) (zero-min (length os)) ∙ min-zero (length (k ∷ ks)))
length_places (k ∷ ks) (l ∷ ls) [] = sym (ap (min (length (k ∷ ks))) (min-zero (length (l ∷ ls))) ∙ min-zero (length (k ∷ ks)))
length_places (k ∷ ks) (l ∷ ls) (a ∷ os) =
    ap suc (length_places ks ls os)
    ∙ sym (ap (min (suc (length ks))) (suc-min-suc (length ls) (length os)) ∙ suc-min-suc (length ks) (min (length ls) (length os)))

-- each part has as many at least
module _ (ks : List ℤ) (ls : List ℕ) (os : List ℤ) where
  pub kinds_enough : length (places_in ks ls os) ≤ length ks
  kinds_enough = omega (arith, length_places ks ls os, min-le_left (length ks) (min (length ls) (length os)))

  pub levels_enough : length (places_in ks ls os) ≤ length ls
  levels_enough = omega (arith, length_places ks ls os, min-le_right (length ks) (min (length ls) (length os)), min-le_left (length ls) (length os))

  pub operands_enough : length (places_in ks ls os) ≤ length os
  operands_enough = omega (arith, length_places ks ls os, min-le_right (length ks) (min (length ls) (length os)), min-le_right (length ls) (length os))

-- the instructions are as many
pub length_instrs : (ks : List ℤ) (ls : List ℕ) (os : List ℤ) → length (instrs_in (record { kinds = ks; levels = ls; operands = os })) ≡ length (places_in ks ls os)
unfolding instrs_in
length_instrs ks ls os = length-map (places_in ks ls os) instr_in

-- and each part has as many at least
module _ (c : Code) where
  pub in_kinds : length (instrs_in c) ≤ length c.kinds
  in_kinds = omega (arith, length_instrs c.kinds c.levels c.operands, kinds_enough c.kinds c.levels c.operands)

  pub in_levels : length (instrs_in c) ≤ length c.levels
  in_levels = omega (arith, length_instrs c.kinds c.levels c.operands, levels_enough c.kinds c.levels c.operands)

  pub in_operands : length (instrs_in c) ≤ length c.operands
  in_operands = omega (arith, length_instrs c.kinds c.levels c.operands, operands_enough c.kinds c.levels c.operands)

pub count_instrs : (ks : List ℤ) (ls : List ℕ) (os : List ℤ) → length (instrs_in (record { kinds = ks; levels = ls; operands = os })) ≡ min (length ks) (min (length ls) (length os))
count_instrs ks ls os = length_instrs ks ls os ∙ length_places ks ls os

-- the instruction at a place within all three
pub instr_at : (ks : List ℤ) (ls : List ℕ) (os : List ℤ) (i : ℕ) → i < length (places_in ks ls os)
    → get_or (instrs_in (record { kinds = ks; levels = ls; operands = os })) i nil ≡ ins (kind_of (get_or ks i (pos 0))) (get_or ls i 0) (get_or os i (pos 0))
unfolding instrs_in places_in instr_in
instr_at [] ls os i h = absurd (omega arith)
instr_at (k ∷ ks) [] os i h = absurd (omega arith)
instr_at (k ∷ ks) (l ∷ ls) [] i h = absurd (omega arith)
instr_at (k ∷ ks) (l ∷ ls) (a ∷ os) zero h = refl
instr_at (k ∷ ks) (l ∷ ls) (a ∷ os) (suc i) h = instr_at ks ls os i (omega arith)

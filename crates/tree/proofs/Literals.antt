-- A literal as the code has it: an i64 that is not negative, and its two halves.
use mathlib.Core.Path.{◌≡◌, ◌∙◌, ap, subst}
use mathlib.Core.List.{List}
use Prim.Native.Nat.{ℕ, ◌+◌, ◌*◌, ◌≤◌}
use native.Mathlib.Omega.{arith}
use lib.IntN.{ℤ, pos}
use lib.ListN.{get_or}
use mir.Syntax.{w64}
use mir.Val.{SFits, to_z, of_z}
use mir.ValLaws.{to_z-of_z, to_z_pos}
use Rattle.numbers.specs.Limits.{greatest}
use Rattle.tree.specs.Layout.{half, literal, enc, Stands}
use Rattle.tree.specs.Reading.{literal_at}

-- what the code has is the number
pub plain : (z : ℤ) (v : ℕ) → SFits w64 z → z ≡ pos v → to_z w64 (of_z w64 z) ≡ pos v
plain z v h e = to_z-of_z w64 z h ∙ e

-- and it is below 2 ^ 63
pub below : (z : ℤ) (v : ℕ) → SFits w64 z → z ≡ pos v → SFits w64 (pos v)
below z v h e = subst (SFits w64) e h

-- the two halves of the literal that stands at i make its value
pub value_is : (xs : List ℕ) (i o v : ℕ) → Stands xs i (enc (literal o v)) → get_or xs (i + 2) 0 + half * get_or xs (i + 3) 0 ≡ v
value_is xs i o v s = omega (arith, (literal_at xs i o v s).at2, (literal_at xs i o v s).at3)

pub value_back : (xs : List ℕ) (i o v : ℕ) → Stands xs i (enc (literal o v)) → v ≤ greatest
    → (p w : ℕ) → Stands xs i (enc (literal p w)) → to_z w64 (get_or xs (i + 2) 0 + half * get_or xs (i + 3) 0) ≡ pos w
value_back xs i o v s h p w t = to_z_pos w64 (get_or xs (i + 2) 0 + half * get_or xs (i + 3) 0) (omega (arith, value_is xs i o v s)) ∙ ap pos (value_is xs i p w t)

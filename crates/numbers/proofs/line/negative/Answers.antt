-- `line::negative` meets its contract.
use mathlib.Core.Path.{◌≡◌, sym, ap, ◌∙◌}
use native.Mathlib.Omega.{arith}
use mathlib.Core.Option.{some}
use Prim.Native.Nat.{ℕ, zero, suc, ◌≤◌}
use lib.IntN.{ℤ, pos, neg_ℤ, ◌-ℤ◌}
use mir.Syntax.{w64}
use mir.Val.{SFits}
use Rattle.std.specs.Prelude.{Option as Maybe, Some, None}
use Rattle.std.specs.Option.{SomeIff}
use Rattle.numbers.proofs.Signs.{zero_minus}
use Rattle.numbers.specs.Limits.{least_magnitude}
use Rattle.numbers.specs.Line.{minus}
use Rattle.numbers.specs.Answers.{option_of}
use Rattle.numbers.proofs.Fields.{magnitude_most}
use Rattle.numbers.proofs.line.negative.Goals as goal

-- 0 - n is within i64, so it is there
below_zero : (n : ℕ) → n ≤ least_magnitude → (r : Maybe ℤ) → SomeIff r (SFits w64 (pos 0 -ℤ pos n)) (pos 0 -ℤ pos n) → option_of r ≡ some (neg_ℤ (pos n))
below_zero n h (Some x) (f, e) = ap some (e ∙ zero_minus (pos n))
below_zero n h None d = absurd (d (rw (zero_minus (pos n)) (fits_neg n h)))
  where
    fits_neg : (n : ℕ) → n ≤ least_magnitude → SFits w64 (neg_ℤ (pos n))
    fits_neg zero h = record { sfits = omega arith }
    fits_neg (suc n) h = record { sfits = omega arith }

pub returns-in_err-n : goal.returns-in_err-n
unfolding minus
returns-in_err-n c = rw c.from_residual.ensures (ap minus c.in_err-n.ensures)

pub returns : goal.returns
unfolding minus
returns c =
    let n = c.in_ok-n.n in
    below_zero n (magnitude_most least_magnitude c.args.s.now n (sym c.in_ok-n.ensures)) c.checked_sub_unsigned.result c.checked_sub_unsigned.ensures ∙ ap minus c.in_ok-n.ensures

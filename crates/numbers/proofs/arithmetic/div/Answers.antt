-- `arithmetic::div` meets its contract.
use mathlib.Core.Path.{◌≡◌, sym, ap, ◌∙◌}
use native.Mathlib.Omega.{arith as linear}
use lib.IntN.{ℤ, pos}
use lib.Signed.{quot_z}
use mir.Syntax.{w64}
use mir.Val.{of_z, SFits}
use mir.ValLaws.{to_z-of_z}
use Rattle.std.specs.Prelude.{Option as Maybe, Some, None}
use Rattle.std.specs.Int.{CanDivide}
use Rattle.std.specs.Option.{SomeIff}
use Rattle.numbers.specs.Arithmetic.{arith}
use Rattle.numbers.specs.Answers.{val_of}
use Rattle.numbers.proofs.Signs.{by_zero, by_other}
use Rattle.numbers.proofs.Bits.{checked_so, from_bits}
use Rattle.numbers.proofs.arithmetic.div.Goals as goal

zero-fits : SFits w64 (pos 0)
zero-fits = record { sfits = omega linear }

-- what divides is not 0, so only the quotient's size is left to tell
so : (a b : ℤ) (r : Maybe ℤ) → (of_z w64 b ≡ 0 → ⊥) → SomeIff r (CanDivide w64 a b) (quot_z a b) → SomeIff r (SFits w64 (quot_z a b)) (quot_z a b)
so a b (Some x) d (h, e) = (h.1, e)
so a b None d h = λ f. h (omega (linear, d), f)

pub returns-then-b-eq0 : goal.returns-then-b-eq0
unfolding arith
returns-then-b-eq0 c = sym (by_zero c.args.a c.args.b (from_bits c.args.b (pos 0) c.ranges.b zero-fits c.if-b-eq0.true))

pub returns : goal.returns
unfolding arith
returns c =
    let d : SomeIff c.checked_div.result (CanDivide w64 c.args.a c.args.b) (quot_z c.args.a c.args.b) = rw (to_z-of_z w64 c.args.a c.ranges.a, to_z-of_z w64 c.args.b c.ranges.b) at c.checked_div.ensures in
    ap val_of c.ok_or.ensures.value
    ∙ checked_so (quot_z c.args.a c.args.b) c.checked_div.result (so c.args.a c.args.b c.checked_div.result c.if-b-eq0.false d)
    ∙ sym (by_other c.args.a c.args.b (λ e. c.if-b-eq0.false (ap (of_z w64) e)))

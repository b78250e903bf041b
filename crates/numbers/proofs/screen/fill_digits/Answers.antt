-- `screen::fill_digits` meets its contract. The loop's invariant: the digits that are left, in front of those written, are the digits of the number.
use mathlib.Core.Path.{◌≡◌, refl, ◌∙◌}
use native.Mathlib.Omega.{arith}
use lib.ListN.{length-set}
use Rattle.numbers.proofs.Decimals.{last_digits_of, digits_begin, digit_more, pair_more}
use Rattle.numbers.proofs.screen.fill_digits.Goals as goal

pub loop-left-init : goal.loop-left-init
loop-left-init c = (omega arith, refl, digits_begin c.args.n c.args.part.now c.requires)

pub bounds-part-left-in-loop-left : goal.bounds-part-left-in-loop-left
bounds-part-left-in-loop-left c = simp length-set (omega arith)

pub loop-left-preserved : goal.loop-left-preserved
loop-left-preserved c = (
  simp length-set (omega arith),
  simp length-set c.loop-left.invariant.1,
  pair_more c.loop-left.left c.loop-left.m c.last_digit.result c.last_digit-in-loop-left.result c.loop-left.part c.loop-left-test.true c.loop-left.invariant.0 c.last_digit.ensures c.last_digit-in-loop-left.ensures ∙ c.loop-left.invariant.2,
)

pub shape_of-part-then-left-eq1 : goal.shape_of-part-then-left-eq1
shape_of-part-then-left-eq1 c = simp length-set c.loop-left.invariant.1

pub returns-then-left-eq1 : goal.returns-then-left-eq1
unfolding last_digits_of
returns-then-left-eq1 c =
    let one : c.loop-left.left ≡ 1 = omega arith in
    digit_more 0 c.loop-left.m c.last_digit-then-left-eq1.result c.loop-left.part (omega arith) c.last_digit-then-left-eq1.ensures ∙ rw one at c.loop-left.invariant.2

pub returns-else-left-eq1 : goal.returns-else-left-eq1
unfolding last_digits_of
returns-else-left-eq1 c = let none : c.loop-left.left ≡ 0 = omega arith in rw none at c.loop-left.invariant.2

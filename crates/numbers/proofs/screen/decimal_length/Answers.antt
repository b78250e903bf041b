-- `screen::decimal_length` meets its contract.
use mathlib.Core.Path.{ap, ◌∙◌}
use native.Mathlib.Omega.{arith}
use lib.IntN.{pos, nat_abs}
use lib.ListN.{length}
use Rattle.numbers.proofs.Bits.{plain, sign}
use Rattle.numbers.proofs.Decimals.{decimal_most, decimal_plain, decimal_signed}
use Rattle.numbers.proofs.screen.decimal_length.Goals as goal

pub overflow_add-result : goal.overflow_add-result
overflow_add-result c = omega (arith, c.digit_count-digits.ensures, decimal_most (pos c.magnitude.result))

pub returns-then-x-lt0 : goal.returns-then-x-lt0
returns-then-x-lt0 c =
    let x = c.args.x in
    omega (arith, c.digit_count-digits.ensures, ap length (decimal_signed x c.magnitude.result (plain nat_abs x c.ranges.x c.magnitude.ensures) (sign x c.ranges.x c.if-x-lt0.true)))

pub returns : goal.returns
returns c =
    let x = c.args.x in
    c.digit_count-digits.ensures ∙ ap length (decimal_plain x c.magnitude.result (plain nat_abs x c.ranges.x c.magnitude.ensures) (sign x c.ranges.x c.if-x-lt0.false))

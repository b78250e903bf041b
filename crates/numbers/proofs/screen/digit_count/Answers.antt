-- `screen::digit_count` meets its contract. The loop's invariant: the digits counted and those of what is left are as many as the number has.
use native.Mathlib.Omega.{arith}
use lib.IntN.{pos}
use Rattle.numbers.proofs.Decimals.{four_more, so_many, decimal_most}
use Rattle.numbers.proofs.screen.digit_count.Goals as goal

pub loop-m-init : goal.loop-m-init
loop-m-init c = (omega arith, omega arith)

pub overflow_add-counted : goal.overflow_add-counted
overflow_add-counted c = omega (arith, decimal_most (pos c.args.n))

pub loop-m-smaller : goal.loop-m-smaller
loop-m-smaller c = omega (arith, decimal_most (pos c.args.n))

pub loop-m-preserved : goal.loop-m-preserved
loop-m-preserved c = (omega arith, omega (arith, four_more c.loop-m.m c.loop-m-test.true (omega arith)))

pub overflow_add-result : goal.overflow_add-result
overflow_add-result c = omega (arith, decimal_most (pos c.args.n))

pub returns-then-m-lt10 : goal.returns-then-m-lt10
returns-then-m-lt10 c = omega (arith, so_many 0 c.loop-m.m (λ p. omega arith) (omega arith) (omega arith))

pub overflow_add-result-then-m-lt100 : goal.overflow_add-result-then-m-lt100
overflow_add-result-then-m-lt100 c = omega (arith, decimal_most (pos c.args.n))

pub returns-then-m-lt100 : goal.returns-then-m-lt100
returns-then-m-lt100 c = omega (arith, so_many 1 c.loop-m.m (λ p. omega arith) (omega arith) (omega arith))

pub overflow_add-result-then-m-lt1000 : goal.overflow_add-result-then-m-lt1000
overflow_add-result-then-m-lt1000 c = omega (arith, decimal_most (pos c.args.n))

pub returns-then-m-lt1000 : goal.returns-then-m-lt1000
returns-then-m-lt1000 c = omega (arith, so_many 2 c.loop-m.m (λ p. omega arith) (omega arith) (omega arith))

pub overflow_add-result-2 : goal.overflow_add-result-2
overflow_add-result-2 c = omega (arith, decimal_most (pos c.args.n))

pub returns : goal.returns
returns c = omega (arith, so_many 3 c.loop-m.m (λ p. omega arith) (omega arith) (omega arith))

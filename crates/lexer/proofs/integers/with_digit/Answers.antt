-- `integers::with_digit` meets its contract.
use mathlib.Core.Path.{sym}
use Rattle.lexer.proofs.Literals.{digit_least, digit_few, digit_many}
use Rattle.lexer.proofs.integers.with_digit.Goals as goal

pub overflow_sub-result : goal.overflow_sub-result
overflow_sub-result c = digit_least _ c.requires

pub returns-then-v-le-GREATEST_BEFORE : goal.returns-then-v-le-GREATEST_BEFORE
returns-then-v-le-GREATEST_BEFORE c = sym (digit_few _ _ c.if-v-le-GREATEST_BEFORE.true)

pub returns-else-v-le-GREATEST_BEFORE : goal.returns-else-v-le-GREATEST_BEFORE
returns-else-v-le-GREATEST_BEFORE c = sym (digit_many _ _ c.if-v-le-GREATEST_BEFORE.false)

-- `signs::single` meets its contract.
use Rattle.numbers.specs.Bytes.{bytes}
use Rattle.lexer.specs.Marks.{spelt, singles}
use Rattle.lexer.specs.Spelling.{named}
use Rattle.lexer.proofs.Tables.{named_miss, named_none, one_other}
use native.Mathlib.Omega.{arith}
use Rattle.lexer.proofs.signs.single.Goals as goal

pub returns-in-43 : goal.returns-in-43
unfolding named spelt singles bytes
returns-in-43 c = rw c.in-43.is

pub returns-in-45 : goal.returns-in-45
unfolding named spelt singles bytes
returns-in-45 c = rw c.in-45.is

pub returns-in-42 : goal.returns-in-42
unfolding named spelt singles bytes
returns-in-42 c = rw c.in-42.is

pub returns-in-47 : goal.returns-in-47
unfolding named spelt singles bytes
returns-in-47 c = rw c.in-47.is

pub returns-in-40 : goal.returns-in-40
unfolding named spelt singles bytes
returns-in-40 c = rw c.in-40.is

pub returns-in-41 : goal.returns-in-41
unfolding named spelt singles bytes
returns-in-41 c = rw c.in-41.is

pub returns-in-61 : goal.returns-in-61
unfolding named spelt singles bytes
returns-in-61 c = rw c.in-61.is

pub returns-in-59 : goal.returns-in-59
unfolding named spelt singles bytes
returns-in-59 c = rw c.in-59.is

pub returns-in-44 : goal.returns-in-44
unfolding named spelt singles bytes
returns-in-44 c = rw c.in-44.is

pub returns-in-60 : goal.returns-in-60
unfolding named spelt singles bytes
returns-in-60 c = rw c.in-60.is

pub returns-in-62 : goal.returns-in-62
unfolding named spelt singles bytes
returns-in-62 c = rw c.in-62.is

pub returns-in_default : goal.returns-in_default
unfolding singles bytes
returns-in_default c =
    simp (named_miss, one_other c.args.b 43 (λ e. omega arith), one_other c.args.b 45 (λ e. omega arith), one_other c.args.b 42 (λ e. omega arith), one_other c.args.b 47 (λ e. omega arith), one_other c.args.b 40 (λ e. omega arith), one_other c.args.b 41 (λ e. omega arith), one_other c.args.b 61 (λ e. omega arith), one_other c.args.b 59 (λ e. omega arith), one_other c.args.b 44 (λ e. omega arith), one_other c.args.b 60 (λ e. omega arith), one_other c.args.b 62 (λ e. omega arith), named_none)

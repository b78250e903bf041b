-- `line::number` meets its contract.
use mathlib.Core.Path.{sym, ◌∙◌}
use Rattle.numbers.proofs.Scans.{rest_of}
use Rattle.numbers.proofs.Fields.{value_none, value_minus, value_plus, value_plain}
use Rattle.numbers.proofs.line.number.Goals as goal
use native.Mathlib.Omega.{arith}

pub returns-in-empty : goal.returns-in-empty
returns-in-empty c = sym (value_none c.args.s.now (omega arith))

pub returns-in-45 : goal.returns-in-45
returns-in-45 c = let s = c.args.s.now in c.negative.ensures ∙ rw (rest_of 1 s) (sym (value_minus s (λ e. omega arith) (omega arith)))

pub returns-in-43 : goal.returns-in-43
returns-in-43 c = let s = c.args.s.now in c.positive.ensures ∙ rw (rest_of 1 s) (sym (value_plus s (λ e. omega arith) (λ e. omega arith) (omega arith)))

pub returns-in_default : goal.returns-in_default
returns-in_default c = c.positive-in_default.ensures ∙ sym (value_plain c.args.s.now (λ e. omega arith) (λ e. omega arith) (λ e. omega arith))

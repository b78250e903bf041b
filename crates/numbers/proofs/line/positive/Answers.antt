-- `line::positive` meets its contract.
use mathlib.Core.Path.{sym, ap, ◌∙◌}
use native.Mathlib.Omega.{arith}
use mathlib.Core.Option.{some}
use mir.Syntax.{w64}
use mir.ValLaws.{to_z_pos}
use Rattle.numbers.specs.Limits.{greatest}
use Rattle.numbers.specs.Line.{plus}
use Rattle.numbers.proofs.Fields.{magnitude_most}
use Rattle.numbers.proofs.line.positive.Goals as goal

pub returns-in_err-n : goal.returns-in_err-n
unfolding plus
returns-in_err-n c = rw c.from_residual.ensures (ap plus c.in_err-n.ensures)

pub overflow_cast-result : goal.overflow_cast-result
overflow_cast-result c = record { sfits = omega (arith, magnitude_most greatest c.args.s.now c.in_ok-n.n (sym c.in_ok-n.ensures)) }

pub returns : goal.returns
unfolding plus
returns c = ap some (to_z_pos w64 c.in_ok-n.n (omega (arith, magnitude_most greatest c.args.s.now c.in_ok-n.n (sym c.in_ok-n.ensures)))) ∙ ap plus c.in_ok-n.ensures

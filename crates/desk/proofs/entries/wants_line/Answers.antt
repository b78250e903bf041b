-- `entries::wants_line` meets its contract.
use mathlib.Core.Path.{◌∙◌}
use borrow.Author.Tests.{eq-eqb, ne_eqb}
use Rattle.desk.specs.Entries.{wants_one}
use Rattle.desk.proofs.entries.wants_line.Goals as goal

pub returns-then-number : goal.returns-then-number
unfolding wants_one
returns-then-number c = rw (eq-eqb c.args.number 22 (c.if-number.true ∙ c.number.ensures), c.line_ends.ensures)

pub returns-else-number : goal.returns-else-number
unfolding wants_one
returns-else-number c = rw (c.number.ensures, ne_eqb c.args.number 22 (rw c.number.ensures at c.if-number.false))

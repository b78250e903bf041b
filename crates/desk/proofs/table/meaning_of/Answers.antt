-- `table::meaning_of` meets its contract: the numbers past the table mean nothing.
use native.Mathlib.Omega.{arith}
use Rattle.desk.proofs.Meanings.{no_meaning}
use Rattle.desk.proofs.table.meaning_of.Goals as goal

pub returns-in_default : goal.returns-in_default
returns-in_default c = no_meaning c.args.number (omega arith)

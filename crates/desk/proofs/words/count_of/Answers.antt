-- `words::count_of` meets its contract: what `read_digits` takes is at most the bound.
use mathlib.Core.Path.{sym}
use native.Mathlib.Omega.{arith}
use Rattle.numbers.proofs.Fields.{magnitude_most}
use Rattle.desk.specs.Words.{most_count, count_of}
use Rattle.desk.proofs.words.count_of.Goals as goal

pub returns-in_err-n : goal.returns-in_err-n
unfolding count_of
returns-in_err-n c = rw c.from_residual.ensures (c.in_err-n.ensures)

pub overflow_cast-result : goal.overflow_cast-result
overflow_cast-result c = record { fits = omega (arith, magnitude_most most_count c.args.word.now c.in_ok-n.n (sym (c.in_ok-n.ensures))) }

pub returns : goal.returns
unfolding count_of
returns c = c.in_ok-n.ensures

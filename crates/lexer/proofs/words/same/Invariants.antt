-- `words::same` meets its contract.
use mathlib.Core.Path.{◌≡◌}
use lib.ListN.{drop}
use Rattle.numbers.specs.Bytes.{eq_list}
use Rattle.lexer.proofs.words.same.Given as goal

abbrev pub invariant-loop-i : goal.invariant-loop-i
invariant-loop-i l = eq_list (drop l.i l.a) (drop l.i l.b) ≡ eq_list l.a l.b

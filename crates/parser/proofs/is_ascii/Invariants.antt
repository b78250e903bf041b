-- The proof of `is_ascii`.
use mathlib.Core.Path.{◌≡◌}
use mathlib.Core.Bool.{◌&&◌}
use lib.ListN.{drop}
use Rattle.numbers.specs.Bytes.{is_ascii, every}
use Rattle.parser.proofs.is_ascii.Given as goal

abbrev pub invariant-loop-b : goal.invariant-loop-b
invariant-loop-b l = l.ascii && every is_ascii (drop l.b-index l.text) ≡ every is_ascii l.text

-- `integers::integer` meets its contract.
use mathlib.Core.Path.{◌≡◌}
use Rattle.numbers.specs.Bytes.{is_digit}
use Rattle.lexer.specs.Spelling.{literal_of}
use Rattle.lexer.proofs.Runs.{stop}
use Rattle.lexer.proofs.Literals.{valued}
use Rattle.lexer.proofs.integers.integer.Given as goal

abbrev pub invariant-loop-e : goal.invariant-loop-e
invariant-loop-e l = (stop is_digit l.text l.e ≡ stop is_digit l.text l.i) × (literal_of (valued l.text l.v l.e) ≡ literal_of (valued l.text 0 l.i))

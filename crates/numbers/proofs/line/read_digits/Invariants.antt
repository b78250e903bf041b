-- `line::read_digits` meets its contract. The loop's invariant: the digits left, after the value so far, have the value of all of them.
use mathlib.Core.Path.{◌≡◌}
use Prim.Native.Nat.{◌≤◌}
use lib.ListN.{drop}
use Rattle.numbers.specs.Bytes.{is_digit, every, digits}
use Rattle.numbers.proofs.line.read_digits.Given as goal

abbrev pub invariant-loop-b : goal.invariant-loop-b
invariant-loop-b l = record {
  value : l.v ≤ 9223372036854775809;
  tests : every is_digit (drop l.b-index l.s) ≡ every is_digit l.s;
  digits_left : digits l.v (drop l.b-index l.s) ≡ digits 0 l.s;
}

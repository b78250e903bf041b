-- `screen::fill_digits` meets its contract. The loop's invariant: the digits that are left, in front of those written, are the digits of the number.
use mathlib.Core.Path.{◌≡◌}
use Prim.Native.Nat.{◌≤◌}
use lib.IntN.{pos}
use lib.ListN.{length, drop}
use Rattle.numbers.specs.Screen.{decimal}
use Rattle.numbers.proofs.Decimals.{last_digits_of}
use Rattle.numbers.proofs.screen.fill_digits.Given as goal

abbrev pub invariant-loop-left : goal.invariant-loop-left
invariant-loop-left l = (l.left ≤ length l.part) × (length l.part ≡ length l.initial.part) × (last_digits_of l.left l.m (drop l.left l.part) ≡ decimal (pos l.n))

abbrev pub decreases-loop-left : goal.decreases-loop-left
decreases-loop-left l = l.left

-- `screen::digit_count` meets its contract. The loop's invariant: the digits counted and those of what is left are as many as the number has.
use mathlib.Core.Path.{◌≡◌}
use Prim.Native.Nat.{◌+◌, ◌≤◌}
use lib.IntN.{pos}
use lib.ListN.{length}
use Rattle.numbers.specs.Screen.{decimal}
use Rattle.numbers.proofs.screen.digit_count.Given as goal

abbrev pub invariant-loop-m : goal.invariant-loop-m
invariant-loop-m l = (l.m ≤ l.n) × (l.counted + length (decimal (pos l.m)) ≡ length (decimal (pos l.n)))

abbrev pub decreases-loop-m : goal.decreases-loop-m
decreases-loop-m l = l.m

-- `up`: what is left to climb from the base reached is what was to climb from the first.
use mathlib.Core.Path.{◌≡◌}
use Prim.Native.Nat.{◌-◌}
use Rattle.machine.specs.Machine.{up}
use Rattle.machine.proofs.frames.up.Given as goal

abbrev pub invariant-loop : goal.invariant-loop
invariant-loop l = up l.cells (l.level - l.counter) l.reached ≡ up l.cells l.level l.base

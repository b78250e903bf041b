-- `room::clear` meets its contract.
use Rattle.std.proofs.Common.{◌≡◌, replicate, drop, ◌++◌}
use Rattle.numbers.proofs.room.clear.Given as goal

abbrev pub invariant-loop-place : goal.invariant-loop-place
invariant-loop-place g l = l.room ≡ replicate l.place-index l.value ++ drop l.place-index l.initial.room

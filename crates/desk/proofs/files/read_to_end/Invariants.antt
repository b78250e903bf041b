-- `files::read_to_end` meets its contract: what was read lies within the room.
use Rattle.std.proofs.Common.{length, ◌-◌, ◌≤◌}
use Rattle.desk.proofs.files.read_to_end.Given as goal

abbrev pub invariant-loop-used : goal.invariant-loop-used
invariant-loop-used g l = l.used ≤ length l.room

abbrev pub decreases-loop-used : goal.decreases-loop-used
decreases-loop-used g l = length l.room - l.used

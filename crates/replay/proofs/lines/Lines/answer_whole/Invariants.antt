-- `Lines::answer_whole` is safe and ends: it goes on within the bytes that are there.
use Rattle.std.proofs.Common.{◌≡◌, ◌-◌, ◌≤◌}
use Rattle.replay.proofs.lines.Lines.answer_whole.Given as goal

abbrev pub invariant-loop-n : goal.invariant-loop-n
invariant-loop-n g l = (l.at ≤ l.have) × (l.have ≡ l.self.have)

abbrev pub decreases-loop-n : goal.decreases-loop-n
decreases-loop-n g l = l.have - l.at

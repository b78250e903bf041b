-- `read::read_code` is safe: each place so far stands in the three lists.
use Rattle.std.proofs.Common.{◌≤◌, length}
use Rattle.protocol.proofs.read.read_code.Given as goal

abbrev pub invariant-loop-place : goal.invariant-loop-place
invariant-loop-place l = (l.n ≤ length l.kinds) × (l.n ≤ length l.levels) × (l.n ≤ length l.operands)

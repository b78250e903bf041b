-- The proof of `emit_wide`.
use Rattle.std.proofs.Common.{arith}
use Rattle.emission.specs.Drafting.{put_there, full}
use Rattle.emission.proofs.Places.{placed}
use Rattle.emission.proofs.emit_wide.Goals as goal

pub returns-then-n-ge-MAX_CODE : goal.returns-then-n-ge-MAX_CODE
returns-then-n-ge-MAX_CODE c = full _ _ _ _ _ _ c.if-n-ge-MAX_CODE.true

pub returns : goal.returns
returns c = put_there _ _ _ _ _ _ _ c.ranges.low.fits c.if-n-ge-MAX_CODE.false (placed _ _ _ (omega arith) c.copy_from_slice.ensures.after c.drafted.ensures)

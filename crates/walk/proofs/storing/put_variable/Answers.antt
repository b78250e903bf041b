-- The proof of `put_variable`.
use mir.Syntax.{w64}
use mir.ValLaws.{to_z-of_z}
use Rattle.walk.proofs.Cells.{put_in}
use Rattle.walk.proofs.storing.put_variable.Goals as goal

pub returns-then-place-count : goal.returns-then-place-count
returns-then-place-count c = put_in _ _ _ _ _ c.if-place-count.true (to_z-of_z w64 _ c.ranges.z)

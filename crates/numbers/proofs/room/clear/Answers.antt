-- `room::clear` meets its contract.
use native.Mathlib.Omega.{arith}
use Rattle.numbers.proofs.Filling.{fill_next}
use Rattle.numbers.proofs.room.clear.Goals as goal

pub loop-place-preserved : goal.loop-place-preserved
loop-place-preserved g c = rw c.loop-place.invariant (fill_next c.loop-place.place-index c.args.value c.args.room.now (omega arith))

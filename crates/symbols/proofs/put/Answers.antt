-- The proof of `put`.
use Rattle.std.proofs.Common.{arith, refl, ◌*◌}
use Rattle.symbols.proofs.Adding.{put_down}
use Rattle.symbols.proofs.put.Goals as goal

pub returns : goal.returns
returns c = rw (← c.number.ensures) (put_down (12 * c.args.k) c.args.table.now _ _ (omega arith) c.copy_from_slice.ensures.after refl)

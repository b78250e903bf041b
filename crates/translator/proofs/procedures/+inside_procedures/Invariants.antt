-- The proof of the cycle of calls of blocks and procedures. The measure is twice the numbers that are left from the node on, and the member's rank.
use Prim.Native.Nat.{◌+◌, ◌*◌, ◌-◌}
use lib.ListN.{length}
use Rattle.translator.proofs.procedures.+inside_procedures.Given as goal

abbrev pub decreases-inside : goal.decreases-inside
decreases-inside l = 2 * (length l.source.now.tree.now - l.i) + 1

abbrev pub decreases-procedures : goal.decreases-procedures
decreases-procedures l = 2 * (length l.source.now.tree.now - l.i)

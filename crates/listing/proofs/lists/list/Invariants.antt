-- `lists::list` meets its contract. The loop's invariant: so many lines are written, and the definition goes on from there.
use Rattle.pcode.specs.Code.{instrs_in}
use Rattle.listing.proofs.Standing.{Stands}
use Rattle.listing.proofs.lists.list.Given as goal

abbrev pub invariant-loop-i : goal.invariant-loop-i
invariant-loop-i l = Stands (instrs_in (record { kinds = l.kinds; levels = l.levels; operands = l.operands })) l.initial.out l.i l.at l.out

-- `counted`: each pause is on the way of the run. The measure is the budget left there.
use lib.ListN.{length}
use Rattle.pcode.specs.Code.{instrs_in}
use Rattle.pcode.specs.Coded.{lent}
use Rattle.machine.specs.Talks.{taped}
use Rattle.machine.specs.Runs.{paused_of, left_of}
use Rattle.machine.proofs.RunLaws.{Live}
use Rattle.machine.proofs.runs.counted.Given as goal

abbrev pub invariant-loop-p : goal.invariant-loop-p
invariant-loop-p l = Live (instrs_in (lent l.code)) l.input l.budget l.initial.out (paused_of (instrs_in (lent l.code)) (length l.initial.out) l.initial.p l.initial.cells (taped l.initial.t l.initial.out l.input)) l.t l.p l.cells l.out

abbrev pub decreases-loop-p : goal.decreases-loop-p
decreases-loop-p l = left_of l.p

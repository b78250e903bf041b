-- `quiet`: the run from the start is the run from the frame reached, with the budget that is left. The measure is that budget.
use Prim.Native.Nat.{◌≤◌}
use Rattle.pcode.specs.Code.{instrs_in}
use Rattle.pcode.specs.Coded.{lent}
use Rattle.machine.specs.Frames.{Sound}
use Rattle.machine.proofs.RunLaws.{Quiet}
use Rattle.machine.proofs.runs.quiet.Given as goal

abbrev pub invariant-loop-left : goal.invariant-loop-left
invariant-loop-left l = Sound l.f × (l.left ≤ l.budget) × Quiet (instrs_in (lent l.code)) l.budget l.initial.f l.initial.cells l.left l.f l.cells

abbrev pub decreases-loop-left : goal.decreases-loop-left
decreases-loop-left l = l.left

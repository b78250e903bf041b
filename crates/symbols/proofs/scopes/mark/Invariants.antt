-- The proof of `mark`.
use Rattle.symbols.proofs.Seeing.{Marking}
use Rattle.symbols.proofs.scopes.mark.Given as goal

abbrev pub invariant-loop-p : goal.invariant-loop-p
invariant-loop-p l = Marking l.initial.table l.scope l.table l.p

abbrev pub decreases-loop-p : goal.decreases-loop-p
decreases-loop-p l = l.p

-- The proof of `clear`.
use Rattle.symbols.specs.Steps.{Cleared}
use Rattle.symbols.proofs.scopes.clear.Given as goal

abbrev pub invariant-loop-k : goal.invariant-loop-k
invariant-loop-k l = Cleared l.initial.table l.k l.table

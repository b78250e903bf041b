-- The proof of `open_rows`.
use Rattle.symbols.proofs.Seeing.{Opening}
use Rattle.symbols.proofs.scopes.open_rows.Given as goal

abbrev pub invariant-loop-k : goal.invariant-loop-k
invariant-loop-k l = Opening l.initial.table l.table l.k

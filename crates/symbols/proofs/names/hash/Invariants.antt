-- The proof of `hash`.
use Rattle.std.proofs.Common.{◌≡◌, drop}
use Rattle.symbols.specs.Table.{hash_from, hash_of}
use Rattle.symbols.proofs.names.hash.Given as goal

abbrev pub invariant-loop-b : goal.invariant-loop-b
invariant-loop-b l = hash_from l.h (drop l.b-index l.name) ≡ hash_of l.name

-- The proof of `hash`.
use Rattle.symbols.proofs.Spelling.{hash_more, hash_end}
use Rattle.symbols.proofs.names.hash.Goals as goal

pub loop-b-preserved : goal.loop-b-preserved
loop-b-preserved c = hash_more _ _ _ _ c.loop-b-test.true c.from.ensures c.loop-b.invariant

pub returns : goal.returns
returns c = hash_end _ _ _ c.loop-b-test.false c.loop-b.invariant

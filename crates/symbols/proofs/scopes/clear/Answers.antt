-- The proof of `clear`.
use Rattle.std.proofs.Common.{arith}
use Rattle.symbols.proofs.Seeing.{plain_length, clear_start, clear_more, clear_end}
use Rattle.symbols.proofs.scopes.clear.Goals as goal

pub loop-k-init : goal.loop-k-init
loop-k-init c = clear_start _

pub loop-k-preserved : goal.loop-k-preserved
loop-k-preserved c = clear_more _ _ _ (omega (arith, plain_length c.loop-k.invariant.plain)) c.loop-k.invariant

pub returns : goal.returns
returns c = clear_end _ _ _ _ c.loop-k-test.false c.loop-k.invariant

-- The proof of `newest`.
use Rattle.std.proofs.Common.{arith}
use Rattle.symbols.specs.Steps.{found, nowhere}
use Rattle.symbols.proofs.newest.Goals as goal

pub returns-then-passes : goal.returns-then-passes
returns-then-passes g c = found (omega arith) c.if-passes.ensures (λ j a b. c.loop-k.invariant j (omega arith) b)

pub returns : goal.returns
returns g c = nowhere (λ j b. c.loop-k.invariant j (omega arith) b)

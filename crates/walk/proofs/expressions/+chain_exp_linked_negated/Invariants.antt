-- The measure is three times the numbers that are left from the node on, and the member's rank.
use Prim.Native.Nat.{◌+◌, ◌*◌, ◌-◌}
use lib.ListN.{length}
use Rattle.walk.specs.Meets.{rows_of}
use Rattle.walk.proofs.Exps.{Loop}
use Rattle.walk.proofs.expressions.+chain_exp_linked_negated.Given as goal

abbrev pub decreases-chain : goal.decreases-chain
decreases-chain l = 3 * (length l.env.now.tree.now - l.i)

abbrev pub decreases-exp : goal.decreases-exp
decreases-exp l = 3 * (length l.env.now.tree.now - l.i) + 1

abbrev pub decreases-linked : goal.decreases-linked
decreases-linked l = 3 * (length l.env.now.tree.now - l.j) + 2

abbrev pub decreases-negated : goal.decreases-negated
decreases-negated l = 3 * (length l.env.now.tree.now - l.i) + 2

abbrev pub invariant-chain-loop : goal.invariant-chain-loop
invariant-chain-loop l = Loop (rows_of l.env) l.env.text.now l.env.tree.now l.vars l.env l.i l.count l.initial.x l.initial.clock l.counter l.j l.x l.clock

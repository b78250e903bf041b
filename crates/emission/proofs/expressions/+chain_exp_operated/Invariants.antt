-- The proof of the cycle of calls of expressions. The measure is three times the numbers that are left from the node on, and the member's rank.
use Rattle.std.proofs.Common.{◌+◌, ◌*◌, ◌-◌, length}
use Rattle.emission.specs.Meets.{here_of}
use Rattle.emission.proofs.Lists.{Loop}
use Rattle.emission.proofs.Exps.{Links}
use Rattle.emission.proofs.expressions.+chain_exp_operated.Given as goal

abbrev pub decreases-chain : goal.decreases-chain
decreases-chain l = 3 * (length l.env.now.tree.now - l.i)

abbrev pub decreases-exp : goal.decreases-exp
decreases-exp l = 3 * (length l.env.now.tree.now - l.i) + 1

abbrev pub decreases-operated : goal.decreases-operated
decreases-operated l = 3 * (length l.env.now.tree.now - l.i) + 2

abbrev pub invariant-chain-loop : goal.invariant-chain-loop
invariant-chain-loop l = Loop (Links l.env.text.now l.env.tree.now (here_of l.env) l.i) l.end l.i l.initial.m l.initial.draft l.counter l.j l.m l.draft

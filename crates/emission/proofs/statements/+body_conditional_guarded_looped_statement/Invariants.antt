-- The proof of the cycle of calls of statements. The measure is four times the numbers that are left from the node on, and the member's rank.
use Prim.Native.Nat.{◌+◌, ◌*◌, ◌-◌}
use lib.ListN.{length}
use Rattle.emission.specs.Meets.{here_of}
use Rattle.emission.proofs.Lists.{Loop}
use Rattle.emission.proofs.Stmts.{Body}
use Rattle.emission.proofs.statements.+body_conditional_guarded_looped_statement.Given as goal

abbrev pub decreases-body : goal.decreases-body
decreases-body l = 4 * (length l.env.now.tree.now - l.i) + 1

abbrev pub decreases-conditional : goal.decreases-conditional
decreases-conditional l = 4 * (length l.env.now.tree.now - l.i) + 2

abbrev pub decreases-guarded : goal.decreases-guarded
decreases-guarded l = 4 * (length l.env.now.tree.now - l.i) + 1

abbrev pub decreases-looped : goal.decreases-looped
decreases-looped l = 4 * (length l.env.now.tree.now - l.i) + 2

abbrev pub decreases-statement : goal.decreases-statement
decreases-statement l = 4 * (length l.env.now.tree.now - l.i) + 3

abbrev pub invariant-body-loop : goal.invariant-body-loop
invariant-body-loop l = Loop (Body l.env.text.now l.env.tree.now (here_of l.env) l.i) l.end l.i l.n l.initial.draft l.counter l.j l.m l.draft

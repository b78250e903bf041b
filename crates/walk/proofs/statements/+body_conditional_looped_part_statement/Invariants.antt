-- The measure is four times the numbers that are left from the node on, and the member's rank.
use mathlib.Core.Path.{◌≡◌}
use Prim.Native.Nat.{◌+◌, ◌*◌, ◌-◌}
use lib.ListN.{length}
use Rattle.walk.specs.Meets.{rows_of}
use Rattle.walk.proofs.Flow.{Laps}
use Rattle.walk.proofs.Bodies.{BodyLoop}
use Rattle.walk.proofs.statements.+body_conditional_looped_part_statement.Given as goal

abbrev pub decreases-body : goal.decreases-body
decreases-body l = 4 * (length l.env.now.tree.now - l.i) + 1

abbrev pub decreases-conditional : goal.decreases-conditional
decreases-conditional l = 4 * (length l.env.now.tree.now - l.i) + 1

abbrev pub decreases-looped : goal.decreases-looped
decreases-looped l = 4 * (length l.env.now.tree.now - l.i) + 1

abbrev pub decreases-part : goal.decreases-part
decreases-part l = 4 * (length l.env.now.tree.now - l.i) + 3

abbrev pub decreases-statement : goal.decreases-statement
decreases-statement l = 4 * (length l.env.now.tree.now - l.i) + 2

abbrev pub invariant-body-loop : goal.invariant-body-loop
invariant-body-loop l = (length l.vars ≡ length l.initial.vars) × (length l.out ≡ length l.initial.out) × BodyLoop (rows_of l.env) l.env.text.now l.env.tree.now l.env l.input l.i l.count l.initial.vars l.initial.out l.initial.progress l.counter l.j l.vars l.out l.progress

abbrev pub invariant-looped-loop-progress : goal.invariant-looped-loop-progress
invariant-looped-loop-progress l = (length l.vars ≡ length l.initial.vars) × (length l.out ≡ length l.initial.out) × Laps (rows_of l.env) l.env.text.now l.env.tree.now l.i l.env l.input l.initial.vars l.initial.out l.initial.progress l.vars l.out l.progress

abbrev pub decreases-looped-loop-progress : goal.decreases-looped-loop-progress
decreases-looped-loop-progress l = l.progress.clock.left

-- The proof of `push`.
use mir.Syntax.{w64}
use mir.ValLaws.{to_z-of_z}
use Rattle.walk.proofs.Steps.{push_spent, push_full, push_on}
use Rattle.walk.proofs.expressions.push.Goals as goal

pub returns-then-clock-eq0 : goal.returns-then-clock-eq0
returns-then-clock-eq0 c = λ w t. push_spent _ c.args.clock.now w t _ c.if-clock-eq0.true

pub returns-then-clock-ge-CELLS : goal.returns-then-clock-ge-CELLS
returns-then-clock-ge-CELLS c = λ w t. push_full _ c.args.clock.now w t _ c.if-clock-eq0.false c.if-clock-ge-CELLS.true

pub returns : goal.returns
returns c = λ w t. push_on _ c.args.clock.now w t _ (to_z-of_z w64 _ c.ranges.z) c.if-clock-eq0.false c.if-clock-ge-CELLS.false

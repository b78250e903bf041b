-- The proof of `tick`.
use mathlib.Core.Path.{refl}
use Prim.Native.Nat.{◌-◌}
use Rattle.walk.specs.Walk.{at_top}
use Rattle.walk.proofs.Ends.{spent, step_done}
use Rattle.walk.proofs.progress.tick.Goals as goal

pub returns-then-progress-eq0 : goal.returns-then-progress-eq0
returns-then-progress-eq0 c = λ e input lv lo vars out w h. spent h (at_top c.args.top w) c.if-progress-eq0.true

pub returns : goal.returns
returns c = λ e input lv lo vars out w h. step_done h (record { left = c.args.progress.now.clock.left - 1; top = c.args.top }) refl c.if-progress-eq0.false tt

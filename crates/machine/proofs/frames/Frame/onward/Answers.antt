-- `onward`: one place on.
use native.Mathlib.Numerals.{add-one}
use Rattle.machine.proofs.frames.Frame.onward.Goals as goal

pub returns : goal.returns
returns c = rw (add-one c.args.self.pc)

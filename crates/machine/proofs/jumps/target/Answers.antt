-- `target`: below 0, past the list, or a place of it.
use mathlib.Core.Path.{refl}
use lib.IntN.{pos}
use mir.Syntax.{w64}
use mir.ValLaws.{to_z-of_z}
use lib.Signed.{lt_z}
use Rattle.machine.proofs.CellLaws.{read}
use Rattle.machine.proofs.StepLaws.{inside_low, inside_past, inside_in}
use Rattle.machine.proofs.jumps.target.Goals as goal

pub returns-then-a-lt0 : goal.returns-then-a-lt0
returns-then-a-lt0 c = (inside_low c.args.places c.args.a (read (λ z. lt_z z (pos 0)) c.args.a c.ranges.a c.if-a-lt0.true), refl)

pub returns-then-places-to : goal.returns-then-places-to
returns-then-places-to c = (inside_past c.args.places c.args.a (read (λ z. lt_z z (pos 0)) c.args.a c.ranges.a c.if-a-lt0.false) (rw (to_z-of_z w64 c.args.a c.ranges.a) at c.if-places-to.true), refl)

pub returns : goal.returns
returns c = rw (to_z-of_z w64 c.args.a c.ranges.a) (inside_in c.args.places c.args.a (read (λ z. lt_z z (pos 0)) c.args.a c.ranges.a c.if-a-lt0.false) (rw (to_z-of_z w64 c.args.a c.ranges.a) at c.if-places-to.false))

-- `int`: a top up to 4,096.
use lib.IntN.{pos}
use mir.Syntax.{w64}
use mir.ValLaws.{to_z-of_z}
use lib.Signed.{lt_z}
use Rattle.machine.proofs.CellLaws.{read}
use Rattle.machine.proofs.StepLaws.{int_low, int_high, int_on}
use Rattle.machine.proofs.stack.int.Goals as goal

pub returns-then-a-lt0 : goal.returns-then-a-lt0
returns-then-a-lt0 c =
    let a = c.args in
    λ code room cells. int_low code room a.f cells a.a (read (λ z. lt_z z (pos 0)) a.a c.ranges.a c.if-a-lt0.true)

pub returns-then-top-gt-CELLS : goal.returns-then-top-gt-CELLS
returns-then-top-gt-CELLS c =
    let a = c.args in
    λ code room cells. int_high code room a.f cells a.a (read (λ z. lt_z z (pos 0)) a.a c.ranges.a c.if-a-lt0.false) (rw (to_z-of_z w64 a.a c.ranges.a) at c.if-top-gt-CELLS.true)

pub returns : goal.returns
returns c =
    let a = c.args in
    λ code room cells. rw (c.onward.ensures, to_z-of_z w64 a.a c.ranges.a) (int_on code room a.f cells a.a (read (λ z. lt_z z (pos 0)) a.a c.ranges.a c.if-a-lt0.false) (rw (to_z-of_z w64 a.a c.ranges.a) at c.if-top-gt-CELLS.false))

-- `from`: below 0 there is no cell, and else the sum says which.
use mathlib.Core.Path.{refl, ◌∙◌}
use lib.IntN.{pos}
use lib.Signed.{lt_z}
use mir.Syntax.{w64}
use mir.ValLaws.{to_z-of_z}
use Rattle.machine.proofs.CellLaws.{read, low_base, low_operand, sum_cell, cell_in, cell_out}
use Rattle.machine.proofs.frames.from.Goals as goal
use Rattle.machine.proofs.frames.from.Goals.{then-base-lt0-via-then-base-lt0, then-base-lt0-via-else-base-lt0+then-a-lt0}

pub returns-then-base-lt0 : goal.returns-then-base-lt0
returns-then-base-lt0 c =
    let b = c.args.base in
    let a = c.args.a in
    elim c.then-base-lt0.branch [
      | then-base-lt0-via-then-base-lt0 w ↦ (low_base b a (read (λ z. lt_z z (pos 0)) b c.ranges.base w.if-base-lt0.true), refl)
      | then-base-lt0-via-else-base-lt0+then-a-lt0 w ↦ (low_operand b a (read (λ z. lt_z z (pos 0)) a c.ranges.a w.if-a-lt0.true), refl)
    ]

pub returns-then-i-ge-CELLS : goal.returns-then-i-ge-CELLS
returns-then-i-ge-CELLS c =
    let b = c.args.base in
    let a = c.args.a in
    let h = rw (to_z-of_z w64 b c.ranges.base, to_z-of_z w64 a c.ranges.a) at c.if-i-ge-CELLS.true in
    (sum_cell b a (read (λ z. lt_z z (pos 0)) b c.ranges.base c.if-base-lt0.false) (read (λ z. lt_z z (pos 0)) a c.ranges.a c.if-a-lt0.false) ∙ cell_out h, refl)

pub returns : goal.returns
returns c =
    let b = c.args.base in
    let a = c.args.a in
    let h = rw (to_z-of_z w64 b c.ranges.base, to_z-of_z w64 a c.ranges.a) at c.if-i-ge-CELLS.false in
    rw (to_z-of_z w64 b c.ranges.base, to_z-of_z w64 a c.ranges.a) (sum_cell b a (read (λ z. lt_z z (pos 0)) b c.ranges.base c.if-base-lt0.false) (read (λ z. lt_z z (pos 0)) a c.ranges.a c.if-a-lt0.false) ∙ cell_in h, h)

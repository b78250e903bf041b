-- `Page::put_cut` meets its contract, by the sign.
use mathlib.Core.Path.{ap, ◌∙◌}
use mathlib.Core.List.{◌∷◌}
use Prim.Native.Nat.{ℕ}
use lib.IntN.{nat_abs}
use mir.Syntax.{w64}
use mir.ValLaws.{to_z-of_z}
use Rattle.desk.specs.Page.{count}
use Rattle.desk.proofs.Pages.{then, said}
use Rattle.desk.proofs.Figures.{number_negative, number_positive}
use Rattle.desk.proofs.page.Page.put_cut.Goals as goal
use Rattle.desk.proofs.page.Page.put_cut.Goals.{then-x-lt0, else-x-lt0}

pub returns : goal.returns
returns c =
    let x = to_z-of_z w64 c.args.x c.ranges.x in
    let size = c.unsigned_abs.ensures.value ∙ ap nat_abs x in
    elim c.if-x-lt0.branch [
      | then-x-lt0 w ↦
          said (ap (λ (n : ℕ). 45 ∷ count n) size ∙ number_negative c.args.x (rw x at w.if-x-lt0.true))
          (then w.put.ensures (rw w.self-is at c.put_count.ensures))
      | else-x-lt0 w ↦ said (ap count size ∙ number_positive c.args.x (rw x at w.if-x-lt0.false)) (rw w.self-is at c.put_count.ensures)
    ]

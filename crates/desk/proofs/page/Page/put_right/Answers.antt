-- `Page::put_right` meets its contract: blanks, then the digits.
use mathlib.Core.Path.{ap, ◌∙◌}
use native.Mathlib.Omega.{arith}
use lib.ListN.{length}
use Rattle.desk.proofs.Pages.{then, said}
use Rattle.desk.proofs.Figures.{figures, right_short, right_long}
use Rattle.desk.proofs.page.Page.put_right.Goals as goal
use Rattle.desk.proofs.page.Page.put_right.Goals.{then-k-lt-COLUMN, else-k-lt-COLUMN}

pub returns : goal.returns
returns c =
    let k = c.decimal-k in
    let digits = k.ensures.digits ∙ figures c.args.n k.result c.ranges.n.fits k.ensures.len in
    let size = k.ensures.in_bounds.1 ∙ ap length digits in
    elim c.if-k-lt-COLUMN.branch [
      | then-k-lt-COLUMN w ↦ said (right_short c.args.n k.result size w.if-k-lt-COLUMN.true) (then w.put.ensures (said digits (rw w.self-is at c.put-2.ensures)))
      | else-k-lt-COLUMN w ↦ said (digits ∙ right_long c.args.n (omega (arith, size, w.if-k-lt-COLUMN.false))) (rw w.self-is at c.put-2.ensures)
    ]

-- `Page::put_row` meets its contract: one part after the other.
use mathlib.Core.Path.{ap}
use Rattle.numbers.specs.Bytes.{bytes}
use Rattle.desk.specs.Page.{count}
use Rattle.desk.specs.Table.{row}
use Rattle.desk.proofs.Pages.{then, said}
use Rattle.desk.proofs.page.Page.put_row.Goals as goal

pub returns : goal.returns
unfolding row bytes
returns c =
    let number = said (ap count c.from.ensures) c.put_count.ensures in
    then (then (then number c.put.ensures) c.put_meaning.ensures) c.put-2.ensures

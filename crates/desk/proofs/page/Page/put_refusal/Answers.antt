-- `Page::put_refusal` meets its contract: one part after the other.
use mathlib.Core.Path.{ap}
use Rattle.numbers.specs.Bytes.{bytes}
use Rattle.desk.specs.Page.{count}
use Rattle.desk.specs.Table.{refusal}
use Rattle.desk.proofs.Pages.{then, said}
use Rattle.desk.proofs.page.Page.put_refusal.Goals as goal

pub returns : goal.returns
unfolding refusal bytes
returns c =
    let number = said (ap count c.from.ensures) c.put_count.ensures in
    then (then (then (then (then c.put.ensures c.put-2.ensures) number) c.put-3.ensures) c.put_meaning.ensures) c.put-4.ensures

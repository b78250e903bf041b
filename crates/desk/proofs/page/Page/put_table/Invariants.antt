-- `Page::put_table` keeps to the page's room.
use Rattle.desk.specs.Page.{SameRoom}
use Rattle.desk.proofs.page.Page.put_table.Given as goal

abbrev pub invariant-loop-number : goal.invariant-loop-number
invariant-loop-number l = SameRoom l.initial.self l.self

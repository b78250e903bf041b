-- `Page::put_listing` keeps to the page's room.
use Rattle.desk.specs.Page.{SameRoom}
use Rattle.desk.proofs.page.Page.put_listing.Given as goal

abbrev pub invariant-loop-i : goal.invariant-loop-i
invariant-loop-i l = SameRoom l.initial.self l.self

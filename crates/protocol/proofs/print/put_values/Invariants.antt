-- `print::put_values` keeps to the page's room.
use Rattle.desk.specs.Page.{SameRoom}
use Rattle.protocol.proofs.print.put_values.Given as goal

abbrev pub invariant-loop-x : goal.invariant-loop-x
invariant-loop-x l = SameRoom l.initial.page l.page

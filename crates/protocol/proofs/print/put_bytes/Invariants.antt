-- `print::put_bytes` keeps to the page's room.
use Rattle.desk.specs.Page.{SameRoom}
use Rattle.protocol.proofs.print.put_bytes.Given as goal

abbrev pub invariant-loop-b : goal.invariant-loop-b
invariant-loop-b l = SameRoom l.initial.page l.page

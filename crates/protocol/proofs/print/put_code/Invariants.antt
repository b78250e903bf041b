-- `print::put_code` keeps to the page's room.
use Rattle.desk.specs.Page.{SameRoom}
use Rattle.protocol.proofs.print.put_code.Given as goal

abbrev pub invariant-loop-i : goal.invariant-loop-i
invariant-loop-i l = SameRoom l.initial.page l.page

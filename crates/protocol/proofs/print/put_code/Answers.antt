-- `print::put_code` reads within each part of the code list.
use Rattle.std.proofs.Common.{arith}
use Rattle.pcode.specs.PlaceLaws.{in_kinds, in_levels, in_operands}
use Rattle.pcode.specs.Coded.{lent}
use Rattle.protocol.proofs.print.put_code.Goals as goal

pub bounds-code-i : goal.bounds-code-i
bounds-code-i c = omega (arith, in_kinds (lent c.args.code), c.len-i-end.ensures, c.loop-i-test.true, c.loop-i.auto.i-end)

pub offset_bounds-code-i : goal.offset_bounds-code-i
offset_bounds-code-i c = omega (arith, in_levels (lent c.args.code), c.len-i-end.ensures, c.loop-i-test.true, c.loop-i.auto.i-end)

pub bounds-code-i-in-loop-i : goal.bounds-code-i-in-loop-i
bounds-code-i-in-loop-i c = omega (arith, in_levels (lent c.args.code), c.len-i-end.ensures, c.loop-i-test.true, c.loop-i.auto.i-end)

pub offset_bounds-code-i-in-loop-i : goal.offset_bounds-code-i-in-loop-i
offset_bounds-code-i-in-loop-i c = omega (arith, in_operands (lent c.args.code), c.len-i-end.ensures, c.loop-i-test.true, c.loop-i.auto.i-end)

pub bounds-code-i-in-loop-i-2 : goal.bounds-code-i-in-loop-i-2
bounds-code-i-in-loop-i-2 c = omega (arith, in_operands (lent c.args.code), c.len-i-end.ensures, c.loop-i-test.true, c.loop-i.auto.i-end)

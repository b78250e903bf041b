-- The proof of `is_ascii`.
use Rattle.std.proofs.Common.{rules, tests}
use Rattle.parser.proofs.Entering.{ascii_more, ascii_past}
use Rattle.parser.proofs.is_ascii.Goals as goal

pub loop-b-preserved : goal.loop-b-preserved
loop-b-preserved c = search (rules, tests, ascii_more c.args.text.now c.loop-b.b-index c.loop-b.ascii c.loop-b.invariant)

pub returns : goal.returns
returns c = ascii_past _ _ _ c.loop-b.invariant c.loop-b-test.false

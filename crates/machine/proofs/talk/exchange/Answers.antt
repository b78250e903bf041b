-- `exchange`: each kind meets its definition.
use mir.Syntax.{w64}
use mir.Val.{SFits}
use mir.ValLaws.{to_z-of_z}
use borrow.Author.Rules.{rules}
use Rattle.machine.proofs.talk.exchange.Goals as goal

pub read-requires : goal.read-requires
read-requires c =
    let k = rw c.in-Read.is at c.requires.2 in
    (c.requires.0, c.requires.1, k.0, k.1, c.requires.3)

pub returns-in-Write : goal.returns-in-Write
returns-in-Write c =
    let z = c.in-Write.z in
    let h : SFits w64 z = search rules in
    rw c.in-Write.is (rw (to_z-of_z w64 z h) at (c.write.ensures c.args.input.now c.args.cells.now))

pub returns-in-NewLine : goal.returns-in-NewLine
returns-in-NewLine c = rw c.in-NewLine.is (c.newline.ensures c.args.input.now c.args.cells.now)

pub returns-in-Read : goal.returns-in-Read
returns-in-Read c = rw c.in-Read.is c.read.ensures

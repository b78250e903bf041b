-- `parse` meets its contract.
use mathlib.Core.Path.{refl}
use native.Mathlib.Omega.{arith}
use Rattle.numbers.proofs.Putting.{filled_part}
use Rattle.parser.proofs.Entering.{parses}
use Rattle.parser.proofs.parse.Goals as goal

pub returns : goal.returns
returns c =
    let a = c.read_tree-read.ensures in
    parses _ c.if-tree-lt-TREE_PLACES.false c.read_tree-read.auto.tree a c.unwrap_or.ensures
    (filled_part c.unwrap_or.result 98400 0 c.read_tree-read.new.tree (omega (arith, c.unwrap_or.ensures, a.within)) (omega (arith, c.read_tree-read.auto.tree, c.if-tree-lt-TREE_PLACES.false)) c.clear.ensures refl)

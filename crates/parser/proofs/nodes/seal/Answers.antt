-- `nodes::seal` meets its contract.
use native.Mathlib.Omega.{arith}
use lib.ListN.{length-set}
use Rattle.parser.proofs.Writing.{seals}
use Rattle.parser.proofs.nodes.seal.Goals as goal

pub bounds-tree-i-2 : goal.bounds-tree-i-2
bounds-tree-i-2 c =
    simp length-set (omega arith)

pub bounds-tree-i-3 : goal.bounds-tree-i-3
bounds-tree-i-3 c =
    simp length-set (omega arith)

pub bounds-tree-i-4 : goal.bounds-tree-i-4
bounds-tree-i-4 c =
    simp length-set (omega arith)

pub returns : goal.returns
returns c =
    rw c.number.ensures (seals _ _ _ _ _ _ c.requires.i_bound.0 c.requires.i_bound.1)

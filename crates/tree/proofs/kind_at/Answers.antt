-- The proof of `kind_at`: a node's first number is one of 1 to 19.
use native.Mathlib.Omega.{arith}
use Rattle.tree.specs.Reading.{node_fits, size_least}
use Rattle.tree.specs.Kinds.{first_is}
use Rattle.tree.proofs.kind_at.Goals as goal

pub offset_bounds-tree-i : goal.offset_bounds-tree-i
offset_bounds-tree-i c = omega (arith, node_fits _ _ _ c.requires.1, size_least c.requires.0, c.well_formed)

pub bounds-tree-i : goal.bounds-tree-i
bounds-tree-i c = omega (arith, node_fits _ _ _ c.requires.1, size_least c.requires.0, c.well_formed)

pub unreachable-requires : goal.unreachable-requires
unreachable-requires c = omega (arith, first_is _ _ _ c.requires.1)

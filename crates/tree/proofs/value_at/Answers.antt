-- The proof of `value_at`: a literal is its low half and its high half.
use native.Mathlib.Omega.{arith}
use Rattle.tree.specs.Reading.{literal_at}
use Rattle.tree.proofs.Literals.{value_is, value_back}
use Rattle.tree.proofs.value_at.Goals as goal

pub overflow_add-low : goal.overflow_add-low
overflow_add-low c = omega (arith, (literal_at _ _ _ _ c.requires.2).fits, c.well_formed)

pub offset_bounds-tree-i : goal.offset_bounds-tree-i
offset_bounds-tree-i c = omega (arith, (literal_at _ _ _ _ c.requires.2).fits, c.well_formed)

pub bounds-tree-i : goal.bounds-tree-i
bounds-tree-i c = omega (arith, (literal_at _ _ _ _ c.requires.2).fits, c.well_formed)

pub overflow_add-high : goal.overflow_add-high
overflow_add-high c = omega (arith, (literal_at _ _ _ _ c.requires.2).fits, c.well_formed)

pub offset_bounds-tree-i-2 : goal.offset_bounds-tree-i-2
offset_bounds-tree-i-2 c = omega (arith, (literal_at _ _ _ _ c.requires.2).fits, c.well_formed)

pub bounds-tree-i-2 : goal.bounds-tree-i-2
bounds-tree-i-2 c = omega (arith, (literal_at _ _ _ _ c.requires.2).fits, c.well_formed)

pub overflow_cast-result : goal.overflow_cast-result
overflow_cast-result c = omega (arith, value_is _ _ _ _ c.requires.2, c.requires.3)

pub returns : goal.returns
returns c = value_back _ _ _ _ c.requires.2 c.requires.3

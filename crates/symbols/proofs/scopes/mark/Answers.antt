-- The proof of `mark`.
use Rattle.std.proofs.Common.{arith, refl}
use Rattle.symbols.proofs.Seeing.{plain_length, mark_start, mark_lies, mark_small, mark_first, mark_less, mark_more, mark_end}
use Rattle.symbols.proofs.scopes.mark.Goals as goal

pub loop-p-init : goal.loop-p-init
loop-p-init c = mark_start _ _ _ refl c.requires

pub overflow_sub-p : goal.overflow_sub-p
overflow_sub-p c = omega (arith, mark_lies _ _ _ _ c.requires c.loop-p.invariant c.loop-p-test.true)

pub overflow_mul-p : goal.overflow_mul-p
overflow_mul-p c = omega (arith, mark_lies _ _ _ _ c.requires c.loop-p.invariant c.loop-p-test.true)

pub overflow_add-p : goal.overflow_add-p
overflow_add-p c = omega (arith, mark_lies _ _ _ _ c.requires c.loop-p.invariant c.loop-p-test.true)

pub offset_bounds-table-p : goal.offset_bounds-table-p
offset_bounds-table-p c = omega (arith, mark_lies _ _ _ _ c.requires c.loop-p.invariant c.loop-p-test.true)

pub bounds-table-p : goal.bounds-table-p
bounds-table-p c = omega (arith, mark_lies _ _ _ _ c.requires c.loop-p.invariant c.loop-p-test.true)

pub overflow_mul-table : goal.overflow_mul-table
overflow_mul-table c = omega (arith, mark_small _ _ _ _ c.requires c.loop-p.invariant c.loop-p-test.true _ refl, mark_first _ _ _ _ c.requires c.loop-p.invariant c.loop-p-test.true _ refl)

pub overflow_add-table : goal.overflow_add-table
overflow_add-table c = omega (arith, mark_small _ _ _ _ c.requires c.loop-p.invariant c.loop-p-test.true _ refl, mark_first _ _ _ _ c.requires c.loop-p.invariant c.loop-p-test.true _ refl)

pub offset_bounds-table-first : goal.offset_bounds-table-first
offset_bounds-table-first c = omega (arith, mark_small _ _ _ _ c.requires c.loop-p.invariant c.loop-p-test.true _ refl, mark_first _ _ _ _ c.requires c.loop-p.invariant c.loop-p-test.true _ refl)

pub bounds-table-first : goal.bounds-table-first
bounds-table-first c = omega (arith, mark_small _ _ _ _ c.requires c.loop-p.invariant c.loop-p-test.true _ refl, mark_first _ _ _ _ c.requires c.loop-p.invariant c.loop-p-test.true _ refl)

pub loop-p-smaller : goal.loop-p-smaller
loop-p-smaller c = mark_less _ _ _ _ c.requires c.loop-p.invariant c.loop-p-test.true _ refl _ refl

pub loop-p-preserved : goal.loop-p-preserved
loop-p-preserved c = mark_more _ _ _ _ c.requires c.loop-p.invariant c.loop-p-test.true _ refl _ refl

pub shape_of-table : goal.shape_of-table
shape_of-table c = plain_length c.loop-p.invariant.plain

pub returns : goal.returns
returns c = mark_end _ _ _ _ c.loop-p-test.false c.loop-p.invariant

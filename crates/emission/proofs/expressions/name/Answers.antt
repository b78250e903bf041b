-- The proof of `name`.
use Rattle.std.proofs.Common.{refl}
use Rattle.emission.specs.Passed.{passed}
use Rattle.symbols.specs.Table.{row_of}
use Rattle.emission.specs.Meets.{here_of}
use Rattle.emission.proofs.Places.{in_place}
use Rattle.emission.proofs.Lookup.{used_none, used_const, used_not, used_var}
use Rattle.emission.proofs.expressions.name.Goals as goal

pub returns-in_err-y : goal.returns-in_err-y
returns-in_err-y c =
    let q = in_place c.in_err-y.ensures.ok_part c.in_err-y.ensures.value in
    rw (passed c.from_residual.ensures.1, q) (used_none _ _ _ _ (rw c.in_err-y.ensures.ok_part at c.lookup.ensures))

pub returns-in-Constant : goal.returns-in-Constant
returns-in-Constant c = used_const _ (rw c.in_ok-y.ensures.ok_part at c.lookup.ensures) _ c.in-Constant.is c.emit_wide.ensures

pub returns-in-Variable : goal.returns-in-Variable
unfolding here_of row_of
returns-in-Variable c = used_var _ (rw c.in_ok-y.ensures.ok_part at c.lookup.ensures) _ c.in-Variable.is (c.reach.ensures _ (row_of _ _ _) refl refl)

pub returns-in-Procedure : goal.returns-in-Procedure
returns-in-Procedure c = used_not _ (rw c.in_ok-y.ensures.ok_part at c.lookup.ensures) _ _ _ c.in-Procedure.is

-- The proof of `store`.
use native.Mathlib.Omega.{arith}
use mir.Syntax.{w64}
use mir.ValLaws.{to_z-of_z}
use Rattle.std.proofs.lemmas.Result.{err_from_is_err_and}
use Rattle.tree.specs.Parts.{name_in_lem}
use Rattle.walk.proofs.Stores.{store_halt, store_on}
use Rattle.walk.proofs.storing.store.Goals as goal

pub returns-in_err-tick : goal.returns-in_err-tick
returns-in_err-tick c =
    let p = err_from_is_err_and c.from_residual.result c.from_residual.ensures.1 in
    λ n a input lv lo out w h. rw (p.1, p.2) (store_halt _ _ _ _ _ n a h c.tick.ensures c.in_err-tick.was)

pub overflow_add-i : goal.overflow_add-i
overflow_add-i c = omega (arith, (name_in_lem c.requires.has_name.at).1, c.well_formed)

pub offset_bounds-env-i : goal.offset_bounds-env-i
offset_bounds-env-i c = omega (arith, (name_in_lem c.requires.has_name.at).1, c.well_formed)

pub bounds-env-i : goal.bounds-env-i
bounds-env-i c = omega (arith, (name_in_lem c.requires.has_name.at).1, c.well_formed)

pub overflow_add-i-2 : goal.overflow_add-i-2
overflow_add-i-2 c = omega (arith, (name_in_lem c.requires.has_name.at).1, c.well_formed)

pub offset_bounds-env-i-2 : goal.offset_bounds-env-i-2
offset_bounds-env-i-2 c = omega (arith, (name_in_lem c.requires.has_name.at).1, c.well_formed)

pub bounds-env-i-2 : goal.bounds-env-i-2
bounds-env-i-2 c = omega (arith, (name_in_lem c.requires.has_name.at).1, c.well_formed)

pub place-k-requires-clause-len_in_bounds : goal.place-k-requires-clause-len_in_bounds
place-k-requires-clause-len_in_bounds c = (name_in_lem c.requires.has_name.at).0

pub returns : goal.returns
returns c = λ n a input lv lo out w h. store_on _ _ _ _ _ n a h c.tick.ensures _ _ _ c.in_ok-tick.was (to_z-of_z w64 _ c.ranges.z) c.place-k.ensures c.put_variable.ensures

-- The proof of `named`.
use native.Mathlib.Omega.{arith}
use Rattle.tree.specs.Parts.{name_in_lem}
use Rattle.emission.proofs.Sought.{looked}
use Rattle.emission.proofs.statements.named.Goals as goal

pub overflow_add-i : goal.overflow_add-i
overflow_add-i c = omega (arith, (name_in_lem c.requires.has_name.at).1, c.well_formed)

pub offset_bounds-env-i : goal.offset_bounds-env-i
offset_bounds-env-i c = omega (arith, (name_in_lem c.requires.has_name.at).1, c.well_formed)

pub bounds-env-i : goal.bounds-env-i
bounds-env-i c = omega (arith, (name_in_lem c.requires.has_name.at).1)

pub overflow_add-i-2 : goal.overflow_add-i-2
overflow_add-i-2 c = omega (arith, (name_in_lem c.requires.has_name.at).1, c.well_formed)

pub offset_bounds-env-i-2 : goal.offset_bounds-env-i-2
offset_bounds-env-i-2 c = omega (arith, (name_in_lem c.requires.has_name.at).1, c.well_formed)

pub bounds-env-i-2 : goal.bounds-env-i-2
bounds-env-i-2 c = omega (arith, (name_in_lem c.requires.has_name.at).1)

pub lookup-requires-clause-len_in_bounds : goal.lookup-requires-clause-len_in_bounds
lookup-requires-clause-len_in_bounds c = (name_in_lem c.requires.has_name.at).0

pub returns : goal.returns
returns c = looked c.args.env.now c.lookup.result c.ok_or.ensures.value c.lookup.ensures

-- The proof of `assign`.
use borrow.Author.Rules.{rules}
use native.Mathlib.Omega.{arith}
use mir.Syntax.{w64}
use mir.ValLaws.{to_z-of_z}
use Rattle.std.proofs.lemmas.Result.{err_from_is_err_and}
use Rattle.tree.specs.Parts.{has_assigned}
use Rattle.walk.proofs.Cells.{some_state}
use Rattle.walk.proofs.Exps.{went}
use Rattle.walk.proofs.Stores.{has_target, assign_stop, assign_on}
use Rattle.walk.proofs.storing.assign.Goals as goal

pub exp-requires-clause-has_exp : goal.exp-requires-clause-has_exp
exp-requires-clause-has_exp c = has_assigned c.requires.has_kind c.requires.has_stmt

pub returns-in_err-z : goal.returns-in_err-z
returns-in_err-z c =
    let p = err_from_is_err_and c.from_residual.result c.from_residual.ensures.1 in
    rw (p.1, p.2) (assign_stop _ _ _ _ c.args.env.now _ c.args.progress.now c.requires.has_kind c.exp.ensures c.in_err-z.was)

pub store-requires-clause-has_name : goal.store-requires-clause-has_name
store-requires-clause-has_name c = has_target c.requires.has_kind c.requires.has_stmt

pub store-requires-clause-le_top : goal.store-requires-clause-le_top
store-requires-clause-le_top c =
    let o = some_state _ c.args.env.now c.args.progress.now.clock c.requires.vars_in_bounds in
    omega (arith, (went c.in_ok-z.was (c.exp.ensures _ (has_assigned c.requires.has_kind c.requires.has_stmt).at o.0 o.1)).top)

pub returns : goal.returns
returns c = assign_on _ _ _ _ c.args.env.now _ c.args.progress.now c.requires.has_kind c.exp.ensures c.in_ok-z.was (to_z-of_z w64 c.in_ok-z.z (search rules)) c.store.ensures

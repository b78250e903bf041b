-- The proof of `walk_text`.
use mathlib.Core.Path.{refl}
use Rattle.std.proofs.lemmas.Result.{err_from_is_err_and}
use Rattle.engine.proofs.Walking.{ready_stands, ready_tree, walk_procs, walk_block_lem, walk_refused, unmoved, left_in_lem, moved}
use Rattle.engine.proofs.walks.walk_text.Goals as goal

pub returns-in_err-translated : goal.returns-in_err-translated
returns-in_err-translated c =
    let p = err_from_is_err_and c.from_residual.result c.from_residual.ensures.1 in
    rw (p.1, p.2) (unmoved _ c.args.input.now c.args.budget _ _ (walk_refused c.draft_text.ensures (c.in_err-translated.was) _ _ _) refl)

pub holds_procedure-requires : goal.holds_procedure-requires
holds_procedure-requires c = ready_stands c.draft_text.ensures (c.in_ok-translated.was)

pub returns-then-holds_procedure : goal.returns-then-holds_procedure
returns-then-holds_procedure c = unmoved _ c.args.input.now c.args.budget _ _ (walk_procs c.draft_text.ensures (c.in_ok-translated.was) c.holds_procedure.ensures _ _ _ (cc)) refl

pub walk_tree-end-requires-clause-has_tree : goal.walk_tree-end-requires-clause-has_tree
walk_tree-end-requires-clause-has_tree c = record { block = _; at = ready_tree c.draft_text.ensures (c.in_ok-translated.was) c.holds_procedure.ensures (cc) }

pub ended-requires : goal.ended-requires
ended-requires c = left_in_lem (c.walk_tree-end.ensures _ (ready_tree c.draft_text.ensures c.in_ok-translated.was c.holds_procedure.ensures (cc)))

pub returns : goal.returns
returns c =
    moved (walk_block_lem c.draft_text.ensures c.in_ok-translated.was c.holds_procedure.ensures _ _ _ (cc)) c.ended.ensures
    (c.walk_tree-end.ensures _ (ready_tree c.draft_text.ensures c.in_ok-translated.was c.holds_procedure.ensures (cc)))

-- The proof of `translate`.
use native.Mathlib.Omega.{arith}
use mathlib.Core.Path.{refl, ◌∙◌}
use Rattle.emission.specs.Passed.{passed}
use Rattle.translator.proofs.Insides.{consts_at, vars_at, procs_at}
use Rattle.translator.proofs.Whole.{block_inside, block_body, has_inside, has_main, never_full, block_start, block_stop, entered, env_known, body_stop, body_made}
use Rattle.translator.proofs.translate.Goals as goal

pub returns-in_err-m : goal.returns-in_err-m
returns-in_err-m c = λ b a. never_full c.in_err-m.ensures

pub inside-requires-clause-start : goal.inside-requires-clause-start
inside-requires-clause-start c = block_start c.args.text.now c.args.tree.now c.args.table.now c.args.draft.now c.requires.table_places_in_bounds.0 c.requires.table_places_in_bounds.1 c.in_ok-m.ensures c.emit.auto.draft

pub inside-requires-clause-has_inside : goal.inside-requires-clause-has_inside
inside-requires-clause-has_inside c = has_inside c.requires.has_block

pub returns-in_err-q : goal.returns-in_err-q
returns-in_err-q c = λ b a. rw (passed c.from_residual-in_err-q.ensures.1) (block_stop c.args.text.now c.args.tree.now c.args.table.now c.args.draft.now c.requires.table_places_in_bounds.0 c.requires.table_places_in_bounds.1 c.in_ok-m.ensures b (c.in_err-q.ensures _ _ _ (block_inside a)))

pub see-requires-clause-linked : goal.see-requires-clause-linked
see-requires-clause-linked c = (entered c.args.text.now c.args.tree.now c.args.table.now c.args.draft.now c.requires.table_places_in_bounds.0 c.requires.table_places_in_bounds.1 c.in_ok-m.ensures c.requires.has_block.block (c.in_ok-q.ensures _ _ _ (block_inside c.requires.has_block.at))).0.linked

pub fix-requires-clause-p_lt_max_code : goal.fix-requires-clause-p_lt_max_code
fix-requires-clause-p_lt_max_code c =
    let t = entered c.args.text.now c.args.tree.now c.args.table.now c.args.draft.now c.requires.table_places_in_bounds.0 c.requires.table_places_in_bounds.1 c.in_ok-m.ensures c.requires.has_block.block (c.in_ok-q.ensures _ _ _ (block_inside c.requires.has_block.at)) in
    (omega arith, omega (arith, t.1))

pub after-vars-requires : goal.after-vars-requires
after-vars-requires c = (_, (consts_at (block_inside c.requires.has_block.at)).stands)

pub after-requires : goal.after-requires
after-requires c = (_, (vars_at (block_inside c.requires.has_block.at) c.after-vars.ensures).stands)

pub after-main-requires : goal.after-main-requires
after-main-requires c = (_, (procs_at (block_inside c.requires.has_block.at) c.after-vars.ensures c.after.ensures).stands)

pub finish-requires-clause-ready : goal.finish-requires-clause-ready
finish-requires-clause-ready c =
    let t = entered c.args.text.now c.args.tree.now c.args.table.now c.args.draft.now c.requires.table_places_in_bounds.0 c.requires.table_places_in_bounds.1 c.in_ok-m.ensures c.requires.has_block.block (c.in_ok-q.ensures _ _ _ (block_inside c.requires.has_block.at)) in
    record { known = env_known c.args.text.now c.args.tree.now c.args.table.now c.args.draft.now c.requires.table_places_in_bounds.0 c.requires.table_places_in_bounds.1 c.in_ok-m.ensures c.requires.has_block.block (c.in_ok-q.ensures _ _ _ (block_inside c.requires.has_block.at)) (c.see.ensures.rows_stay c.args.text.now t.0) c.fix.ensures _ (record { text = refl; table = refl; used = refl; scope = refl; level = refl }) c.see.ensures.seen; room = omega (arith, c.requires.table_places_in_bounds.1, c.fix.auto.draft ∙ c.inside.auto.draft ∙ c.emit.auto.draft); most = t.1 }

pub finish-requires-clause-has_body : goal.finish-requires-clause-has_body
finish-requires-clause-has_body c = has_main c.after-vars.ensures c.after.ensures c.after-main.ensures c.requires.has_block

pub returns-in_err-code : goal.returns-in_err-code
returns-in_err-code c = λ b a.
    let t = entered c.args.text.now c.args.tree.now c.args.table.now c.args.draft.now c.requires.table_places_in_bounds.0 c.requires.table_places_in_bounds.1 c.in_ok-m.ensures b (c.in_ok-q.ensures _ _ _ (block_inside a)) in
    rw (passed c.from_residual-in_err-code.ensures.1) (body_stop c.args.text.now c.args.tree.now c.args.table.now c.args.draft.now c.requires.table_places_in_bounds.0 c.requires.table_places_in_bounds.1 c.in_ok-m.ensures b (c.in_ok-q.ensures _ _ _ (block_inside a)) (c.see.ensures.rows_stay c.args.text.now t.0) c.fix.ensures _ (record { text = refl; table = refl; used = refl; scope = refl; level = refl }) (c.in_err-code.ensures b.main (block_body a c.after-vars.ensures c.after.ensures c.after-main.ensures)))

pub returns : goal.returns
returns c = λ b a.
    let t = entered c.args.text.now c.args.tree.now c.args.table.now c.args.draft.now c.requires.table_places_in_bounds.0 c.requires.table_places_in_bounds.1 c.in_ok-m.ensures b (c.in_ok-q.ensures _ _ _ (block_inside a)) in
    body_made c.args.text.now c.args.tree.now c.args.table.now c.args.draft.now c.requires.table_places_in_bounds.0 c.requires.table_places_in_bounds.1 c.in_ok-m.ensures b (c.in_ok-q.ensures _ _ _ (block_inside a)) (c.see.ensures.rows_stay c.args.text.now t.0) c.fix.ensures _ (record { text = refl; table = refl; used = refl; scope = refl; level = refl }) (c.in_ok-code.ensures b.main (block_body a c.after-vars.ensures c.after.ensures c.after-main.ensures)) c.see.ensures.seen

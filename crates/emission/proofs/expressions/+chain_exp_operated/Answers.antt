-- The proof of the cycle of calls of expressions. The measure is three times the numbers that are left from the node on, and the member's rank.
use Rattle.std.proofs.Common.{arith, refl, sym, ◌∙◌}
use Rattle.tree.specs.declared.Kind.TheVariants.{Chain, Name, Number, Neg}
use Rattle.tree.specs.Kinds.{kind_is}
use Rattle.tree.specs.Parts.{exp_fits, ref_in, has_neg, is_brackets_lem, has_brackets, the_chain, has_first}
use Rattle.pcode.specs.Coded.{oper}
use Rattle.emission.specs.Pieces.{emit_oper}
use Rattle.emission.specs.Statements.{exp_code}
use Rattle.emission.specs.Passed.{passed}
use Rattle.emission.specs.Drafting.{wrote_at, stop, then}
use Rattle.emission.proofs.Lists.{loop_head, loop_stop, loop_more, loop_done}
use Rattle.emission.proofs.Exps.{exp_ref, exp_lit, exp_neg, exp_brackets, links_empty, links_start, chain_stop, chain_end, link_ens}
use Rattle.emission.proofs.expressions.+chain_exp_operated.Goals as goal

pub chain-exp-requires : goal.chain-exp-requires
chain-exp-requires t c = (omega (arith, c.decreases, exp_fits c.requires.has_exp.at), (c.requires.ready, has_first c.requires.has_kind c.requires.has_exp))

pub chain-returns-in_err-m : goal.chain-returns-in_err-m
chain-returns-in_err-m t c = rw (passed c.from_residual.ensures.1) (chain_stop _ _ _ c.requires.has_kind _ c.in_err-m.ensures)

pub chain-after-j-requires : goal.chain-after-j-requires
chain-after-j-requires t c = (_, (has_first c.requires.has_kind c.requires.has_exp).at.stands)

pub chain-bounds-env-i : goal.chain-bounds-env-i
chain-bounds-env-i t c = omega (arith, exp_fits c.requires.has_exp.at, c.well_formed)

pub chain-loop-init : goal.chain-loop-init
chain-loop-init t c = links_start _ _ _ _ _ _ _ _ refl c.after-j.ensures (wrote_at (c.in_ok-m.ensures _ (has_first c.requires.has_kind c.requires.has_exp).at)).most

pub chain-overflow_add-j : goal.chain-overflow_add-j
chain-overflow_add-j t c =
    let w = the_chain c.requires.has_kind c.requires.has_exp in
    let d = loop_head _ _ _ _ _ _ _ _ _ c.loop.invariant c.loop-test.true w.0 w.1 in
    omega (arith, d.fits, c.well_formed)

pub chain-offset_bounds-env-j : goal.chain-offset_bounds-env-j
chain-offset_bounds-env-j t c =
    let w = the_chain c.requires.has_kind c.requires.has_exp in
    let d = loop_head _ _ _ _ _ _ _ _ _ c.loop.invariant c.loop-test.true w.0 w.1 in
    omega (arith, d.fits, c.well_formed)

pub chain-bounds-env-j : goal.chain-bounds-env-j
chain-bounds-env-j t c =
    let w = the_chain c.requires.has_kind c.requires.has_exp in
    let d = loop_head _ _ _ _ _ _ _ _ _ c.loop.invariant c.loop-test.true w.0 w.1 in
    omega (arith, d.fits, c.well_formed)

pub chain-operated-requires : goal.chain-operated-requires
chain-operated-requires t c =
    let w = the_chain c.requires.has_kind c.requires.has_exp in
    let d = loop_head _ _ _ _ _ _ _ _ _ c.loop.invariant c.loop-test.true w.0 w.1 in
    (omega (arith, c.decreases, d.fits, d.beyond), (record { known = c.requires.ready.known; room = omega (arith, c.requires.ready.room); most = d.most }, record { exp = d.head.1; at = d.at.1 }))

pub chain-returns-in_err-m-2 : goal.chain-returns-in_err-m-2
chain-returns-in_err-m-2 t c = rw (passed c.from_residual-in_err-m-2.ensures.1) (chain_end _ _ _ c.requires.has_kind c.in_ok-m.ensures c.requires.ready.most (loop_stop _ _ _ _ _ _ _ _ _ c.loop.invariant c.loop-test.true _ (link_ens _ _ _ c.arithmetic.ensures c.in_err-m-2.ensures)))

pub chain-after-j-requires-in-loop : goal.chain-after-j-requires-in-loop
chain-after-j-requires-in-loop t c =
    let w = the_chain c.requires.has_kind c.requires.has_exp in
    let d = loop_head _ _ _ _ _ _ _ _ _ c.loop.invariant c.loop-test.true w.0 w.1 in
    (_, d.stands)

pub chain-loop-preserved : goal.chain-loop-preserved
chain-loop-preserved t c = loop_more _ _ _ _ _ _ _ _ _ c.loop.invariant c.loop-test.true (link_ens _ _ _ c.arithmetic.ensures c.in_ok-m-2.ensures) c.after-j-in-loop.ensures

pub chain-returns : goal.chain-returns
chain-returns t c = chain_end _ _ _ c.requires.has_kind c.in_ok-m.ensures c.requires.ready.most (loop_done _ _ _ _ _ _ _ _ _ c.loop.invariant (links_empty _) c.loop-test.false)

pub exp-chain-requires : goal.exp-chain-requires
exp-chain-requires t c = (omega (arith, c.decreases), (c.requires.ready, (c.requires.has_exp, sym c.in-Chain.ensures)))

pub exp-bounds-env-i : goal.exp-bounds-env-i
exp-bounds-env-i t c = omega (arith, exp_fits c.requires.has_exp.at, c.well_formed)

pub exp-bounds-env-i-in-Name : goal.exp-bounds-env-i-in-Name
exp-bounds-env-i-in-Name t c = omega (arith, exp_fits c.requires.has_exp.at, c.well_formed)

pub exp-bounds-env-i-in-Number : goal.exp-bounds-env-i-in-Number
exp-bounds-env-i-in-Number t c = omega (arith, exp_fits c.requires.has_exp.at, c.well_formed)

pub exp-bounds-env-i-in-Number-2 : goal.exp-bounds-env-i-in-Number-2
exp-bounds-env-i-in-Number-2 t c = omega (arith, exp_fits c.requires.has_exp.at, c.well_formed)

pub exp-name-requires-clause-len_in_bounds : goal.exp-name-requires-clause-len_in_bounds
exp-name-requires-clause-len_in_bounds t c = ref_in (sym c.in-Name.ensures) c.requires.has_exp

pub exp-operated-requires : goal.exp-operated-requires
exp-operated-requires t c = (omega (arith, c.decreases, exp_fits c.requires.has_exp.at), (c.requires.ready, has_neg (sym c.in-Neg.ensures) c.requires.has_exp))

pub exp-exp-requires : goal.exp-exp-requires
exp-exp-requires t c = (omega (arith, c.decreases, exp_fits c.requires.has_exp.at), (c.requires.ready, has_brackets (λ h. c.in_default.not-Chain (kind_is _ Chain (c.kind_at.ensures ∙ h))) (λ h. c.in_default.not-Name (kind_is _ Name (c.kind_at.ensures ∙ h))) (λ h. c.in_default.not-Number (kind_is _ Number (c.kind_at.ensures ∙ h))) (λ h. c.in_default.not-Neg (kind_is _ Neg (c.kind_at.ensures ∙ h))) c.requires.has_exp))

pub exp-returns-in-Name : goal.exp-returns-in-Name
exp-returns-in-Name t c = exp_ref _ (sym c.in-Name.ensures) c.name.ensures

pub exp-returns-in-Number : goal.exp-returns-in-Number
exp-returns-in-Number t c = exp_lit _ (sym c.in-Number.ensures) c.emit_wide.ensures

pub exp-returns-in-Neg : goal.exp-returns-in-Neg
exp-returns-in-Neg t c = exp_neg _ (sym c.in-Neg.ensures) c.operated.ensures

pub exp-returns-in_default : goal.exp-returns-in_default
exp-returns-in_default t c = exp_brackets _ (λ t a. is_brackets_lem (λ h. c.in_default.not-Chain (kind_is _ Chain (c.kind_at.ensures ∙ h))) (λ h. c.in_default.not-Name (kind_is _ Name (c.kind_at.ensures ∙ h))) (λ h. c.in_default.not-Number (kind_is _ Number (c.kind_at.ensures ∙ h))) (λ h. c.in_default.not-Neg (kind_is _ Neg (c.kind_at.ensures ∙ h))) a) c.exp.ensures

pub operated-exp-requires : goal.operated-exp-requires
operated-exp-requires t c = (omega (arith, c.decreases), (c.requires.ready, c.requires.has_exp))

pub operated-returns-in_err-m : goal.operated-returns-in_err-m
operated-returns-in_err-m t c = λ t a. rw (passed c.from_residual.ensures.1) (stop (exp_code _ t) (emit_oper (oper c.args.op)) (c.in_err-m.ensures t a))

pub operated-returns : goal.operated-returns
operated-returns t c = λ t a. then (exp_code _ t) (emit_oper (oper c.args.op)) c.requires.ready.most (c.in_ok-m.ensures t a) c.emit_oper.ensures

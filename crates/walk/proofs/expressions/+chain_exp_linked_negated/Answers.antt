-- The proof of the cycle of calls of expressions.
use borrow.Author.Rules.{rules, sfits_of}
use native.Mathlib.Omega.{arith as linear}
use mathlib.Core.Path.{refl, sym}
use mir.Syntax.{w64}
use mir.ValLaws.{to_z-of_z}
use Rattle.std.proofs.lemmas.Result.{err_from_is_err_and}
use Rattle.numbers.specs.Arithmetic.{arith, negated}
use Rattle.tree.specs.Parts.{exp_fits, ref_in, literal_in, has_neg, is_brackets_lem, has_brackets, the_chain, has_first}
use Rattle.tree.specs.Kinds.{not_kind}
use Rattle.tree.specs.declared.Kind.TheVariants.{Name, Number, Neg, Chain}
use Rattle.numbers.proofs.Bits.{plain, plain_2}
use Rattle.walk.specs.Walk.{on_two}
use Rattle.walk.proofs.Cells.{some_state}
use Rattle.walk.proofs.Exps.{gives_stop, went, exp_ref, exp_lit, exp_neg, exp_brackets, on_one_lem, on_two_lem, chain_stop, chain_start, chain_whole, chain_done, next_in, chain_halt, chain_more}
use Rattle.walk.proofs.expressions.+chain_exp_linked_negated.Goals as goal

pub chain-number_at-count-requires : goal.chain-number_at-count-requires
chain-number_at-count-requires t c = omega (linear, exp_fits c.requires.has_exp.at, c.well_formed)

pub chain-exp-requires : goal.chain-exp-requires
chain-exp-requires t c = (omega (linear, c.decreases, exp_fits c.requires.has_exp.at), (c.requires.known, has_first c.requires.has_kind c.requires.has_exp))

pub chain-returns-in_err-x : goal.chain-returns-in_err-x
chain-returns-in_err-x t c =
    let p = err_from_is_err_and c.from_residual.result c.from_residual.ensures.1 in
    rw (p.1, p.2) (chain_stop _ _ _ _ _ _ c.args.clock.now c.requires.has_kind c.exp.ensures c.in_err-x.was)

pub chain-after-j-requires : goal.chain-after-j-requires
chain-after-j-requires t c = (_, (has_first c.requires.has_kind c.requires.has_exp).at.stands)

pub chain-loop-init : goal.chain-loop-init
chain-loop-init t c = chain_start _ _ _ _ _ _ _ _ _ _ c.number_at-count.ensures c.after-j.ensures

pub chain-linked-requires : goal.chain-linked-requires
chain-linked-requires t c =
    let w = the_chain c.requires.has_kind c.requires.has_exp in
    let d = next_in _ _ _ _ c.args.env.now _ _ _ _ _ _ _ _ c.loop.invariant c.loop-test.true w.1 in
    (omega (linear, c.decreases, d.fits, d.beyond), (c.requires.known, record { exp = d.exp; at = d.at }))

pub chain-returns-in_err-x-2 : goal.chain-returns-in_err-x-2
chain-returns-in_err-x-2 t c =
    let p = err_from_is_err_and c.from_residual-in_err-x-2.result c.from_residual-in_err-x-2.ensures.1 in
    rw (p.1, p.2) (chain_whole _ _ _ _ _ _ c.args.clock.now c.requires.has_kind c.exp.ensures c.in_ok-x.was (to_z-of_z w64 c.in_ok-x.x (search rules)) (chain_halt _ _ _ _ _ _ _ _ _ _ _ _ _ c.loop.invariant c.loop-test.true c.linked.ensures c.in_err-x-2.was))

pub chain-after-j-requires-in-loop : goal.chain-after-j-requires-in-loop
chain-after-j-requires-in-loop t c =
    let w = the_chain c.requires.has_kind c.requires.has_exp in
    let d = next_in _ _ _ _ c.args.env.now _ _ _ _ _ _ _ _ c.loop.invariant c.loop-test.true w.1 in
    (_, d.at.stands)

pub chain-loop-preserved : goal.chain-loop-preserved
chain-loop-preserved t c =
    let o = some_state _ c.args.env.now c.exp.new.clock c.requires.known.room in
    chain_more _ _ _ _ _ _ _ _ _ _ _ _ _ c.loop.invariant c.loop-test.true c.linked.ensures c.in_ok-x-2.was (to_z-of_z w64 c.in_ok-x-2.x (search rules)) c.after-j-in-loop.ensures o.0 o.1

pub chain-returns : goal.chain-returns
chain-returns t c = chain_whole _ _ _ _ _ _ c.args.clock.now c.requires.has_kind c.exp.ensures c.in_ok-x.was (to_z-of_z w64 c.in_ok-x.x (search rules)) (chain_done _ _ _ _ _ _ _ _ _ _ _ _ _ c.loop.invariant c.loop-test.false)

pub exp-bounds-env-i : goal.exp-bounds-env-i
exp-bounds-env-i t c = omega (linear, exp_fits c.requires.has_exp.at, c.well_formed)

pub exp-bounds-env-i-in-Name : goal.exp-bounds-env-i-in-Name
exp-bounds-env-i-in-Name t c = omega (linear, exp_fits c.requires.has_exp.at, c.well_formed)

pub exp-value_of-requires-clause-len_in_bounds : goal.exp-value_of-requires-clause-len_in_bounds
exp-value_of-requires-clause-len_in_bounds t c = ref_in (sym c.in-Name.ensures) c.requires.has_exp

pub exp-returns-in-Name : goal.exp-returns-in-Name
exp-returns-in-Name t c = exp_ref _ _ _ (sym c.in-Name.ensures) (to_z-of_z w64 _ (sfits_of c.value_of.type_inv)) c.value_of.ensures c.push.ensures

pub exp-value_at-requires : goal.exp-value_at-requires
exp-value_at-requires t c = literal_in (sym c.in-Number.ensures) c.requires.has_exp

pub exp-returns-in-Number : goal.exp-returns-in-Number
exp-returns-in-Number t c = exp_lit _ _ _ (sym c.in-Number.ensures) (to_z-of_z w64 _ (sfits_of c.value_at.type_inv)) c.value_at.ensures c.push-in-Number.ensures

pub exp-negated-requires : goal.exp-negated-requires
exp-negated-requires t c = (omega (linear, c.decreases, exp_fits c.requires.has_exp.at), (c.requires.known, has_neg (sym c.in-Neg.ensures) c.requires.has_exp))

pub exp-returns-in-Neg : goal.exp-returns-in-Neg
exp-returns-in-Neg t c = exp_neg _ (sym c.in-Neg.ensures) c.negated.ensures

pub exp-exp-requires : goal.exp-exp-requires
exp-exp-requires t c =
    let e = c.kind_at.ensures in
    let d = c.in_default in
    (omega (linear, c.decreases, exp_fits c.requires.has_exp.at), (c.requires.known, has_brackets (not_kind Chain e d.not-Chain) (not_kind Name e d.not-Name) (not_kind Number e d.not-Number) (not_kind Neg e d.not-Neg) c.requires.has_exp))

pub exp-returns-in_default : goal.exp-returns-in_default
exp-returns-in_default t c =
    let e = c.kind_at.ensures in
    let d = c.in_default in
    exp_brackets _ (λ u a. is_brackets_lem (not_kind Chain e d.not-Chain) (not_kind Name e d.not-Name) (not_kind Number e d.not-Number) (not_kind Neg e d.not-Neg) a) c.exp.ensures

pub linked-returns-in_err-y : goal.linked-returns-in_err-y
linked-returns-in_err-y t c =
    let p = err_from_is_err_and c.from_residual.result c.from_residual.ensures.1 in
    λ o u e a w sh. rw (p.1, p.2) (gives_stop c.in_err-y.was (c.exp.ensures u a w sh) (λ y. on_two (arith o c.args.x y)))

pub linked-overflow_add-j : goal.linked-overflow_add-j
linked-overflow_add-j t c = omega (linear, exp_fits c.requires.has_exp.at, c.well_formed)

pub linked-offset_bounds-env-j : goal.linked-offset_bounds-env-j
linked-offset_bounds-env-j t c = omega (linear, exp_fits c.requires.has_exp.at, c.well_formed)

pub linked-bounds-env-j : goal.linked-bounds-env-j
linked-bounds-env-j t c = omega (linear, exp_fits c.requires.has_exp.at, c.well_formed)

pub linked-overflow_sub-clock : goal.linked-overflow_sub-clock
linked-overflow_sub-clock t c =
    let o = some_state _ c.args.env.now c.args.clock.now c.requires.known.room in
    omega (linear, (went c.in_ok-y.was (c.exp.ensures _ c.requires.has_exp.at o.0 o.1)).top)

pub linked-returns : goal.linked-returns
linked-returns t c = λ o u e a w sh.
    on_two_lem c.in_ok-y.was (c.exp.ensures u a w sh) (arith o c.args.x) _
    (plain_2 (arith o) c.args.x c.in_ok-y.y c.ranges.x (search rules) (rw (c.operator.ensures o e) at c.apply-answer.ensures)) refl c.settle.ensures

pub negated-returns : goal.negated-returns
negated-returns t c = λ u a w sh. on_one_lem c.in_ok-z.was (c.exp.ensures u a w sh) negated _ (plain negated c.in_ok-z.z (search rules) c.negate.ensures) c.settle.ensures

-- The proof of the cycle of calls of the readers of expressions. Each member's measure is eight times the tokens left, and its rank.
use mathlib.Core.Path.{refl}
use native.Mathlib.Omega.{arith}
use Rattle.lexer.specs.Marks.{close_sign}
use Rattle.parser.proofs.Answers.{refused, grew, room_after, moved, room_seen, same_left, room_taken, one_fewer, wanted_fewer, left_as, refuses}
use Rattle.parser.proofs.Loops.{going_start, going_room, going_more, going_refused, going_end}
use Rattle.parser.proofs.Seeing.{saw}
use Rattle.parser.proofs.Leaves.{literal_of_lem, literal_pos}
use Rattle.parser.proofs.Chains.{joins_none, chain_stop, chain_end, chain_operand, chain_turn, chain_first, chain_rest, chain_done}
use Rattle.parser.proofs.Exps.{sums, products, negated_refused, negated_done, signed_refused, signed_plus, signed_minus, signed_none, bracketed_refused, bracketed_open, bracketed_done, factor_refused, factor_other, factor_deep, factor_open, factor_name, factor_number}
use Rattle.parser.proofs.expressions.+parse_brackets_parse_exp_parse_factor_parse_negated_parse_signed_parse_term.Goals as goal

pub parse_brackets-returns-in_err-end : goal.parse_brackets-returns-in_err-end
parse_brackets-returns-in_err-end t c =
    rw (left_as c.from_residual.ensures) (refused (bracketed_refused _ _ (refuses c.in_err-end.ensures)))

pub parse_brackets-returns-in_err-d : goal.parse_brackets-returns-in_err-d
parse_brackets-returns-in_err-d t c =
    rw (left_as c.from_residual-in_err-d.ensures) (refused (bracketed_open _ _ _ c.in_ok-end.ensures refl (c.want.ensures close_sign refl) c.in_err-d.was))

pub parse_brackets-seal-requires : goal.parse_brackets-seal-requires
parse_brackets-seal-requires t c =
    let g = grew c.in_ok-end.ensures refl in
    let k = c.parse_exp.auto.tree in
    record {
      i_bound = (g.above, omega (arith, g.room, c.requires.room));
      count_le_end = (omega (arith, g.above), omega (arith, c.requires.small));
    }

pub parse_brackets-returns : goal.parse_brackets-returns
parse_brackets-returns t c =
    let p = room_after c.in_ok-end.ensures refl {t = 0} c.requires c.parse_exp.auto.tree (omega arith) in
    bracketed_done _ _ _ c.in_ok-end.ensures refl (c.want.ensures close_sign refl) c.in_ok-d.was (wanted_fewer p (c.want.ensures close_sign refl) c.in_ok-d.was) c.seal.ensures

pub parse_exp-returns-in_err-end : goal.parse_exp-returns-in_err-end
parse_exp-returns-in_err-end t c =
    rw (left_as c.from_residual.ensures) (refused (chain_first (sums _ _) 2 4 (omega arith) (refuses c.in_err-end.ensures)))

pub parse_exp-loop-d-init : goal.parse_exp-loop-d-init
parse_exp-loop-d-init t c =
    let g = grew c.in_ok-end.ensures refl in
    going_start _ _ _ _ _ _ _ _ (omega (arith, g.room, c.requires.room, c.parse_signed.auto.tree)) (omega (arith, g.above))

pub parse_exp-returns-in_err-d : goal.parse_exp-returns-in_err-d
parse_exp-returns-in_err-d t c =
    rw (left_as c.from_residual-in_err-d.ensures) (refused (chain_rest (sums _ _) 2 4 (omega arith) _ c.in_ok-end.ensures refl (going_refused _ _ _ _ c.loop-d.invariant (chain_stop (sums _ _) c.see.ensures c.in_err-d.was))))

pub parse_exp-seal-requires : goal.parse_exp-seal-requires
parse_exp-seal-requires t c =
    let g = grew c.in_ok-end.ensures refl in
    let i = c.loop-d.invariant in
    let k = c.parse_signed.auto.tree in
    record {
      i_bound = (omega (arith, g.above, i.above), omega (arith, g.room, i.room, i.same, c.requires.room));
      count_le_end = (i.few, omega (arith, i.same, c.requires.small));
    }

pub parse_exp-returns-in_default : goal.parse_exp-returns-in_default
parse_exp-returns-in_default t c =
    let e = joins_none _ _ _ _ c.sum_op.ensures c.in_default.is in
    let i = c.loop-d.invariant in
    let q = going_room _ _ _ _ i (room_after c.in_ok-end.ensures refl {t = 0} c.requires c.parse_signed.auto.tree (omega arith)) in
    chain_done (sums _ _) 2 4 (omega arith) _ c.in_ok-end.ensures refl i (same_left q c.see.ensures c.in_ok-d.was)
    (going_end _ _ _ _ i (chain_end (sums _ _) c.see.ensures c.in_ok-d.was e (omega (arith, q.room))) (omega arith))
    c.seal.ensures 0 (omega arith)

pub parse_exp-parse_term-requires : goal.parse_exp-parse_term-requires
parse_exp-parse_term-requires t c =
    let i = c.loop-d.invariant in
    let q = going_room _ _ _ _ i (room_after c.in_ok-end.ensures refl {t = 0} c.requires c.parse_signed.auto.tree (omega arith)) in
    let g = grew c.in_ok-end.ensures refl in
    (omega (arith, c.decreases, g.fewer, i.fewer, one_fewer q c.see.ensures c.in_ok-d.was c.take.ensures), room_taken q c.see.ensures c.in_ok-d.was c.take.ensures _ 4 (omega arith))

pub parse_exp-returns-in_err-e : goal.parse_exp-returns-in_err-e
parse_exp-returns-in_err-e t c =
    rw (left_as c.from_residual-in_err-e.ensures) (refused (chain_rest (sums _ _) 2 4 (omega arith) _ c.in_ok-end.ensures refl (going_refused _ _ _ _ c.loop-d.invariant (chain_operand (sums _ _) c.see.ensures c.in_ok-d.was c.sum_op.ensures c.in-Some.is c.joined.ensures c.take.ensures (omega arith) (refuses c.in_err-e.ensures)))))

pub parse_exp-overflow_add-count : goal.parse_exp-overflow_add-count
parse_exp-overflow_add-count t c =
    omega (arith, c.loop-d.invariant.few, c.loop-d.invariant.room, c.loop-d.invariant.same, c.requires.room, c.requires.small, c.parse_signed.auto.tree, (grew c.in_ok-end.ensures refl).room)

pub parse_exp-loop-d-smaller : goal.parse_exp-loop-d-smaller
parse_exp-loop-d-smaller t c =
    let q = going_room _ _ _ _ c.loop-d.invariant (room_after c.in_ok-end.ensures refl {t = 0} c.requires c.parse_signed.auto.tree (omega arith)) in
    omega (arith, (grew c.in_ok-e.ensures refl).fewer, one_fewer q c.see.ensures c.in_ok-d.was c.take.ensures)

pub parse_exp-loop-d-preserved : goal.parse_exp-loop-d-preserved
parse_exp-loop-d-preserved t c =
    let p = room_after c.in_ok-end.ensures refl {t = 0} c.requires c.parse_signed.auto.tree (omega arith) in
    let i = c.loop-d.invariant in
    let q = going_room _ _ _ _ i p in
    going_more _ _ _ _ i p
    (chain_turn (sums _ _) c.see.ensures c.in_ok-d.was c.sum_op.ensures c.in-Some.is c.joined.ensures c.take.ensures (omega arith) c.in_ok-e.ensures refl (one_fewer q c.see.ensures c.in_ok-d.was c.take.ensures))
    c.parse_term.auto.tree

pub parse_factor-returns-in_err-c : goal.parse_factor-returns-in_err-c
parse_factor-returns-in_err-c t c =
    rw (left_as c.from_residual.ensures) (refused (factor_refused _ _ c.see.ensures c.in_err-c.was))

pub parse_factor-push_name-requires : goal.parse_factor-push_name-requires
parse_factor-push_name-requires t c =
    let w = (saw c.see.ensures c.in_ok-c.was c.requires.place c.requires.stands).1 in
    let i = w.inside _ _ c.in-Identifier.is in
    record {
      used_in_bounds = omega (arith, c.requires.room, w.fewer);
      offset_lt_half = (omega (arith, i, c.requires.short), omega (arith, i, c.requires.short));
    }

pub parse_factor-overflow_cast-v : goal.parse_factor-overflow_cast-v
parse_factor-overflow_cast-v t c =
    let w = (saw c.see.ensures c.in_ok-c.was c.requires.place c.requires.stands).1 in
    omega (arith, (literal_of_lem w _ c.in-Integer.is).0)

pub parse_factor-push_number-requires : goal.parse_factor-push_number-requires
parse_factor-push_number-requires t c =
    let w = (saw c.see.ensures c.in_ok-c.was c.requires.place c.requires.stands).1 in
    let z = literal_of_lem w _ c.in-Integer.is in
    record {
      used_in_bounds = omega (arith, c.requires.room, w.fewer);
      not_negative = (_, literal_pos z.0);
    }

pub parse_factor-parse_brackets-requires : goal.parse_factor-parse_brackets-requires
parse_factor-parse_brackets-requires t c =
    (omega (arith, c.decreases, one_fewer c.requires c.see.ensures c.in_ok-c.was c.take-then-depth-lt-MAX_OPEN.ensures), room_taken c.requires c.see.ensures c.in_ok-c.was c.take-then-depth-lt-MAX_OPEN.ensures _ 12 (omega arith))

pub parse_factor-returns-in-Identifier : goal.parse_factor-returns-in-Identifier
parse_factor-returns-in-Identifier t c =
    let w = (saw c.see.ensures c.in_ok-c.was c.requires.place c.requires.stands).1 in
    let e = c.in-Identifier.is in
    factor_name _ _ c.see.ensures c.in_ok-c.was c.take.ensures (one_fewer c.requires c.see.ensures c.in_ok-c.was c.take.ensures) (omega (arith, c.requires.room)) c.push_name.ensures.0 _ _ _ e (w.inside _ _ e) c.push_name.ensures.1

pub parse_factor-returns-in-Integer : goal.parse_factor-returns-in-Integer
parse_factor-returns-in-Integer t c =
    let w = (saw c.see.ensures c.in_ok-c.was c.requires.place c.requires.stands).1 in
    let e = c.in-Integer.is in
    factor_number _ _ c.see.ensures c.in_ok-c.was c.take-in-Integer.ensures (one_fewer c.requires c.see.ensures c.in_ok-c.was c.take-in-Integer.ensures) (omega (arith, c.requires.room)) c.push_number.ensures.next _ _ e (c.push_number.ensures.literal_behind _ (literal_pos (literal_of_lem w _ e).0))

pub parse_factor-returns-then-depth-lt-MAX_OPEN : goal.parse_factor-returns-then-depth-lt-MAX_OPEN
parse_factor-returns-then-depth-lt-MAX_OPEN t c =
    let f = one_fewer c.requires c.see.ensures c.in_ok-c.was c.take-then-depth-lt-MAX_OPEN.ensures in
    moved _ (omega arith) (omega arith) (factor_open _ _ c.see.ensures c.in_ok-c.was c.in-ParL.is c.take-then-depth-lt-MAX_OPEN.ensures c.if-depth-lt-MAX_OPEN.true _ (omega arith)) c.parse_brackets.ensures

pub parse_factor-returns-else-depth-lt-MAX_OPEN : goal.parse_factor-returns-else-depth-lt-MAX_OPEN
parse_factor-returns-else-depth-lt-MAX_OPEN t c =
    refused (factor_deep _ _ c.see.ensures c.in_ok-c.was c.in-ParL.is c.if-depth-lt-MAX_OPEN.false)

pub parse_factor-returns-in_default : goal.parse_factor-returns-in_default
parse_factor-returns-in_default t c =
    refused (factor_other _ _ c.see.ensures c.in_ok-c.was c.in_default.not-Identifier c.in_default.not-Integer c.in_default.not-ParL)

pub parse_negated-returns-in_err-end : goal.parse_negated-returns-in_err-end
parse_negated-returns-in_err-end t c =
    rw (left_as c.from_residual.ensures) (refused (negated_refused _ _ (refuses c.in_err-end.ensures)))

pub parse_negated-seal-requires : goal.parse_negated-seal-requires
parse_negated-seal-requires t c =
    let g = grew c.in_ok-end.ensures refl in
    let k = c.parse_term.auto.tree in
    record {
      i_bound = (g.above, omega (arith, g.room, c.requires.room));
      count_le_end = (omega (arith, g.above), omega (arith, c.requires.small));
    }

pub parse_negated-returns : goal.parse_negated-returns
parse_negated-returns t c =
    negated_done _ _ _ c.in_ok-end.ensures refl c.seal.ensures

pub parse_signed-returns-in_err-c : goal.parse_signed-returns-in_err-c
parse_signed-returns-in_err-c t c =
    rw (left_as c.from_residual.ensures) (refused (signed_refused _ _ c.see.ensures c.in_err-c.was))

pub parse_signed-parse_term-requires : goal.parse_signed-parse_term-requires
parse_signed-parse_term-requires t c =
    (omega (arith, c.decreases, one_fewer c.requires c.see.ensures c.in_ok-c.was c.take.ensures), room_taken c.requires c.see.ensures c.in_ok-c.was c.take.ensures _ 4 (omega arith))

pub parse_signed-parse_negated-requires : goal.parse_signed-parse_negated-requires
parse_signed-parse_negated-requires t c =
    (omega (arith, c.decreases, one_fewer c.requires c.see.ensures c.in_ok-c.was c.take-in-Sub.ensures), room_taken c.requires c.see.ensures c.in_ok-c.was c.take-in-Sub.ensures _ 8 (omega arith))

pub parse_signed-parse_term-requires-in_default : goal.parse_signed-parse_term-requires-in_default
parse_signed-parse_term-requires-in_default t c =
    (omega (arith, c.decreases, same_left c.requires c.see.ensures c.in_ok-c.was), room_seen c.requires c.see.ensures c.in_ok-c.was)

pub parse_signed-returns-in-Add : goal.parse_signed-returns-in-Add
parse_signed-returns-in-Add t c =
    let f = one_fewer c.requires c.see.ensures c.in_ok-c.was c.take.ensures in
    moved _ (omega arith) (omega arith) (signed_plus _ _ c.see.ensures c.in_ok-c.was c.take.ensures c.in-Add.is) c.parse_term.ensures

pub parse_signed-returns-in-Sub : goal.parse_signed-returns-in-Sub
parse_signed-returns-in-Sub t c =
    let f = one_fewer c.requires c.see.ensures c.in_ok-c.was c.take-in-Sub.ensures in
    moved _ (omega arith) (omega arith) (signed_minus _ _ c.see.ensures c.in_ok-c.was (λ z. cc) c.take-in-Sub.ensures c.in-Sub.is) c.parse_negated.ensures

pub parse_signed-returns-in_default : goal.parse_signed-returns-in_default
parse_signed-returns-in_default t c =
    let f = same_left c.requires c.see.ensures c.in_ok-c.was in
    moved _ (omega arith) (omega arith) (signed_none _ _ c.see.ensures c.in_ok-c.was c.in_default.not-Add c.in_default.not-Sub) c.parse_term-in_default.ensures

pub parse_term-returns-in_err-end : goal.parse_term-returns-in_err-end
parse_term-returns-in_err-end t c =
    rw (left_as c.from_residual.ensures) (refused (chain_first (products _ _) 1 8 (omega arith) (refuses c.in_err-end.ensures)))

pub parse_term-loop-d-init : goal.parse_term-loop-d-init
parse_term-loop-d-init t c =
    let g = grew c.in_ok-end.ensures refl in
    going_start _ _ _ _ _ _ _ _ (omega (arith, g.room, c.requires.room, c.parse_factor.auto.tree)) (omega (arith, g.above))

pub parse_term-returns-in_err-d : goal.parse_term-returns-in_err-d
parse_term-returns-in_err-d t c =
    rw (left_as c.from_residual-in_err-d.ensures) (refused (chain_rest (products _ _) 1 8 (omega arith) _ c.in_ok-end.ensures refl (going_refused _ _ _ _ c.loop-d.invariant (chain_stop (products _ _) c.see.ensures c.in_err-d.was))))

pub parse_term-seal-requires : goal.parse_term-seal-requires
parse_term-seal-requires t c =
    let g = grew c.in_ok-end.ensures refl in
    let i = c.loop-d.invariant in
    let k = c.parse_factor.auto.tree in
    record {
      i_bound = (omega (arith, g.above, i.above), omega (arith, g.room, i.room, i.same, c.requires.room));
      count_le_end = (i.few, omega (arith, i.same, c.requires.small));
    }

pub parse_term-returns-in_default : goal.parse_term-returns-in_default
parse_term-returns-in_default t c =
    let e = joins_none _ _ _ _ c.product_op.ensures c.in_default.is in
    let i = c.loop-d.invariant in
    let q = going_room _ _ _ _ i (room_after c.in_ok-end.ensures refl {t = 0} c.requires c.parse_factor.auto.tree (omega arith)) in
    chain_done (products _ _) 1 8 (omega arith) _ c.in_ok-end.ensures refl i (same_left q c.see.ensures c.in_ok-d.was)
    (going_end _ _ _ _ i (chain_end (products _ _) c.see.ensures c.in_ok-d.was e (omega (arith, q.room))) (omega arith))
    c.seal.ensures 4 (omega arith)

pub parse_term-parse_factor-requires-in-loop-d : goal.parse_term-parse_factor-requires-in-loop-d
parse_term-parse_factor-requires-in-loop-d t c =
    let i = c.loop-d.invariant in
    let q = going_room _ _ _ _ i (room_after c.in_ok-end.ensures refl {t = 0} c.requires c.parse_factor.auto.tree (omega arith)) in
    let g = grew c.in_ok-end.ensures refl in
    (omega (arith, c.decreases, g.fewer, i.fewer, one_fewer q c.see.ensures c.in_ok-d.was c.take.ensures), room_taken q c.see.ensures c.in_ok-d.was c.take.ensures _ 0 (omega arith))

pub parse_term-returns-in_err-e : goal.parse_term-returns-in_err-e
parse_term-returns-in_err-e t c =
    rw (left_as c.from_residual-in_err-e.ensures) (refused (chain_rest (products _ _) 1 8 (omega arith) _ c.in_ok-end.ensures refl (going_refused _ _ _ _ c.loop-d.invariant (chain_operand (products _ _) c.see.ensures c.in_ok-d.was c.product_op.ensures c.in-Some.is c.joined.ensures c.take.ensures (omega arith) (refuses c.in_err-e.ensures)))))

pub parse_term-overflow_add-count : goal.parse_term-overflow_add-count
parse_term-overflow_add-count t c =
    omega (arith, c.loop-d.invariant.few, c.loop-d.invariant.room, c.loop-d.invariant.same, c.requires.room, c.requires.small, c.parse_factor.auto.tree, (grew c.in_ok-end.ensures refl).room)

pub parse_term-loop-d-smaller : goal.parse_term-loop-d-smaller
parse_term-loop-d-smaller t c =
    let q = going_room _ _ _ _ c.loop-d.invariant (room_after c.in_ok-end.ensures refl {t = 0} c.requires c.parse_factor.auto.tree (omega arith)) in
    omega (arith, (grew c.in_ok-e.ensures refl).fewer, one_fewer q c.see.ensures c.in_ok-d.was c.take.ensures)

pub parse_term-loop-d-preserved : goal.parse_term-loop-d-preserved
parse_term-loop-d-preserved t c =
    let p = room_after c.in_ok-end.ensures refl {t = 0} c.requires c.parse_factor.auto.tree (omega arith) in
    let i = c.loop-d.invariant in
    let q = going_room _ _ _ _ i p in
    going_more _ _ _ _ i p
    (chain_turn (products _ _) c.see.ensures c.in_ok-d.was c.product_op.ensures c.in-Some.is c.joined.ensures c.take.ensures (omega arith) c.in_ok-e.ensures refl (one_fewer q c.see.ensures c.in_ok-d.was c.take.ensures))
    c.parse_factor-in-loop-d.auto.tree

-- The proof of the cycle of calls of the readers of statements. Each member's measure is eight times the tokens left, and its rank.
use mathlib.Core.Path.{refl}
use Prim.Native.Nat.{◌+◌}
use native.Mathlib.Omega.{arith}
use Rattle.lexer.specs.Marks.{then_word, do_word, begin_word, end_word}
use Rattle.parser.proofs.Seeing.{saw}
use Rattle.parser.proofs.Answers.{refused, grew, room_after, moved, room_at, room_seen, same_left, room_taken, one_fewer, room_took, wanted_fewer, left_as, refuses}
use Rattle.parser.proofs.Tries.{none_at, some_at, quiet, quiet_left, try_left, room_quiet, nothing}
use Rattle.parser.proofs.Flows.{looped_refused, looped_stop, looped_in, looped_quiet, looped_done, else_refused, else_absent, else_there, if_refused, if_stop, if_in, if_quiet_in, if_quiet, if_else_in, if_short, if_long}
use Rattle.parser.proofs.Bodies.{stmt_deep, stmt_refused, stmt_none, assign_arm, if_arm, while_arm, call_arm, read_arm, write_arm, body_arm, body_stop, body_in, body_quiet, body_open, body_done}
use Rattle.parser.proofs.Members as M
use Rattle.parser.proofs.statements.+parse_body_parse_else_part_parse_if_parse_statement_parse_statements_parse_while_read_on.Goals as goal

pub parse_body-returns-in_err-c : goal.parse_body-returns-in_err-c
parse_body-returns-in_err-c t c =
    rw (left_as c.from_residual.ensures) (refused (body_stop _ _ (c.in_err-c.ensures begin_word refl) refl))

pub parse_body-parse_statements-requires : goal.parse_body-parse_statements-requires
parse_body-parse_statements-requires t c =
    (omega (arith, c.decreases, wanted_fewer c.requires (c.in_ok-c.ensures begin_word refl) refl), room_took c.requires (c.in_ok-c.ensures begin_word refl) refl _ 8 (omega arith))

pub parse_body-returns-in_err-members : goal.parse_body-returns-in_err-members
parse_body-returns-in_err-members t c =
    rw (left_as c.from_residual-in_err-members.ensures) (refused (body_in _ _ (c.in_ok-c.ensures begin_word refl) refl (refuses c.in_err-members.ensures)))

pub parse_body-returns-in_default : goal.parse_body-returns-in_default
parse_body-returns-in_default t c =
    let h = c.in_ok-members.ensures in
    let q = none_at c.in_default.is in
    nothing (omega (arith, wanted_fewer c.requires (c.in_ok-c.ensures begin_word refl) refl, quiet_left h q)) (body_quiet _ _ (c.in_ok-c.ensures begin_word refl) refl _ (quiet h q))

pub parse_body-returns-in_err-e : goal.parse_body-returns-in_err-e
parse_body-returns-in_err-e t c =
    rw (left_as c.from_residual-in_err-e.ensures) (refused (body_open _ _ (c.in_ok-c.ensures begin_word refl) refl c.in_ok-members.ensures (some_at c.in-Some.is) (c.in_err-e.ensures end_word refl) refl))

pub parse_body-returns : goal.parse_body-returns
parse_body-returns t c =
    let h = c.in_ok-members.ensures in
    let q = some_at c.in-Some.is in
    let p = room_after h q {t = 0} (room_took c.requires (c.in_ok-c.ensures begin_word refl) refl c.args.used 8 (omega arith)) c.parse_statements.auto.tree (omega arith) in
    let e = c.in_ok-e.ensures end_word refl in
    body_done _ _ (c.in_ok-c.ensures begin_word refl) refl h q e refl (wanted_fewer c.requires (c.in_ok-c.ensures begin_word refl) refl) (wanted_fewer p e refl)

pub parse_else_part-returns-in_err-c : goal.parse_else_part-returns-in_err-c
parse_else_part-returns-in_err-c t c =
    rw (left_as c.from_residual.ensures) (refused (else_refused _ _ c.in_err-c.ensures refl))

pub parse_else_part-returns-in_default : goal.parse_else_part-returns-in_default
parse_else_part-returns-in_default t c =
    else_absent _ _ c.in_ok-c.ensures refl c.in_default.not-Else c.requires

pub parse_else_part-parse_statement-requires : goal.parse_else_part-parse_statement-requires
parse_else_part-parse_statement-requires t c =
    (omega (arith, c.decreases, one_fewer c.requires c.in_ok-c.ensures refl c.take.ensures), room_taken c.requires c.in_ok-c.ensures refl c.take.ensures _ 4 (omega arith))

pub parse_else_part-returns : goal.parse_else_part-returns
parse_else_part-returns t c =
    let f = one_fewer c.requires c.in_ok-c.ensures refl c.take.ensures in
    moved _ (omega arith) (omega arith) (else_there _ _ c.in_ok-c.ensures refl c.take.ensures c.in-Else.is) c.parse_statement.ensures

pub parse_if-returns-in_err-tested : goal.parse_if-returns-in_err-tested
parse_if-returns-in_err-tested t c =
    rw (left_as c.from_residual.ensures) (refused (if_refused _ _ (refuses c.in_err-tested.ensures)))

pub parse_if-returns-in_err-d : goal.parse_if-returns-in_err-d
parse_if-returns-in_err-d t c =
    rw (left_as c.from_residual-in_err-d.ensures) (refused (if_stop _ _ _ c.in_ok-tested.ensures refl (c.in_err-d.ensures then_word refl) refl))

pub parse_if-parse_statement-requires : goal.parse_if-parse_statement-requires
parse_if-parse_statement-requires t c =
    let p = room_after c.in_ok-tested.ensures refl {t = 0} c.requires c.parse_l_exp.auto.tree (omega arith) in
    (omega (arith, c.decreases, wanted_fewer p (c.in_ok-d.ensures then_word refl) refl, (grew c.in_ok-tested.ensures refl).fewer), room_took p (c.in_ok-d.ensures then_word refl) refl _ 4 (omega arith))

pub parse_if-returns-in_err-then_part : goal.parse_if-returns-in_err-then_part
parse_if-returns-in_err-then_part t c =
    let p = room_after c.in_ok-tested.ensures refl {t = 0} c.requires c.parse_l_exp.auto.tree (omega arith) in
    let f = wanted_fewer p (c.in_ok-d.ensures then_word refl) refl in
    rw (left_as c.from_residual-in_err-then_part.ensures) (refused (if_in _ _ _ c.in_ok-tested.ensures refl (c.in_ok-d.ensures then_word refl) refl f (refuses c.in_err-then_part.ensures)))

pub parse_if-parse_else_part-requires : goal.parse_if-parse_else_part-requires
parse_if-parse_else_part-requires t c =
    let p = room_after c.in_ok-tested.ensures refl {t = 0} c.requires c.parse_l_exp.auto.tree (omega arith) in
    let h = c.in_ok-then_part.ensures in
    let q = none_at c.in_default.is in
    (omega (arith, c.decreases, wanted_fewer p (c.in_ok-d.ensures then_word refl) refl, (grew c.in_ok-tested.ensures refl).fewer, quiet_left h q), room_quiet h q (room_took p (c.in_ok-d.ensures then_word refl) refl c.in_ok-tested.tested 4 (omega arith)) c.parse_statement.auto.tree (omega arith))

pub parse_if-returns-in_err-f : goal.parse_if-returns-in_err-f
parse_if-returns-in_err-f t c =
    let p = room_after c.in_ok-tested.ensures refl {t = 0} c.requires c.parse_l_exp.auto.tree (omega arith) in
    let f = wanted_fewer p (c.in_ok-d.ensures then_word refl) refl in
    rw (left_as c.from_residual-in_err-f.ensures) (refused (if_quiet_in _ _ _ c.in_ok-tested.ensures refl (c.in_ok-d.ensures then_word refl) refl f c.in_ok-then_part.ensures (none_at c.in_default.is) (refuses c.in_err-f.ensures)))

pub parse_if-returns-in_default : goal.parse_if-returns-in_default
parse_if-returns-in_default t c =
    let p = room_after c.in_ok-tested.ensures refl {t = 0} c.requires c.parse_l_exp.auto.tree (omega arith) in
    let f = wanted_fewer p (c.in_ok-d.ensures then_word refl) refl in
    if_quiet _ _ _ c.in_ok-tested.ensures refl (c.in_ok-d.ensures then_word refl) refl f c.in_ok-then_part.ensures (none_at c.in_default.is) _ c.in_ok-f.ensures

pub parse_if-parse_else_part-requires-2 : goal.parse_if-parse_else_part-requires-2
parse_if-parse_else_part-requires-2 t c =
    let p = room_after c.in_ok-tested.ensures refl {t = 0} c.requires c.parse_l_exp.auto.tree (omega arith) in
    let h = c.in_ok-then_part.ensures in
    let q = some_at c.in-Some.is in
    (omega (arith, c.decreases, wanted_fewer p (c.in_ok-d.ensures then_word refl) refl, (grew c.in_ok-tested.ensures refl).fewer, (grew h q).fewer), room_after h q (room_took p (c.in_ok-d.ensures then_word refl) refl c.in_ok-tested.tested 4 (omega arith)) c.parse_statement.auto.tree (omega arith))

pub parse_if-returns-in_err-else_part : goal.parse_if-returns-in_err-else_part
parse_if-returns-in_err-else_part t c =
    let p = room_after c.in_ok-tested.ensures refl {t = 0} c.requires c.parse_l_exp.auto.tree (omega arith) in
    let f = wanted_fewer p (c.in_ok-d.ensures then_word refl) refl in
    rw (left_as c.from_residual-in_err-else_part.ensures) (refused (if_else_in _ _ _ c.in_ok-tested.ensures refl (c.in_ok-d.ensures then_word refl) refl f c.in_ok-then_part.ensures (some_at c.in-Some.is) (refuses c.in_err-else_part.ensures)))

pub parse_if-seal-requires : goal.parse_if-seal-requires
parse_if-seal-requires t c =
    let p = room_after c.in_ok-tested.ensures refl {t = 0} c.requires c.parse_l_exp.auto.tree (omega arith) in
    let f = wanted_fewer p (c.in_ok-d.ensures then_word refl) refl in
    let g = grew c.in_ok-tested.ensures refl in
    let h = grew c.in_ok-then_part.ensures (some_at c.in-Some.is) in
    let i = grew c.in_ok-else_part.ensures (some_at c.in-Some-else_part.is) in
    let k = c.parse_statement.auto.tree in
    let j = c.parse_else_part-2.auto.tree in
    record {
      i_bound = (omega (arith, g.above, h.above, i.above), omega (arith, i.room, h.room, p.room));
      count_le_end = (omega (arith, g.above, h.above, i.above), omega (arith, p.small));
    }

pub parse_if-returns-in-Some-else_part : goal.parse_if-returns-in-Some-else_part
parse_if-returns-in-Some-else_part t c =
    let p = room_after c.in_ok-tested.ensures refl {t = 0} c.requires c.parse_l_exp.auto.tree (omega arith) in
    let f = wanted_fewer p (c.in_ok-d.ensures then_word refl) refl in
    if_long _ _ _ c.in_ok-tested.ensures refl (c.in_ok-d.ensures then_word refl) refl f c.in_ok-then_part.ensures (some_at c.in-Some.is) c.in_ok-else_part.ensures (some_at c.in-Some-else_part.is) c.seal.ensures

pub parse_if-seal-requires-in-None : goal.parse_if-seal-requires-in-None
parse_if-seal-requires-in-None t c =
    let p = room_after c.in_ok-tested.ensures refl {t = 0} c.requires c.parse_l_exp.auto.tree (omega arith) in
    let f = wanted_fewer p (c.in_ok-d.ensures then_word refl) refl in
    let g = grew c.in_ok-tested.ensures refl in
    let h = grew c.in_ok-then_part.ensures (some_at c.in-Some.is) in
    let k = c.parse_statement.auto.tree in
    let j = c.parse_else_part-2.auto.tree in
    record {
      i_bound = (omega (arith, g.above, h.above), omega (arith, h.room, p.room));
      count_le_end = (omega (arith, g.above, h.above), omega (arith, p.small));
    }

pub parse_if-returns-in-None : goal.parse_if-returns-in-None
parse_if-returns-in-None t c =
    let p = room_after c.in_ok-tested.ensures refl {t = 0} c.requires c.parse_l_exp.auto.tree (omega arith) in
    let f = wanted_fewer p (c.in_ok-d.ensures then_word refl) refl in
    if_short _ _ _ c.in_ok-tested.ensures refl (c.in_ok-d.ensures then_word refl) refl f c.in_ok-then_part.ensures (some_at c.in-Some.is) c.in_ok-else_part.ensures (none_at c.in-None.is) c.seal-in-None.ensures

pub parse_statement-returns-then-depth-ge-MAX_OPEN : goal.parse_statement-returns-then-depth-ge-MAX_OPEN
parse_statement-returns-then-depth-ge-MAX_OPEN t c =
    refused (stmt_deep _ _ c.if-depth-ge-MAX_OPEN.true)

pub parse_statement-returns-in_err-c : goal.parse_statement-returns-in_err-c
parse_statement-returns-in_err-c t c =
    rw (left_as c.from_residual.ensures) (refused (stmt_refused _ _ c.if-depth-ge-MAX_OPEN.false c.in_err-c.ensures refl))

pub parse_statement-parse_assign-requires : goal.parse_statement-parse_assign-requires
parse_statement-parse_assign-requires t c =
    record {
      room = room_taken c.requires c.in_ok-c.ensures refl c.take.ensures _ 16 (omega arith);
      len_in_bounds = (saw c.in_ok-c.ensures refl c.requires.place c.requires.stands).1.inside _ _ c.in-Identifier.is;
    }

pub parse_statement-parse_if-requires : goal.parse_statement-parse_if-requires
parse_statement-parse_if-requires t c =
    (omega (arith, c.decreases, one_fewer c.requires c.in_ok-c.ensures refl c.take-in-If.ensures), room_taken c.requires c.in_ok-c.ensures refl c.take-in-If.ensures _ 16 (omega arith))

pub parse_statement-parse_while-requires : goal.parse_statement-parse_while-requires
parse_statement-parse_while-requires t c =
    (omega (arith, c.decreases, one_fewer c.requires c.in_ok-c.ensures refl c.take-in-While.ensures), room_taken c.requires c.in_ok-c.ensures refl c.take-in-While.ensures _ 16 (omega arith))

pub parse_statement-parse_call-requires : goal.parse_statement-parse_call-requires
parse_statement-parse_call-requires t c =
    room_taken c.requires c.in_ok-c.ensures refl c.take-in-Call.ensures _ 16 (omega arith)

pub parse_statement-parse_read-requires : goal.parse_statement-parse_read-requires
parse_statement-parse_read-requires t c =
    room_taken c.requires c.in_ok-c.ensures refl c.take-in-Read.ensures _ 16 (omega arith)

pub parse_statement-parse_write-requires : goal.parse_statement-parse_write-requires
parse_statement-parse_write-requires t c =
    room_taken c.requires c.in_ok-c.ensures refl c.take-in-Write.ensures _ 16 (omega arith)

pub parse_statement-parse_body-requires : goal.parse_statement-parse_body-requires
parse_statement-parse_body-requires t c =
    (omega (arith, c.decreases, same_left c.requires c.in_ok-c.ensures refl), room_seen c.requires c.in_ok-c.ensures refl)

pub parse_statement-returns-in-Identifier : goal.parse_statement-returns-in-Identifier
parse_statement-returns-in-Identifier t c =
    let f = one_fewer c.requires c.in_ok-c.ensures refl c.take.ensures in
    moved _ (omega arith) (omega arith) (assign_arm _ _ c.if-depth-ge-MAX_OPEN.false c.in_ok-c.ensures refl _ _ c.in-Identifier.is c.take.ensures _ (omega arith)) c.parse_assign.ensures

pub parse_statement-returns-in-If : goal.parse_statement-returns-in-If
parse_statement-returns-in-If t c =
    let f = one_fewer c.requires c.in_ok-c.ensures refl c.take-in-If.ensures in
    moved _ (omega arith) (omega arith) (if_arm _ _ c.if-depth-ge-MAX_OPEN.false c.in_ok-c.ensures refl c.in-If.is c.take-in-If.ensures _ (omega arith)) c.parse_if.ensures

pub parse_statement-returns-in-While : goal.parse_statement-returns-in-While
parse_statement-returns-in-While t c =
    let f = one_fewer c.requires c.in_ok-c.ensures refl c.take-in-While.ensures in
    moved _ (omega arith) (omega arith) (while_arm _ _ c.if-depth-ge-MAX_OPEN.false c.in_ok-c.ensures refl c.in-While.is c.take-in-While.ensures _ (omega arith)) c.parse_while.ensures

pub parse_statement-returns-in-Call : goal.parse_statement-returns-in-Call
parse_statement-returns-in-Call t c =
    let f = one_fewer c.requires c.in_ok-c.ensures refl c.take-in-Call.ensures in
    moved _ (omega arith) (omega arith) (call_arm _ _ c.if-depth-ge-MAX_OPEN.false c.in_ok-c.ensures refl c.in-Call.is c.take-in-Call.ensures _ (omega arith)) c.parse_call.ensures

pub parse_statement-returns-in-Read : goal.parse_statement-returns-in-Read
parse_statement-returns-in-Read t c =
    let f = one_fewer c.requires c.in_ok-c.ensures refl c.take-in-Read.ensures in
    moved _ (omega arith) (omega arith) (read_arm _ _ c.if-depth-ge-MAX_OPEN.false c.in_ok-c.ensures refl c.in-Read.is c.take-in-Read.ensures _ (omega arith)) c.parse_read.ensures

pub parse_statement-returns-in-Write : goal.parse_statement-returns-in-Write
parse_statement-returns-in-Write t c =
    let f = one_fewer c.requires c.in_ok-c.ensures refl c.take-in-Write.ensures in
    moved _ (omega arith) (omega arith) (write_arm _ _ c.if-depth-ge-MAX_OPEN.false c.in_ok-c.ensures refl c.in-Write.is c.take-in-Write.ensures _ (omega arith)) c.parse_write.ensures

pub parse_statement-returns-in-Begin : goal.parse_statement-returns-in-Begin
parse_statement-returns-in-Begin t c =
    body_arm _ _ c.if-depth-ge-MAX_OPEN.false c.in_ok-c.ensures refl c.in-Begin.is _ (omega arith) (same_left c.requires c.in_ok-c.ensures refl) _ c.parse_body.ensures

pub parse_statement-returns-in_default : goal.parse_statement-returns-in_default
parse_statement-returns-in_default t c =
    stmt_none _ _ c.if-depth-ge-MAX_OPEN.false c.in_ok-c.ensures refl c.in_default.not-Identifier c.in_default.not-If c.in_default.not-While c.in_default.not-Call c.in_default.not-Begin c.in_default.not-Read c.in_default.not-Write c.requires

pub parse_statements-loop-member-init : goal.parse_statements-loop-member-init
parse_statements-loop-member-init t c =
    M.members_start _ _ _ _ _ (omega (arith, c.requires.room))

pub parse_statements-parse_statement-requires : goal.parse_statements-parse_statement-requires
parse_statements-parse_statement-requires t c =
    let p = room_at c.requires refl (c.args.used + 4) 4 (omega arith) in
    (omega (arith, c.decreases, c.loop-member.invariant.fewer), M.members_room _ _ c.loop-member.invariant p)

pub parse_statements-returns-in_err-member : goal.parse_statements-returns-in_err-member
parse_statements-returns-in_err-member t c =
    rw (left_as c.from_residual.ensures) (refused (M.members_refused _ _ c.loop-member.invariant (M.member_refused _ _ (refuses c.in_err-member.ensures))))

pub parse_statements-read_on-requires : goal.parse_statements-read_on-requires
parse_statements-read_on-requires t c =
    let p = room_at c.requires refl (c.args.used + 4) 4 (omega arith) in
    let b = M.members_room _ _ c.loop-member.invariant p in
    let h = c.in_ok-member.ensures in
    let q = none_at c.in_default.is in
    (omega (arith, c.decreases, c.loop-member.invariant.fewer, quiet_left h q), room_quiet h q b c.parse_statement.auto.tree (omega arith))

pub parse_statements-returns-in_err-g : goal.parse_statements-returns-in_err-g
parse_statements-returns-in_err-g t c =
    let p = room_at c.requires refl (c.args.used + 4) 4 (omega arith) in
    rw (left_as c.from_residual-in_err-g.ensures) (M.members_read_on _ _ c.loop-member.invariant c.in_ok-member.ensures (none_at c.in_default.is) p _ (omega arith) _ c.in_err-g.ensures)

pub parse_statements-returns-in_default : goal.parse_statements-returns-in_default
parse_statements-returns-in_default t c =
    let p = room_at c.requires refl (c.args.used + 4) 4 (omega arith) in
    M.members_read_on _ _ c.loop-member.invariant c.in_ok-member.ensures (none_at c.in_default.is) p _ (omega arith) _ c.in_ok-g.ensures

pub parse_statements-overflow_add-count : goal.parse_statements-overflow_add-count
parse_statements-overflow_add-count t c =
    let g = grew c.in_ok-member.ensures (some_at c.in-Some.is) in
    omega (arith, c.loop-member.invariant.few, c.loop-member.invariant.room, c.loop-member.invariant.same, c.requires.room, c.requires.small)

pub parse_statements-returns-in_err-f : goal.parse_statements-returns-in_err-f
parse_statements-returns-in_err-f t c =
    rw (left_as c.from_residual-in_err-f.ensures) (refused (M.members_refused _ _ c.loop-member.invariant (M.member_stop _ _ c.in_ok-member.ensures (some_at c.in-Some.is) c.in_err-f.ensures refl)))

pub parse_statements-seal-requires : goal.parse_statements-seal-requires
parse_statements-seal-requires t c =
    let p = room_at c.requires refl (c.args.used + 4) 4 (omega arith) in
    let i = c.loop-member.invariant in
    let q = M.members_room _ _ i p in
    let h = c.in_ok-member.ensures in
    let e = some_at c.in-Some.is in
    let g = grew h e in
    let k = c.parse_statement.auto.tree in
    record {
      i_bound = (omega (arith, i.above, g.above), omega (arith, g.room, q.room));
      count_le_end = (M.members_few _ _ i h e p, omega (arith, q.small));
    }

pub parse_statements-returns-in_default-token : goal.parse_statements-returns-in_default-token
parse_statements-returns-in_default-token t c =
    let p = room_at c.requires refl (c.args.used + 4) 4 (omega arith) in
    let h = c.in_ok-member.ensures in
    let e = some_at c.in-Some.is in
    let q = room_after h e {t = 0} (M.members_room _ _ c.loop-member.invariant p) c.parse_statement.auto.tree (omega arith) in
    M.members_done _ _ c.loop-member.invariant h e c.in_ok-f.ensures refl c.in_default-token.not-Semicolon (same_left q c.in_ok-f.ensures refl) _ refl c.seal.ensures

pub parse_statements-loop-member-smaller : goal.parse_statements-loop-member-smaller
parse_statements-loop-member-smaller t c =
    let p = room_at c.requires refl (c.args.used + 4) 4 (omega arith) in
    let h = c.in_ok-member.ensures in
    let e = some_at c.in-Some.is in
    let q = room_after h e {t = 0} (M.members_room _ _ c.loop-member.invariant p) c.parse_statement.auto.tree (omega arith) in
    omega (arith, one_fewer q c.in_ok-f.ensures refl c.take-c.ensures, (grew h e).fewer)

pub parse_statements-loop-member-preserved : goal.parse_statements-loop-member-preserved
parse_statements-loop-member-preserved t c =
    let p = room_at c.requires refl (c.args.used + 4) 4 (omega arith) in
    let h = c.in_ok-member.ensures in
    let e = some_at c.in-Some.is in
    let q = room_after h e {t = 0} (M.members_room _ _ c.loop-member.invariant p) c.parse_statement.auto.tree (omega arith) in
    M.members_more _ _ c.loop-member.invariant h e c.in_ok-f.ensures refl c.in-Semicolon.is c.take-c.ensures (one_fewer q c.in_ok-f.ensures refl c.take-c.ensures) c.parse_statement.auto.tree p

pub parse_while-returns-in_err-tested : goal.parse_while-returns-in_err-tested
parse_while-returns-in_err-tested t c =
    rw (left_as c.from_residual.ensures) (refused (looped_refused _ _ (refuses c.in_err-tested.ensures)))

pub parse_while-returns-in_err-d : goal.parse_while-returns-in_err-d
parse_while-returns-in_err-d t c =
    rw (left_as c.from_residual-in_err-d.ensures) (refused (looped_stop _ _ _ c.in_ok-tested.ensures refl (c.in_err-d.ensures do_word refl) refl))

pub parse_while-parse_statement-requires : goal.parse_while-parse_statement-requires
parse_while-parse_statement-requires t c =
    let p = room_after c.in_ok-tested.ensures refl {t = 0} c.requires c.parse_l_exp.auto.tree (omega arith) in
    (omega (arith, c.decreases, wanted_fewer p (c.in_ok-d.ensures do_word refl) refl, (grew c.in_ok-tested.ensures refl).fewer), room_took p (c.in_ok-d.ensures do_word refl) refl _ 4 (omega arith))

pub parse_while-returns-in_err-repeated : goal.parse_while-returns-in_err-repeated
parse_while-returns-in_err-repeated t c =
    let p = room_after c.in_ok-tested.ensures refl {t = 0} c.requires c.parse_l_exp.auto.tree (omega arith) in
    let f = wanted_fewer p (c.in_ok-d.ensures do_word refl) refl in
    rw (left_as c.from_residual-in_err-repeated.ensures) (refused (looped_in _ _ _ c.in_ok-tested.ensures refl (c.in_ok-d.ensures do_word refl) refl f (refuses c.in_err-repeated.ensures)))

pub parse_while-returns-in_default : goal.parse_while-returns-in_default
parse_while-returns-in_default t c =
    let p = room_after c.in_ok-tested.ensures refl {t = 0} c.requires c.parse_l_exp.auto.tree (omega arith) in
    let f = wanted_fewer p (c.in_ok-d.ensures do_word refl) refl in
    let h = c.in_ok-repeated.ensures in
    let q = none_at c.in_default.is in
    nothing (omega (arith, f, (grew c.in_ok-tested.ensures refl).fewer, quiet_left h q)) (looped_quiet _ _ _ c.in_ok-tested.ensures refl (c.in_ok-d.ensures do_word refl) refl f _ (quiet h q))

pub parse_while-seal-requires : goal.parse_while-seal-requires
parse_while-seal-requires t c =
    let p = room_after c.in_ok-tested.ensures refl {t = 0} c.requires c.parse_l_exp.auto.tree (omega arith) in
    let f = wanted_fewer p (c.in_ok-d.ensures do_word refl) refl in
    let g = grew c.in_ok-tested.ensures refl in
    let h = grew c.in_ok-repeated.ensures (some_at c.in-Some.is) in
    let k = c.parse_statement.auto.tree in
    record {
      i_bound = (omega (arith, g.above, h.above), omega (arith, h.room, p.room));
      count_le_end = (omega (arith, g.above, h.above), omega (arith, p.small));
    }

pub parse_while-returns : goal.parse_while-returns
parse_while-returns t c =
    let p = room_after c.in_ok-tested.ensures refl {t = 0} c.requires c.parse_l_exp.auto.tree (omega arith) in
    let f = wanted_fewer p (c.in_ok-d.ensures do_word refl) refl in
    looped_done _ _ _ c.in_ok-tested.ensures refl (c.in_ok-d.ensures do_word refl) refl f c.in_ok-repeated.ensures (some_at c.in-Some.is) c.seal.ensures

pub read_on-loop-d-init : goal.read_on-loop-d-init
read_on-loop-d-init t c =
    M.reading_start _ _ _ _ _ (omega (arith, c.requires.room))

pub read_on-returns-in_err-d : goal.read_on-returns-in_err-d
read_on-returns-in_err-d t c =
    rw (left_as c.from_residual.ensures) (refused (M.reading_stop _ _ c.loop-d.invariant c.in_err-d.ensures refl))

pub read_on-returns-in_default : goal.read_on-returns-in_default
read_on-returns-in_default t c =
    M.reading_end _ _ c.loop-d.invariant c.in_ok-d.ensures refl c.in_default.not-Semicolon (same_left (M.reading_room _ _ c.loop-d.invariant c.requires) c.in_ok-d.ensures refl)

pub read_on-parse_statement-requires : goal.read_on-parse_statement-requires
read_on-parse_statement-requires t c =
    let q = M.reading_room _ _ c.loop-d.invariant c.requires in
    (omega (arith, c.decreases, c.loop-d.invariant.fewer, one_fewer q c.in_ok-d.ensures refl c.take.ensures), room_taken q c.in_ok-d.ensures refl c.take.ensures _ 4 (omega arith))

pub read_on-returns-in_err-e : goal.read_on-returns-in_err-e
read_on-returns-in_err-e t c =
    let q = M.reading_room _ _ c.loop-d.invariant c.requires in
    rw (left_as c.from_residual-in_err-e.ensures) (refused (M.reading_refused _ _ c.loop-d.invariant c.in_ok-d.ensures refl c.in-Semicolon.is c.take.ensures (one_fewer q c.in_ok-d.ensures refl c.take.ensures) (refuses c.in_err-e.ensures)))

pub read_on-loop-d-smaller : goal.read_on-loop-d-smaller
read_on-loop-d-smaller t c =
    let q = M.reading_room _ _ c.loop-d.invariant c.requires in
    omega (arith, one_fewer q c.in_ok-d.ensures refl c.take.ensures, try_left _ _ c.in_ok-e.ensures)

pub read_on-loop-d-preserved : goal.read_on-loop-d-preserved
read_on-loop-d-preserved t c =
    let q = M.reading_room _ _ c.loop-d.invariant c.requires in
    M.reading_more _ _ c.loop-d.invariant c.in_ok-d.ensures refl c.in-Semicolon.is c.take.ensures (one_fewer q c.in_ok-d.ensures refl c.take.ensures) (room_taken q c.in_ok-d.ensures refl c.take.ensures c.args.used 4 (omega arith)) _ c.in_ok-e.ensures c.parse_statement.auto.tree

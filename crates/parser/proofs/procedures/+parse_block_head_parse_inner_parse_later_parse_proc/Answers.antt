-- The proof of the cycle of calls of the readers of procedures. Each member's measure is eight times the tokens left, and its rank.
use mathlib.Core.Path.{refl}
use native.Mathlib.Numerals.{add-one}
use native.Mathlib.Omega.{arith}
use Rattle.parser.proofs.Answers.{refused, grew, room_after, moved, room_at, room_seen, same_left, room_taken, one_fewer, left_as, refuses}
use Rattle.parser.proofs.Tries.{none_at, some_at, quiet, quiet_left, room_quiet, nothing}
use Rattle.parser.proofs.Sequences.{first_refused, second_done}
use Rattle.parser.proofs.Procs.{proc_deep, proc_head, proc_front, proc_body, proc_quiet_later, proc_quiet, proc_later, proc_none, proc_done, head_large, later_stop, later_there, later_none, inner_stop, inner_none, inner_in, inner_up, inner_absent, front_whole, front_join}
use Rattle.parser.proofs.procedures.+parse_block_head_parse_inner_parse_later_parse_proc.Goals as goal

pub parse_block_head-parse_decls-requires : goal.parse_block_head-parse_decls-requires
parse_block_head-parse_decls-requires t c =
    room_at c.requires refl _ 8 (omega arith)

pub parse_block_head-returns-in_err-end : goal.parse_block_head-returns-in_err-end
parse_block_head-returns-in_err-end t c =
    rw (left_as c.from_residual.ensures) (refused (first_refused (front_whole _ _) (omega arith) (refuses c.in_err-end.ensures)))

pub parse_block_head-parse_inner-requires : goal.parse_block_head-parse_inner-requires
parse_block_head-parse_inner-requires t c =
    (omega (arith, c.decreases, (grew c.in_ok-end.ensures refl).fewer), room_after c.in_ok-end.ensures refl {t = 4} c.requires c.parse_decls.auto.tree (omega arith))

pub parse_block_head-returns : goal.parse_block_head-returns
parse_block_head-returns t c =
    second_done (front_whole _ _) front_join c.in_ok-end.ensures refl c.requires.place c.requires.stands _ 0 12 c.parse_inner.ensures (omega arith) (omega arith) (omega arith)

pub parse_inner-returns-in_err-c : goal.parse_inner-returns-in_err-c
parse_inner-returns-in_err-c t c =
    rw (left_as c.from_residual.ensures) (refused (inner_stop _ _ c.in_err-c.ensures refl))

pub parse_inner-returns-in_default : goal.parse_inner-returns-in_default
parse_inner-returns-in_default t c =
    inner_none _ _ c.in_ok-c.ensures refl c.in_default.not-Procedure (same_left c.requires c.in_ok-c.ensures refl) (omega (arith, c.requires.room)) c.push.ensures.0 c.push.ensures.1

pub parse_inner-parse_proc-requires : goal.parse_inner-parse_proc-requires
parse_inner-parse_proc-requires t c =
    (omega (arith, c.decreases, same_left c.requires c.in_ok-c.ensures refl), room_at (room_seen c.requires c.in_ok-c.ensures refl) refl _ 4 (omega arith))

pub parse_inner-returns-in_err-procedures : goal.parse_inner-returns-in_err-procedures
parse_inner-returns-in_err-procedures t c =
    rw (left_as c.from_residual-in_err-procedures.ensures) (refused (inner_in _ _ c.in_ok-c.ensures refl c.in-Procedure.is (refuses c.in_err-procedures.ensures) (same_left c.requires c.in_ok-c.ensures refl)))

pub parse_inner-returns-in-Some : goal.parse_inner-returns-in-Some
parse_inner-returns-in-Some t c =
    inner_up _ _ c.in_ok-c.ensures refl c.in-Procedure.is (same_left c.requires c.in_ok-c.ensures refl) c.in_ok-procedures.ensures (some_at c.in-Some.is)

pub parse_inner-returns-in-None : goal.parse_inner-returns-in-None
parse_inner-returns-in-None t c =
    inner_absent _ _ c.in_ok-c.ensures refl c.in-Procedure.is (same_left c.requires c.in_ok-c.ensures refl) c.in_ok-procedures.ensures (none_at c.in-None.is) (omega (arith, c.requires.room, c.parse_proc.auto.tree)) c.push-in-None.ensures.0 c.push-in-None.ensures.1

pub parse_later-returns-in_err-c : goal.parse_later-returns-in_err-c
parse_later-returns-in_err-c t c =
    rw (left_as c.from_residual.ensures) (refused (later_stop _ _ c.in_err-c.ensures refl))

pub parse_later-parse_proc-requires : goal.parse_later-parse_proc-requires
parse_later-parse_proc-requires t c =
    (omega (arith, c.decreases, one_fewer c.requires c.in_ok-c.ensures refl c.take.ensures), room_taken c.requires c.in_ok-c.ensures refl c.take.ensures _ 4 (omega arith))

pub parse_later-returns-in-Semicolon : goal.parse_later-returns-in-Semicolon
parse_later-returns-in-Semicolon t c =
    let f = one_fewer c.requires c.in_ok-c.ensures refl c.take.ensures in
    moved _ (omega arith) (omega arith) (later_there _ _ c.in_ok-c.ensures refl c.take.ensures c.in-Semicolon.is) c.parse_proc.ensures

pub parse_later-returns-in_default : goal.parse_later-returns-in_default
parse_later-returns-in_default t c =
    later_none _ _ c.in_ok-c.ensures refl c.in_default.not-Semicolon (same_left c.requires c.in_ok-c.ensures refl) (omega (arith, c.requires.room)) c.push.ensures.0 c.push.ensures.1

pub parse_proc-returns-then-depth-ge-MAX_OPEN : goal.parse_proc-returns-then-depth-ge-MAX_OPEN
parse_proc-returns-then-depth-ge-MAX_OPEN t c =
    refused (proc_deep _ _ _ refl c.if-depth-ge-MAX_OPEN.true)

pub parse_proc-parse_proc_head-requires : goal.parse_proc-parse_proc_head-requires
parse_proc-parse_proc_head-requires t c =
    room_at c.requires refl _ 0 (omega arith)

pub parse_proc-returns-in_err-headed : goal.parse_proc-returns-in_err-headed
parse_proc-returns-in_err-headed t c =
    rw (left_as c.from_residual.ensures) (refused (proc_head _ _ _ refl c.if-depth-ge-MAX_OPEN.false (refuses c.in_err-headed.ensures)))

pub parse_proc-parse_block_head-requires : goal.parse_proc-parse_block_head-requires
parse_proc-parse_block_head-requires t c =
    let a = room_after c.in_ok-headed.ensures refl {t = 32} c.requires c.parse_proc_head.auto.tree (omega arith) in
    let g = grew c.in_ok-headed.ensures refl in
    (omega (arith, c.decreases, g.above, g.room), room_at a refl _ 12 (omega arith))

pub parse_proc-returns-in_err-declared : goal.parse_proc-returns-in_err-declared
parse_proc-returns-in_err-declared t c =
    rw (left_as c.from_residual-in_err-declared.ensures) (refused (proc_front _ _ _ (add-one _) c.if-depth-ge-MAX_OPEN.false _ c.in_ok-headed.ensures refl (refuses c.in_err-declared.ensures)))

pub parse_proc-parse_body-requires : goal.parse_proc-parse_body-requires
parse_proc-parse_body-requires t c =
    let a = room_after c.in_ok-headed.ensures refl {t = 32} c.requires c.parse_proc_head.auto.tree (omega arith) in
    let b = room_after c.in_ok-declared.ensures refl {t = 16} a c.parse_block_head.auto.tree (omega arith) in
    room_at b refl _ 4 (omega arith)

pub parse_proc-returns-in_err-body : goal.parse_proc-returns-in_err-body
parse_proc-returns-in_err-body t c =
    rw (left_as c.from_residual-in_err-body.ensures) (refused (proc_body _ _ _ (add-one _) c.if-depth-ge-MAX_OPEN.false _ c.in_ok-headed.ensures refl c.in_ok-declared.ensures refl (refuses c.in_err-body.ensures)))

pub parse_proc-parse_later-requires : goal.parse_proc-parse_later-requires
parse_proc-parse_later-requires t c =
    let a = room_after c.in_ok-headed.ensures refl {t = 32} c.requires c.parse_proc_head.auto.tree (omega arith) in
    let b = room_after c.in_ok-declared.ensures refl {t = 16} a c.parse_block_head.auto.tree (omega arith) in
    let g = grew c.in_ok-headed.ensures refl in
    let h = c.in_ok-body.ensures in
    let q = none_at c.in_default.is in
    (omega (arith, c.decreases, g.above, g.room, (grew c.in_ok-declared.ensures refl).fewer, quiet_left h q), room_quiet h q b c.parse_body.auto.tree (omega arith))

pub parse_proc-returns-in_err-f : goal.parse_proc-returns-in_err-f
parse_proc-returns-in_err-f t c =
    rw (left_as c.from_residual-in_err-f.ensures) (refused (proc_quiet_later _ _ _ (add-one _) c.if-depth-ge-MAX_OPEN.false _ c.in_ok-headed.ensures refl c.in_ok-declared.ensures refl c.in_ok-body.ensures (none_at c.in_default.is) (refuses c.in_err-f.ensures)))

pub parse_proc-returns-in_default : goal.parse_proc-returns-in_default
parse_proc-returns-in_default t c =
    proc_quiet _ _ _ (add-one _) c.if-depth-ge-MAX_OPEN.false _ c.in_ok-headed.ensures refl c.in_ok-declared.ensures refl c.in_ok-body.ensures (none_at c.in_default.is) _ c.in_ok-f.ensures

pub parse_proc-parse_later-requires-2 : goal.parse_proc-parse_later-requires-2
parse_proc-parse_later-requires-2 t c =
    let a = room_after c.in_ok-headed.ensures refl {t = 32} c.requires c.parse_proc_head.auto.tree (omega arith) in
    let b = room_after c.in_ok-declared.ensures refl {t = 16} a c.parse_block_head.auto.tree (omega arith) in
    let d = room_after c.in_ok-body.ensures (some_at c.in-Some.is) {t = 4} b c.parse_body.auto.tree (omega arith) in
    let g = grew c.in_ok-headed.ensures refl in
    (omega (arith, c.decreases, g.above, g.room, (grew c.in_ok-declared.ensures refl).fewer, (grew c.in_ok-body.ensures (some_at c.in-Some.is)).fewer), room_at d refl _ 4 (omega arith))

pub parse_proc-returns-in_err-later : goal.parse_proc-returns-in_err-later
parse_proc-returns-in_err-later t c =
    rw (left_as c.from_residual-in_err-later.ensures) (refused (proc_later _ _ _ (add-one _) c.if-depth-ge-MAX_OPEN.false _ c.in_ok-headed.ensures refl c.in_ok-declared.ensures refl c.in_ok-body.ensures (some_at c.in-Some.is) (refuses c.in_err-later.ensures)))

pub parse_proc-returns-in_default-later : goal.parse_proc-returns-in_default-later
parse_proc-returns-in_default-later t c =
    let g = grew c.in_ok-headed.ensures refl in
    let h = c.in_ok-later.ensures in
    let q = none_at c.in_default-later.is in
    nothing (omega (arith, g.fewer, (grew c.in_ok-declared.ensures refl).fewer, (grew c.in_ok-body.ensures (some_at c.in-Some.is)).fewer, quiet_left h q)) (proc_none _ _ _ (add-one _) c.if-depth-ge-MAX_OPEN.false _ c.in_ok-headed.ensures refl c.in_ok-declared.ensures refl c.in_ok-body.ensures (some_at c.in-Some.is) _ (quiet h q))

pub parse_proc-seal-requires : goal.parse_proc-seal-requires
parse_proc-seal-requires t c =
    let a = room_after c.in_ok-headed.ensures refl {t = 32} c.requires c.parse_proc_head.auto.tree (omega arith) in
    let b = room_after c.in_ok-declared.ensures refl {t = 16} a c.parse_block_head.auto.tree (omega arith) in
    let d = room_after c.in_ok-body.ensures (some_at c.in-Some.is) {t = 4} b c.parse_body.auto.tree (omega arith) in
    let e = head_large c.in_ok-headed.ensures refl c.requires.place c.requires.stands in
    let f = (grew c.in_ok-declared.ensures refl).above in
    let g = (grew c.in_ok-body.ensures (some_at c.in-Some.is)).above in
    let i = grew c.in_ok-later.ensures (some_at c.in-Some-later.is) in
    let k = c.parse_later-2.auto.tree in
    record {
      i_bound = (omega (arith, i.above), omega (arith, i.room, d.room));
      count_le_end = (omega (arith, i.above), omega (arith, d.small));
    }

pub parse_proc-returns : goal.parse_proc-returns
parse_proc-returns t c =
    proc_done _ _ _ (add-one _) c.if-depth-ge-MAX_OPEN.false _ c.in_ok-headed.ensures refl c.in_ok-declared.ensures refl c.in_ok-body.ensures (some_at c.in-Some.is) c.in_ok-later.ensures (some_at c.in-Some-later.is) c.seal.ensures

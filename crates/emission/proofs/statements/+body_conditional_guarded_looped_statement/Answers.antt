-- The proof of the cycle of calls of statements.
use native.Mathlib.Omega.{arith}
use mathlib.Core.Path.{refl}
use Rattle.tree.specs.Parts.{stmt_fits, guard_fits, if_other}
use Rattle.emission.specs.Drafting.{wrote_at}
use Rattle.emission.specs.Jumps.{one}
use Rattle.emission.specs.Passed.{passed}
use Rattle.emission.proofs.Lists.{loop_head, loop_stop, loop_more, loop_done}
use Rattle.emission.proofs.Stmts.{body_start_lem, body_empty}
use Rattle.emission.proofs.Flow.{has_cond, has_inner, guard_stop, guard_full, guard_inner, guard_made, has_if, if_stop, if_full, if_short, if_inner, if_made, has_while, while_stop, while_made, is_write_lem}
use Rattle.emission.proofs.statements.+body_conditional_guarded_looped_statement.Goals as goal

pub body-bounds-env-i : goal.body-bounds-env-i
body-bounds-env-i t c = omega (arith, stmt_fits c.requires.has_stmt.at)

pub body-loop-init : goal.body-loop-init
body-loop-init t c = body_start_lem _ _ _ _ _ _ _ c.requires.has_kind refl c.requires.ready.most

pub body-statement-requires : goal.body-statement-requires
body-statement-requires t c =
    let d = loop_head _ _ _ _ _ _ _ _ _ c.loop.invariant c.loop-test.true c.requires.has_stmt.stmt c.requires.has_stmt.at in
    (omega (arith, c.decreases, d.fits, d.beyond), (record { known = c.requires.ready.known; room = omega (arith, c.requires.ready.room, c.loop.auto.draft); most = d.most }, record { stmt = d.head; at = d.at }))

pub body-returns-in_err-m : goal.body-returns-in_err-m
body-returns-in_err-m t c = rw (passed c.from_residual.ensures.1) (loop_stop _ _ _ _ _ _ _ _ _ c.loop.invariant c.loop-test.true _ c.in_err-m.ensures)

pub body-after-j-requires : goal.body-after-j-requires
body-after-j-requires t c =
    let d = loop_head _ _ _ _ _ _ _ _ _ c.loop.invariant c.loop-test.true c.requires.has_stmt.stmt c.requires.has_stmt.at in
    (_, d.stands)

pub body-loop-preserved : goal.body-loop-preserved
body-loop-preserved t c = loop_more _ _ _ _ _ _ _ _ _ c.loop.invariant c.loop-test.true c.in_ok-m.ensures c.after-j.ensures

pub body-returns : goal.body-returns
body-returns t c = loop_done _ _ _ _ _ _ _ _ _ c.loop.invariant (body_empty _) c.loop-test.false

pub conditional-guarded-requires : goal.conditional-guarded-requires
conditional-guarded-requires t c = (omega (arith, c.decreases), (c.requires.ready, has_if c.requires.has_kind c.requires.has_stmt))

pub conditional-returns-in_err-p : goal.conditional-returns-in_err-p
conditional-returns-in_err-p t c = rw (passed c.from_residual.ensures.1) (if_stop _ c.requires.has_kind c.in_err-p.ensures _)

pub conditional-returns-in_err-m : goal.conditional-returns-in_err-m
conditional-returns-in_err-m t c = rw (passed c.from_residual-in_err-m.ensures.1) (if_full _ c.requires.has_kind c.in_ok-p.ensures c.requires.ready.most c.in_err-m.ensures _)

pub conditional-bounds-env-i : goal.conditional-bounds-env-i
conditional-bounds-env-i t c = omega (arith, stmt_fits c.requires.has_stmt.at)

pub conditional-fix-requires-clause-p_lt_max_code : goal.conditional-fix-requires-clause-p_lt_max_code
conditional-fix-requires-clause-p_lt_max_code t c =
    let w = one c.in_ok-m.ensures in
    (w.below, omega (arith, w.below, w.ends))

pub conditional-returns-then-env-i-lt3 : goal.conditional-returns-then-env-i-lt3
conditional-returns-then-env-i-lt3 t c = if_short _ c.requires.has_kind c.in_ok-p.ensures c.requires.ready.most c.in_ok-m.ensures (omega (arith, c.requires.ready.room, c.guarded.auto.draft)) c.if-env-i-lt3.true c.fix.ensures

pub conditional-after-requires : goal.conditional-after-requires
conditional-after-requires t c = (_, (has_cond (has_if c.requires.has_kind c.requires.has_stmt)).at.stands)

pub conditional-after-other-requires : goal.conditional-after-other-requires
conditional-after-other-requires t c = (_, (has_inner c.after.ensures (has_if c.requires.has_kind c.requires.has_stmt)).has.at.stands)

pub conditional-statement-requires : goal.conditional-statement-requires
conditional-statement-requires t c =
    let d = if_other c.requires.has_kind c.requires.has_stmt c.if-env-i-lt3.false c.after.ensures c.after-other.ensures in
    let w = one c.in_ok-m.ensures in
    (omega (arith, c.decreases, d.fits, d.beyond), (record { known = c.requires.ready.known; room = omega (arith, c.requires.ready.room, c.guarded.auto.draft, c.emit.auto.draft); most = omega (arith, w.below, w.ends) }, d.has))

pub conditional-returns-in_err-q : goal.conditional-returns-in_err-q
conditional-returns-in_err-q t c = rw (passed c.from_residual-in_err-q.ensures.1) (if_inner _ c.requires.has_kind c.in_ok-p.ensures c.requires.ready.most c.in_ok-m.ensures (omega (arith, c.requires.ready.room, c.guarded.auto.draft)) c.if-env-i-lt3.false c.after.ensures c.after-other.ensures c.in_err-q.ensures _)

pub conditional-fix-requires-2-clause-p_lt_max_code : goal.conditional-fix-requires-2-clause-p_lt_max_code
conditional-fix-requires-2-clause-p_lt_max_code t c =
    let d = if_other c.requires.has_kind c.requires.has_stmt c.if-env-i-lt3.false c.after.ensures c.after-other.ensures in
    ((one c.in_ok-m.ensures).below, omega (arith, (wrote_at (c.in_ok-q.ensures _ d.has.at)).most))

pub conditional-returns : goal.conditional-returns
conditional-returns t c = if_made _ c.requires.has_kind c.in_ok-p.ensures c.requires.ready.most c.in_ok-m.ensures (omega (arith, c.requires.ready.room, c.guarded.auto.draft)) c.if-env-i-lt3.false c.after.ensures c.after-other.ensures c.in_ok-q.ensures c.fix-2.ensures

pub guarded-overflow_add-i : goal.guarded-overflow_add-i
guarded-overflow_add-i t c = omega (arith, guard_fits c.requires.has_guard.at, c.well_formed)

pub guarded-l_exp-requires-clause-has_cond : goal.guarded-l_exp-requires-clause-has_cond
guarded-l_exp-requires-clause-has_cond t c = has_cond c.requires.has_guard

pub guarded-returns-in_err-p : goal.guarded-returns-in_err-p
guarded-returns-in_err-p t c = rw (passed c.from_residual.ensures.1) (guard_stop _ c.in_err-p.ensures _)

pub guarded-returns-in_err-m : goal.guarded-returns-in_err-m
guarded-returns-in_err-m t c = rw (passed c.from_residual-in_err-m.ensures.1) (guard_full _ c.in_ok-p.ensures c.requires.ready.most c.in_err-m.ensures _)

pub guarded-overflow_add-i-2 : goal.guarded-overflow_add-i-2
guarded-overflow_add-i-2 t c = omega (arith, guard_fits c.requires.has_guard.at, c.well_formed)

pub guarded-after-requires : goal.guarded-after-requires
guarded-after-requires t c = (_, (has_cond c.requires.has_guard).at.stands)

pub guarded-statement-requires : goal.guarded-statement-requires
guarded-statement-requires t c =
    let d = has_inner c.after.ensures c.requires.has_guard in
    let w = one c.in_ok-m.ensures in
    (omega (arith, c.decreases, d.fits, d.beyond), (record { known = c.requires.ready.known; room = omega (arith, c.requires.ready.room, c.l_exp.auto.draft, c.emit.auto.draft); most = omega (arith, w.below, w.ends) }, d.has))

pub guarded-returns-in_err-q : goal.guarded-returns-in_err-q
guarded-returns-in_err-q t c = rw (passed c.from_residual-in_err-q.ensures.1) (guard_inner _ c.in_ok-p.ensures c.requires.ready.most c.in_ok-m.ensures c.after.ensures c.in_err-q.ensures _)

pub guarded-overflow_add-q : goal.guarded-overflow_add-q
guarded-overflow_add-q t c =
    let d = has_inner c.after.ensures c.requires.has_guard in
    omega (arith, (wrote_at (c.in_ok-q.ensures _ d.has.at)).most)

pub guarded-fix-requires-clause-p_lt_max_code : goal.guarded-fix-requires-clause-p_lt_max_code
guarded-fix-requires-clause-p_lt_max_code t c =
    let d = has_inner c.after.ensures c.requires.has_guard in
    ((one c.in_ok-m.ensures).below, omega (arith, (wrote_at (c.in_ok-q.ensures _ d.has.at)).most))

pub guarded-returns : goal.guarded-returns
guarded-returns t c = guard_made _ c.in_ok-p.ensures c.requires.ready.most c.in_ok-m.ensures c.after.ensures c.in_ok-q.ensures (omega (arith, c.requires.ready.room, c.l_exp.auto.draft)) c.fix.ensures

pub looped-guarded-requires : goal.looped-guarded-requires
looped-guarded-requires t c = (omega (arith, c.decreases), (c.requires.ready, has_while c.requires.has_kind c.requires.has_stmt))

pub looped-returns-in_err-p : goal.looped-returns-in_err-p
looped-returns-in_err-p t c = rw (passed c.from_residual.ensures.1) (while_stop _ c.requires.has_kind c.in_err-p.ensures _)

pub looped-returns : goal.looped-returns
looped-returns t c = while_made _ c.requires.has_kind c.in_ok-p.ensures c.requires.ready.most c.emit.ensures

pub statement-write-requires : goal.statement-write-requires
statement-write-requires t c =
    let d = c.in_default in
    record { ready = c.requires.ready; has_stmt = c.requires.has_stmt; has_kind = is_write_lem c.kind_at.ensures d.not-Assign d.not-If d.not-While d.not-Call d.not-Body d.not-Read c.requires.has_stmt.at }

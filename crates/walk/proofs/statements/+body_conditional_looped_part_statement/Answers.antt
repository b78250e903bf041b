-- The proof of the cycle of calls of statements.
use native.Mathlib.Omega.{arith}
use mathlib.Core.Path.{refl, ap, ◌∙◌}
use Rattle.std.proofs.Common.{Ok}
use Rattle.std.proofs.lemmas.Result.{err_from_is_err_and}
use Rattle.tree.specs.Parts.{stmt_fits, if_other}
use Rattle.tree.specs.Kinds.{not_kind}
use Rattle.tree.specs.declared.Kind.TheVariants.{Assign, If, While, Body, Read, Write}
use Rattle.walk.proofs.Members.{along_held, along_next, along_halt, along_more, along_done}
use Rattle.walk.proofs.Listed.{held_room}
use Rattle.walk.proofs.Testing.{passed_held, failed_held}
use Rattle.walk.proofs.Flow.{part_halt, part_tick, if_cond, if_inner, if_stop, if_passed, if_short, if_failed, while_cond, while_inner, laps_start, laps_held, laps_stop, laps_done, laps_halt, laps_more, laps_less}
use Rattle.walk.proofs.Bodies.{BodyF, body_start_lem, body_end, the_body, body_whole, call_done}
use Rattle.walk.proofs.statements.+body_conditional_looped_part_statement.Goals as goal

pub body-number_at-count-requires : goal.body-number_at-count-requires
body-number_at-count-requires t c = omega (arith, stmt_fits c.requires.has_stmt.at, c.well_formed)

pub body-loop-init : goal.body-loop-init
body-loop-init t c = (refl, refl, body_start_lem _ _ _ c.args.env.now _ _ _ _ _ c.args.progress.now c.number_at-count.ensures)

pub body-statement-requires : goal.body-statement-requires
body-statement-requires t c =
    let w = the_body c.requires.has_kind c.requires.has_stmt in
    let l = c.loop.invariant.2 w.0 w.1 in
    let n = along_next (BodyF _ _) _ _ _ _ _ _ _ _ _ _ _ _ _ _ l c.loop-test.true in
    (omega (arith, c.decreases, n.1.1.1, l.beyond), (c.requires.rows, (record { stmt = n.0; at = record { stands = n.1.0; named = n.1.1.0 } }, along_held (BodyF _ _) _ _ _ _ _ _ _ _ _ _ _ _ _ _ l c.requires.has_state)))

pub body-returns-in_err-statement : goal.body-returns-in_err-statement
body-returns-in_err-statement t c =
    let p = err_from_is_err_and c.from_residual.result c.from_residual.ensures.1 in
    rw (p.1, p.2) (body_whole _ _ _ _ c.args.env.now _ _ _ c.args.progress.now c.requires.has_kind
    (λ l a. along_halt (BodyF _ _) _ _ _ _ _ _ _ _ _ _ _ _ _ _ (c.loop.invariant.2 l a) c.loop-test.true _ _ (λ m st nm. c.statement.ensures m (record { stands = st; named = nm })) c.in_err-statement.was))

pub body-after-j-requires : goal.body-after-j-requires
body-after-j-requires t c =
    let w = the_body c.requires.has_kind c.requires.has_stmt in
    let n = along_next (BodyF _ _) _ _ _ _ _ _ _ _ _ _ _ _ _ _ (c.loop.invariant.2 w.0 w.1) c.loop-test.true in
    (_, n.1.0)

pub body-loop-preserved : goal.body-loop-preserved
body-loop-preserved t c = (
  c.statement.auto.vars ∙ c.loop.invariant.0,
  c.statement.auto.out ∙ c.loop.invariant.1,
  λ l a. along_more (BodyF _ _) _ _ _ _ _ _ _ _ _ _ _ _ _ _ (c.loop.invariant.2 l a) c.loop-test.true _ _ (λ m st nm. c.statement.ensures m (record { stands = st; named = nm })) c.in_ok-statement.was c.after-j.ensures,
)

pub body-returns : goal.body-returns
body-returns t c = body_whole _ _ _ _ c.args.env.now _ _ _ c.args.progress.now c.requires.has_kind
    (λ l a lv lo w h. along_done (BodyF _ _) _ _ _ _ _ _ _ _ _ _ _ _ _ _ (c.loop.invariant.2 l a) lv lo w h _ _ _ _ c.loop-test.false _ (λ b v. refl) (λ v held. body_end _ v held))

pub conditional-test-requires : goal.conditional-test-requires
conditional-test-requires t c = record { known = record { rows = c.requires.rows; room = held_room c.requires.has_state }; has_cond = if_cond c.requires.has_kind c.requires.has_stmt }

pub conditional-returns-in_err-holds : goal.conditional-returns-in_err-holds
conditional-returns-in_err-holds t c =
    let p = err_from_is_err_and c.from_residual.result c.from_residual.ensures.1 in
    rw (p.1, p.2) (if_stop _ _ _ _ c.args.env.now _ _ _ c.args.progress.now c.requires.has_kind c.test.ensures c.in_err-holds.was)

pub conditional-after-inner-requires : goal.conditional-after-inner-requires
conditional-after-inner-requires t c = (_, (if_cond c.requires.has_kind c.requires.has_stmt).at.stands)

pub conditional-part-requires : goal.conditional-part-requires
conditional-part-requires t c =
    let d = if_inner c.requires.has_kind c.requires.has_stmt c.after-inner.ensures in
    (omega (arith, c.decreases, d.fits, d.beyond), (c.requires.rows, (d.has, passed_held _ c.test.ensures (if_cond c.requires.has_kind c.requires.has_stmt) c.requires.has_state (c.in_ok-holds.was ∙ ap Ok c.if-holds.true))))

pub conditional-returns-then-holds : goal.conditional-returns-then-holds
conditional-returns-then-holds t c = if_passed _ _ _ _ c.args.env.now _ _ _ c.args.progress.now c.requires.has_kind c.test.ensures (c.in_ok-holds.was ∙ ap Ok c.if-holds.true) c.after-inner.ensures c.part.ensures

pub conditional-number_at-requires : goal.conditional-number_at-requires
conditional-number_at-requires t c = omega (arith, stmt_fits c.requires.has_stmt.at, c.well_formed)

pub conditional-returns-then-number_at-lt3 : goal.conditional-returns-then-number_at-lt3
conditional-returns-then-number_at-lt3 t c = if_short _ _ _ _ c.args.env.now _ _ _ c.args.progress.now c.requires.has_kind c.test.ensures (c.in_ok-holds.was ∙ ap Ok c.if-holds.false) (rw c.number_at.ensures at c.if-number_at-lt3.true)

pub conditional-after-other-requires : goal.conditional-after-other-requires
conditional-after-other-requires t c = (_, (if_inner c.requires.has_kind c.requires.has_stmt c.after-inner.ensures).has.at.stands)

pub conditional-statement-requires : goal.conditional-statement-requires
conditional-statement-requires t c =
    let d = if_other c.requires.has_kind c.requires.has_stmt (rw c.number_at.ensures at c.if-number_at-lt3.false) c.after-inner.ensures c.after-other.ensures in
    (omega (arith, c.decreases, d.fits, d.beyond), (c.requires.rows, (d.has, failed_held _ c.test.ensures (if_cond c.requires.has_kind c.requires.has_stmt) c.requires.has_state (c.in_ok-holds.was ∙ ap Ok c.if-holds.false))))

pub conditional-returns : goal.conditional-returns
conditional-returns t c = if_failed _ _ _ _ c.args.env.now _ _ _ c.args.progress.now c.requires.has_kind c.test.ensures (c.in_ok-holds.was ∙ ap Ok c.if-holds.false) (rw c.number_at.ensures at c.if-number_at-lt3.false) c.after-inner.ensures c.after-other.ensures c.statement.ensures

pub looped-after-inner-requires : goal.looped-after-inner-requires
looped-after-inner-requires t c = (_, (while_cond c.requires.has_kind c.requires.has_stmt).at.stands)

pub looped-loop-progress-init : goal.looped-loop-progress-init
looped-loop-progress-init t c = (refl, refl, laps_start _ _ _ _ c.args.env.now _ _ _ c.args.progress.now)

pub looped-test-requires : goal.looped-test-requires
looped-test-requires t c =
    let g = laps_held _ _ _ _ c.args.env.now _ _ _ c.args.progress.now _ _ _ c.loop-progress.invariant.2 c.requires.has_kind c.requires.has_stmt c.requires.has_state in
    record { known = record { rows = c.requires.rows; room = held_room g }; has_cond = while_cond c.requires.has_kind c.requires.has_stmt }

pub looped-returns-in_err-test : goal.looped-returns-in_err-test
looped-returns-in_err-test t c =
    let p = err_from_is_err_and c.from_residual.result c.from_residual.ensures.1 in
    rw (p.1, p.2) (laps_stop _ _ _ _ c.args.env.now _ _ _ c.args.progress.now _ _ _ c.loop-progress.invariant.2 c.test.ensures c.requires.has_kind c.in_err-test.was)

pub looped-part-requires : goal.looped-part-requires
looped-part-requires t c =
    let g = laps_held _ _ _ _ c.args.env.now _ _ _ c.args.progress.now _ _ _ c.loop-progress.invariant.2 c.requires.has_kind c.requires.has_stmt c.requires.has_state in
    let d = while_inner c.requires.has_kind c.requires.has_stmt c.after-inner.ensures in
    (omega (arith, c.decreases, d.fits, d.beyond), (c.requires.rows, (d.has, passed_held _ c.test.ensures (while_cond c.requires.has_kind c.requires.has_stmt) g (c.in_ok-test.was ∙ ap Ok c.if-branch.true))))

pub looped-returns-in_err-part : goal.looped-returns-in_err-part
looped-returns-in_err-part t c =
    let p = err_from_is_err_and c.from_residual-in_err-part.result c.from_residual-in_err-part.ensures.1 in
    rw (p.1, p.2) (laps_halt _ _ _ _ c.args.env.now _ _ _ c.args.progress.now _ _ _ c.loop-progress.invariant.2 c.test.ensures (c.in_ok-test.was ∙ ap Ok c.if-branch.true) c.after-inner.ensures _ _ c.part.ensures c.requires.has_kind c.in_err-part.was)

pub looped-loop-progress-smaller : goal.looped-loop-progress-smaller
looped-loop-progress-smaller t c = laps_less _ _ _ _ c.args.env.now _ _ _ c.args.progress.now _ _ _ c.loop-progress.invariant.2 c.test.ensures (c.in_ok-test.was ∙ ap Ok c.if-branch.true) c.after-inner.ensures _ _ c.part.ensures c.requires.has_kind c.requires.has_stmt c.requires.has_state c.in_ok-part.was

pub looped-loop-progress-preserved : goal.looped-loop-progress-preserved
looped-loop-progress-preserved t c = (
  c.part.auto.vars ∙ c.loop-progress.invariant.0,
  c.part.auto.out ∙ c.loop-progress.invariant.1,
  laps_more _ _ _ _ c.args.env.now _ _ _ c.args.progress.now _ _ _ c.loop-progress.invariant.2 c.test.ensures (c.in_ok-test.was ∙ ap Ok c.if-branch.true) c.after-inner.ensures _ _ c.part.ensures c.in_ok-part.was,
)

pub looped-returns : goal.looped-returns
looped-returns t c = laps_done _ _ _ _ c.args.env.now _ _ _ c.args.progress.now _ _ _ c.loop-progress.invariant.2 c.test.ensures c.requires.has_kind (c.in_ok-test.was ∙ ap Ok c.if-branch.false)

pub part-returns-in_err-statement : goal.part-returns-in_err-statement
part-returns-in_err-statement t c =
    let p = err_from_is_err_and c.from_residual.result c.from_residual.ensures.1 in
    rw (p.1, p.2) (part_halt _ _ _ _ c.statement.ensures c.in_err-statement.was)

pub part-returns : goal.part-returns
part-returns t c = part_tick _ _ _ _ c.statement.ensures c.in_ok-statement.was c.tick.ensures

pub statement-kind_at-requires : goal.statement-kind_at-requires
statement-kind_at-requires t c = (_, c.requires.has_stmt.at.stands)

pub statement-returns-in_default : goal.statement-returns-in_default
statement-returns-in_default t c =
    let e = c.kind_at.ensures in
    let d = c.in_default in
    call_done _ (not_kind Assign e d.not-Assign) (not_kind If e d.not-If) (not_kind While e d.not-While) (not_kind Body e d.not-Body) (not_kind Read e d.not-Read) (not_kind Write e d.not-Write)

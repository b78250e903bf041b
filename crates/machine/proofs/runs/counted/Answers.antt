-- `counted`: each pause is on the way of the run. The measure is the budget left there.
use native.Mathlib.Omega.{arith}
use lib.ListN.{length}
use Rattle.pcode.specs.Code.{instrs_in}
use Rattle.pcode.specs.Coded.{lent}
use Rattle.machine.specs.declared.talk.Tape.{Tape}
use Rattle.machine.specs.Talks.{taped}
use Rattle.machine.specs.Runs.{paused_of}
use Rattle.machine.proofs.RunLaws.{live_first, live_ends, live_stops, live_on, leaving_from}
use Rattle.machine.proofs.runs.counted.Goals as goal

pub loop-p-init : goal.loop-p-init
loop-p-init c =
    let a = c.args in
    let start : Tape = record { at = 0; out = 0; lines = 0 } in
    live_first (instrs_in (lent a.code)) a.input.now a.budget a.out.now start c.quiet-p.result c.quiet-p.new.cells c.quiet-p.array_long (omega arith) (omega (arith, (c.quiet-p.ensures 0).less)) (c.quiet-p.ensures 0).rests

pub returns-in-Ends-clause-counted : goal.returns-in-Ends-clause-counted
returns-in-Ends-clause-counted c =
    let a = c.args in
    let start : Tape = record { at = 0; out = 0; lines = 0 } in
    leaving_from ((c.quiet-p.ensures (length a.out.now)).tells (taped start a.out.now a.input.now)) (live_ends (instrs_in (lent a.code)) a.input.now a.budget a.out.now (paused_of (instrs_in (lent a.code)) (length a.out.now) c.quiet-p.result c.quiet-p.new.cells (taped start a.out.now a.input.now)) c.number.ensures (rw c.in-Ends.is at c.loop-p.invariant))

pub loop-p-smaller : goal.loop-p-smaller
loop-p-smaller c = rw c.in-Talks.is (omega (arith, (c.quiet-p-in-Ok.ensures 0).less))

pub loop-p-preserved : goal.loop-p-preserved
loop-p-preserved c =
    let a = c.args in
    let start : Tape = record { at = 0; out = 0; lines = 0 } in
    let v = rw c.in-Talks.is at c.loop-p.invariant in
    live_on (instrs_in (lent a.code)) a.input.now a.budget a.out.now (paused_of (instrs_in (lent a.code)) (length a.out.now) c.quiet-p.result c.quiet-p.new.cells (taped start a.out.now a.input.now)) v (rw c.in-Ok.is at c.exchange.ensures) c.quiet-p-in-Ok.array_long (c.quiet-p-in-Ok.ensures (length a.out.now))

pub returns-in-Err-clause-counted : goal.returns-in-Err-clause-counted
returns-in-Err-clause-counted c =
    let a = c.args in
    let start : Tape = record { at = 0; out = 0; lines = 0 } in
    leaving_from ((c.quiet-p.ensures (length a.out.now)).tells (taped start a.out.now a.input.now)) (live_stops (instrs_in (lent a.code)) a.input.now a.budget a.out.now (paused_of (instrs_in (lent a.code)) (length a.out.now) c.quiet-p.result c.quiet-p.new.cells (taped start a.out.now a.input.now)) (rw c.in-Talks.is at c.loop-p.invariant) c.number-in-Err.ensures (rw c.in-Err.is at c.exchange.ensures))

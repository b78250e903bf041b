-- `quiet`: the run from the start is the run from the frame reached, with the budget that is left. The measure is that budget.
use mathlib.Core.Path.{◌≡◌}
use native.Mathlib.Omega.{arith}
use mir.Syntax.{w64}
use mir.Val.{SFits}
use mir.ValLaws.{to_z-of_z}
use borrow.Author.Rules.{rules}
use Rattle.std.specs.Prelude.{Ok}
use Rattle.pcode.specs.Code.{instrs_in}
use Rattle.pcode.specs.Coded.{lent}
use Rattle.machine.specs.declared.steps.Does.TheVariants as D
use Rattle.machine.proofs.RunLaws.{quiet_start, quiet_next, quiet_halt, quiet_stop, quiet_write, quiet_line, quiet_read, quiet_spent}
use Rattle.machine.proofs.runs.quiet.Goals as goal

pub loop-left-init : goal.loop-left-init
loop-left-init c = (c.requires.1, omega arith, quiet_start (instrs_in (lent c.args.code)) c.args.budget c.args.start c.args.cells.now)

pub returns-in-Ok-Halt : goal.returns-in-Ok-Halt
returns-in-Ok-Halt c =
    let a = c.args in
    let v = c.loop-left in
    let e : c.step.result ≡ Ok (D.Halt c.in-Ok-Halt.g) = cc in
    quiet_halt (instrs_in (lent a.code)) a.budget a.start a.cells.now v.left v.f v.cells v.invariant.2 c.loop-left-test.true v.invariant.1 c.step.ensures e

pub returns-in-Ok-Write : goal.returns-in-Ok-Write
returns-in-Ok-Write c =
    let a = c.args in
    let v = c.loop-left in
    let e : c.step.result ≡ Ok (D.Write c.in-Ok-Write.z) = cc in
    let z = c.in-Ok-Write.z in
    let h : SFits w64 z = search rules in
    rw (to_z-of_z w64 z h) (quiet_write (instrs_in (lent a.code)) a.budget a.start a.cells.now v.left v.f v.cells v.invariant.2 c.loop-left-test.true v.invariant.1 c.step.ensures v.invariant.0 e)

pub returns-in-Ok-NewLine : goal.returns-in-Ok-NewLine
returns-in-Ok-NewLine c =
    let a = c.args in
    let v = c.loop-left in
    let e : c.step.result ≡ Ok D.NewLine = cc in
    quiet_line (instrs_in (lent a.code)) a.budget a.start a.cells.now v.left v.f v.cells v.invariant.2 c.loop-left-test.true v.invariant.1 c.step.ensures v.invariant.0 e

pub returns-in-Ok-Read : goal.returns-in-Ok-Read
returns-in-Ok-Read c =
    let a = c.args in
    let v = c.loop-left in
    let e : c.step.result ≡ Ok (D.Read c.in-Ok-Read.i) = cc in
    quiet_read (instrs_in (lent a.code)) a.budget a.start a.cells.now v.left v.f v.cells v.invariant.2 c.loop-left-test.true v.invariant.1 c.step.ensures v.invariant.0 e

pub returns-in-Err : goal.returns-in-Err
returns-in-Err c =
    let a = c.args in
    let v = c.loop-left in
    quiet_stop (instrs_in (lent a.code)) a.budget a.start a.cells.now v.left v.f v.cells v.invariant.2 c.loop-left-test.true v.invariant.1 c.step.ensures c.in-Err.is

pub loop-left-preserved : goal.loop-left-preserved
loop-left-preserved c =
    let a = c.args in
    let v = c.loop-left in
    let e : c.step.result ≡ Ok (D.Next c.in-Ok-Next.g) = cc in
    let k = quiet_next (instrs_in (lent a.code)) a.budget a.start a.cells.now v.left v.f v.cells v.invariant.2 c.loop-left-test.true v.invariant.1 c.step.ensures e in
    (k.1, omega (arith, v.invariant.1), k.0)

pub returns : goal.returns
returns c =
    let a = c.args in
    let v = c.loop-left in
    quiet_spent (instrs_in (lent a.code)) a.budget a.start a.cells.now v.left v.f v.cells v.invariant.2 (omega (arith, c.loop-left-test.false))

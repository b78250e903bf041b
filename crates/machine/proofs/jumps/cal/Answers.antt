-- `cal`: too high, a link outside, a target outside, or the call.
use mathlib.Core.Path.{ap, ◌∙◌}
use native.Mathlib.Omega.{arith}
use lib.IntN.{pos}
use mir.Syntax.{w64}
use mir.Val.{SFits}
use mir.ValLaws.{to_z-of_z}
use borrow.Author.Rules.{rules}
use Rattle.std.proofs.lemmas.Result.{err_from_is_err_and}
use native.Mathlib.Numerals.{add-one}
use Rattle.numbers.proofs.Bits.{plain}
use Rattle.machine.specs.declared.frames.Frame.{Frame}
use Rattle.machine.specs.Frames.{framed}
use Rattle.machine.specs.Steps.{went}
use Rattle.machine.proofs.StepLaws.{cal_high, cal_lost, cal_out, cal_on}
use Rattle.machine.proofs.jumps.cal.Goals as goal

pub returns-then-top-gt-CELLS : goal.returns-then-top-gt-CELLS
returns-then-top-gt-CELLS c = λ code room e. cal_high code room e c.args.f c.args.cells.now c.args.level c.args.a (omega (arith, c.if-top-gt-CELLS.true))

pub returns-in_err-outer : goal.returns-in_err-outer
returns-in_err-outer c =
    let a = c.args in
    let h : SFits w64 a.f.base = search rules in
    let p = err_from_is_err_and c.from_residual.result c.from_residual.ensures.1 in
    let k = rw (to_z-of_z w64 a.f.base h) at c.in_err-outer.ensures in
    λ code room e. rw (p.1, p.2 ∙ k.0.1, k.1) (cal_lost code room e a.f a.cells.now a.level a.a (omega (arith, c.if-top-gt-CELLS.false)) k.0.0)

pub returns-in_err-target : goal.returns-in_err-target
returns-in_err-target c =
    let a = c.args in
    let h : SFits w64 a.f.base = search rules in
    let p = err_from_is_err_and c.from_residual-in_err-target.result c.from_residual-in_err-target.ensures.1 in
    let o = rw (to_z-of_z w64 a.f.base h) at c.in_ok-outer.ensures in
    let k = rw (to_z-of_z w64 a.a c.ranges.a) at c.in_err-target.ensures in
    λ code room e. rw (p.1, p.2 ∙ k.1, o.1) (cal_out code room e a.f a.cells.now a.level a.a (omega (arith, c.if-top-gt-CELLS.false)) o.0 k.0)

pub link-requires : goal.link-requires
link-requires c = (omega (arith, c.if-top-gt-CELLS.false), omega (arith, c.requires.pc))

pub returns : goal.returns
returns c =
    let a = c.args in
    let f = a.f in
    let h : SFits w64 f.base = search rules in
    let s = c.in_ok-outer.outer in
    let hs : SFits w64 s = search rules in
    let ht : SFits w64 (pos f.top) = record { sfits = omega (arith, c.requires.top) } in
    let o = rw (to_z-of_z w64 f.base h) at c.in_ok-outer.ensures in
    let k = rw (to_z-of_z w64 a.a c.ranges.a) at c.in_ok-target.ensures in
    let g = plain (λ z. framed f z f.top) (pos f.top) ht c.framed.ensures in
    let r = rw (to_z-of_z w64 a.a c.ranges.a) at c.goto.ensures ∙ ap (λ (x : Frame). went a.places a.a x) g in
    let x = rw (to_z-of_z w64 f.base h, to_z-of_z w64 s hs, o.1, add-one f.pc) at c.link.ensures in
    λ code room e. rw x (cal_on code room e f a.cells.now a.level a.a (omega (arith, c.if-top-gt-CELLS.false)) c.requires.top o.0 k.0 r)

-- `back`: the links are read where there are cells for them.
use mathlib.Core.Path.{ap, ◌∙◌}
use lib.IntN.{pos}
use lib.ListN.{get_or}
use mir.Syntax.{w64}
use mir.Val.{SFits}
use mir.ValLaws.{to_z-of_z}
use borrow.Author.Rules.{rules}
use Rattle.std.proofs.lemmas.Result.{err_from_is_err_and}
use Rattle.numbers.proofs.Bits.{plain}
use Rattle.machine.specs.declared.frames.Frame.{Frame}
use Rattle.machine.specs.Frames.{framed}
use Rattle.machine.specs.Steps.{went}
use Rattle.machine.proofs.StepLaws.{back_out, back_low, back_on}
use Rattle.machine.proofs.jumps.back.Goals as goal

pub returns-in_err-place : goal.returns-in_err-place
returns-in_err-place c =
    let a = c.args in
    let h : SFits w64 a.f.base = search rules in
    let p = err_from_is_err_and c.from_residual.result c.from_residual.ensures.1 in
    let k = rw (to_z-of_z w64 a.f.base h) at c.in_err-place.ensures in
    λ code room e. rw (p.1, p.2 ∙ k.1) (back_out code room e a.f a.cells.now k.0)

pub returns-in_err-top : goal.returns-in_err-top
returns-in_err-top c =
    let a = c.args in
    let h : SFits w64 a.f.base = search rules in
    let p = err_from_is_err_and c.from_residual-in_err-top.result c.from_residual-in_err-top.ensures.1 in
    let o = rw (to_z-of_z w64 a.f.base h) at c.in_ok-place.ensures in
    let k = rw (to_z-of_z w64 a.f.base h) at c.in_err-top.ensures in
    λ code room e. rw (p.1, p.2 ∙ k.1) (back_low code room e a.f a.cells.now o.0 k.0)

pub returns : goal.returns
returns c =
    let a = c.args in
    let h : SFits w64 a.f.base = search rules in
    let o = rw (to_z-of_z w64 a.f.base h) at c.in_ok-place.ensures in
    let k = rw (to_z-of_z w64 a.f.base h) at c.in_ok-top.ensures in
    let i = c.in_ok-place.place in
    let t = c.in_ok-top.top in
    let x = get_or a.cells.now i (pos 0) in
    let y = get_or a.cells.now t (pos 0) in
    let hx : SFits w64 x = search rules in
    let hy : SFits w64 y = search rules in
    let g = plain (λ z. framed a.f z t) y hy c.framed.ensures in
    let r = plain (λ z. went a.places z c.framed.result) x hx c.goto.ensures ∙ ap (λ (f : Frame). went a.places x f) g in
    λ code room e. back_on code room e a.f a.cells.now o.0 k.0 k.1 r

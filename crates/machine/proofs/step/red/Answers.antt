-- `red`: the cell is handed on.
use mathlib.Core.Path.{◌∙◌}
use mir.Syntax.{w64}
use mir.Val.{SFits}
use mir.ValLaws.{to_z-of_z}
use borrow.Author.Rules.{rules}
use Rattle.std.proofs.lemmas.Result.{err_from_is_err_and}
use Rattle.machine.proofs.StepLaws.{red_out, red_high, red_on}
use Rattle.machine.proofs.step.red.Goals as goal

pub returns-in_err-i : goal.returns-in_err-i
returns-in_err-i c =
    let a = c.args in
    let h : SFits w64 a.f.base = search rules in
    let p = err_from_is_err_and c.from_residual.result c.from_residual.ensures.1 in
    let k = rw (to_z-of_z w64 a.a c.ranges.a, to_z-of_z w64 a.f.base h) at c.in_err-i.ensures in
    λ code room. rw (p.1, p.2 ∙ k.1) (red_out code room a.f a.cells.now a.level a.a k.0)

pub returns-in_err-free : goal.returns-in_err-free
returns-in_err-free c =
    let a = c.args in
    let h : SFits w64 a.f.base = search rules in
    let p = err_from_is_err_and c.from_residual-in_err-free.result c.from_residual-in_err-free.ensures.1 in
    let o = rw (to_z-of_z w64 a.a c.ranges.a, to_z-of_z w64 a.f.base h) at c.in_ok-i.ensures in
    let k = c.in_err-free.ensures in
    λ code room. rw (p.1, p.2 ∙ k.1) (red_high code room a.f a.cells.now a.level a.a o.0 k.0)

pub returns : goal.returns
returns c =
    let a = c.args in
    let h : SFits w64 a.f.base = search rules in
    let o = rw (to_z-of_z w64 a.a c.ranges.a, to_z-of_z w64 a.f.base h) at c.in_ok-i.ensures in
    let k = c.in_ok-free.ensures in
    λ code room. red_on code room a.f a.cells.now a.level a.a c.requires.pc o.0 o.1 k.0

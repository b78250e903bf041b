-- `sto`: the value on top goes to the cell.
use mathlib.Core.Path.{◌∙◌}
use lib.IntN.{pos}
use lib.ListN.{get_or}
use mir.Syntax.{w64}
use mir.Val.{SFits}
use mir.ValLaws.{to_z-of_z}
use borrow.Author.Rules.{rules}
use Rattle.std.proofs.lemmas.Result.{err_from_is_err_and}
use Rattle.machine.proofs.StepLaws.{sto_none, sto_out, sto_on}
use Rattle.machine.proofs.stack.sto.Goals as goal

pub returns-in_err-last : goal.returns-in_err-last
returns-in_err-last c =
    let a = c.args in
    let p = err_from_is_err_and c.from_residual.result c.from_residual.ensures.1 in
    let k = c.in_err-last.ensures in
    λ code room. rw (p.1, p.2 ∙ k.1) (sto_none code room a.f a.cells.now a.level a.a k.0)

pub returns-in_err-i : goal.returns-in_err-i
returns-in_err-i c =
    let a = c.args in
    let h : SFits w64 a.f.base = search rules in
    let p = err_from_is_err_and c.from_residual-in_err-i.result c.from_residual-in_err-i.ensures.1 in
    let top = c.in_ok-last.ensures in
    let k = rw (to_z-of_z w64 a.a c.ranges.a, to_z-of_z w64 a.f.base h) at (c.in_err-i.ensures) in
    λ code room. rw (p.1, p.2 ∙ k.1) (sto_out code room a.f a.cells.now a.level a.a top.0 k.0)

pub returns : goal.returns
returns c =
    let a = c.args in
    let h : SFits w64 a.f.base = search rules in
    let top = c.in_ok-last.ensures in
    let z = get_or a.cells.now c.in_ok-last.last (pos 0) in
    let hz : SFits w64 z = search rules in
    let k = rw (to_z-of_z w64 a.a c.ranges.a, to_z-of_z w64 a.f.base h) at (c.in_ok-i.ensures) in
    λ code room. rw (c.onward.ensures, to_z-of_z w64 z hz, top.1) (sto_on code room a.f a.cells.now a.level a.a c.requires.top top.0 k.0)

-- `jpc`: no value, a jump, or on.
use mathlib.Core.Path.{sym, ◌∙◌}
use lib.IntN.{pos}
use lib.ListN.{get_or}
use mir.Syntax.{w64}
use mir.Val.{SFits, of_z}
use borrow.Author.Rules.{rules}
use Rattle.std.proofs.lemmas.Result.{err_from_is_err_and}
use borrow.Author.Tests.{ne_eqb}
use Rattle.numbers.proofs.Bits.{plain, same_bits, from_bits}
use Rattle.machine.specs.Steps.{went}
use Rattle.machine.proofs.StepLaws.{jpc_none, jpc_jump, jpc_on}
use Rattle.machine.proofs.jumps.jpc.Goals as goal

pub returns-in_err-last : goal.returns-in_err-last
returns-in_err-last c =
    let a = c.args in
    let p = err_from_is_err_and c.from_residual.result c.from_residual.ensures.1 in
    let k = c.in_err-last.ensures in
    λ code room e. rw (p.1, p.2 ∙ k.1) (jpc_none code room e a.f a.cells.now a.a k.0)

pub returns-then-cells-last-eq0 : goal.returns-then-cells-last-eq0
returns-then-cells-last-eq0 c =
    let a = c.args in
    let k = c.in_ok-last.ensures in
    let z = get_or a.cells.now c.in_ok-last.last (pos 0) in
    let h : SFits w64 z = search rules in
    let h0 : SFits w64 (pos 0) = search rules in
    λ code room e. jpc_jump code room e a.f a.cells.now a.a c.requires.top k.0 (rw k.1 at (from_bits z (pos 0) h h0 c.if-cells-last-eq0.true)) (plain (λ z. went a.places z a.f) a.a c.ranges.a c.goto.ensures)

pub returns : goal.returns
returns c =
    let a = c.args in
    let k = c.in_ok-last.ensures in
    let z = get_or a.cells.now c.in_ok-last.last (pos 0) in
    let h : SFits w64 z = search rules in
    let h0 : SFits w64 (pos 0) = search rules in
    λ code room e. rw c.onward.ensures (jpc_on code room e a.f a.cells.now a.a c.requires.top k.0 (rw k.1 at (sym (same_bits z (pos 0) h h0) ∙ ne_eqb (of_z w64 z) 0 c.if-cells-last-eq0.false)))

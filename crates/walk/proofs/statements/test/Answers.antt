-- The proof of `test`.
use borrow.Author.Rules.{rules}
use mathlib.Core.Path.{sym}
use lib.IntN.{pos}
use mir.Syntax.{w64}
use mir.Val.{SFits}
use Rattle.std.proofs.lemmas.Result.{err_from_is_err_and}
use Rattle.numbers.proofs.Bits.{same_bits}
use Rattle.walk.proofs.Ends.{shown}
use Rattle.walk.proofs.Testing.{test_halt, test_spent, test_says}
use Rattle.walk.proofs.statements.test.Goals as goal

pub returns-in_err-z : goal.returns-in_err-z
returns-in_err-z c =
    let p = err_from_is_err_and c.from_residual.result c.from_residual.ensures.1 in
    λ t a input lv lo out w held. rw (p.1, p.2) (test_halt held (c.cond.ensures t a w (shown held)) c.in_err-z.was)

pub returns-in_err-tick : goal.returns-in_err-tick
returns-in_err-tick c =
    let p = err_from_is_err_and c.from_residual-in_err-tick.result c.from_residual-in_err-tick.ensures.1 in
    λ t a input lv lo out w held. rw (p.1, p.2) (test_spent held (c.cond.ensures t a w (shown held)) c.in_ok-z.was c.tick.ensures c.in_err-tick.was)

pub returns : goal.returns
returns c =
    let h : SFits w64 c.in_ok-z.z = search rules in
    let k : SFits w64 (pos 0) = search rules in
    λ t a input lv lo out w held. test_says held (c.cond.ensures t a w (shown held)) c.in_ok-z.was c.tick.ensures c.in_ok-tick.was _ (sym (same_bits c.in_ok-z.z (pos 0) h k))

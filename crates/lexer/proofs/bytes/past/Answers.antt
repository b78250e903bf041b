-- `bytes::past` meets its contract.
use mathlib.Core.Path.{sym, ◌∙◌}
use Rattle.lexer.proofs.Runs.{run_more, run_stop, run_end}
use Rattle.lexer.proofs.bytes.past.Goals as goal

pub loop-i-preserved : goal.loop-i-preserved
loop-i-preserved g c = λ p q. run_more p _ _ _ (c.loop-i.invariant p q) c.loop-i-test.true (sym (q _ _ c.test.ensures) ∙ c.if-not-test.false)

pub returns-then-not-test : goal.returns-then-not-test
returns-then-not-test g c = λ p q. run_stop p _ _ _ (c.loop-i.invariant p q) c.loop-i-test.true (sym (q _ _ c.test.ensures) ∙ c.if-not-test.true)

pub returns : goal.returns
returns g c = λ p q. c.max.ensures ∙ run_end p _ _ _ (c.loop-i.invariant p q) c.loop-i.auto.i c.loop-i.auto.i-end c.loop-i-test.false

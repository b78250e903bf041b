-- `words::same` meets its contract.
use mathlib.Core.Path.{refl, sym, ◌∙◌}
use Rattle.lexer.proofs.Tables.{other_length, same_more, same_stop, same_past}
use Rattle.lexer.proofs.words.same.Goals as goal

pub returns-then-a-b : goal.returns-then-a-b
returns-then-a-b c = sym (other_length c.args.a.now c.args.b.now c.if-a-b.true)

pub returns-then-a-i : goal.returns-then-a-i
returns-then-a-i c = sym (same_stop c.args.a.now c.args.b.now c.loop-i.i c.if-a-b.false c.loop-i-test.true c.if-a-i.true) ∙ c.loop-i.invariant

pub loop-i-preserved : goal.loop-i-preserved
loop-i-preserved c = sym (same_more _ _ _ c.if-a-b.false c.loop-i-test.true c.if-a-i.false) ∙ c.loop-i.invariant

pub returns : goal.returns
returns c = same_past c.args.a.now c.args.b.now c.loop-i.i c.if-a-b.false c.loop-i-test.false ∙ c.loop-i.invariant

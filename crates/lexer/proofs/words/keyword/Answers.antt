-- `words::keyword` meets its contract.
use mathlib.Core.Path.{refl, sym, ◌∙◌}
use Rattle.numbers.specs.Bytes.{bytes}
use Rattle.lexer.specs.Marks.{keywords, spelt}
use Rattle.lexer.specs.Spelling.{named}
use Rattle.lexer.proofs.Tables.{named_miss, named_none, keyword_is}
use Rattle.lexer.proofs.words.keyword.Goals as goal

pub returns-then-same : goal.returns-then-same
unfolding named spelt keywords bytes
returns-then-same c = keyword_is c.args.w.now (bytes "if") c.same.ensures c.if-same.true c.args.name refl

pub returns-then-same-2 : goal.returns-then-same-2
unfolding named spelt keywords bytes
returns-then-same-2 c = keyword_is c.args.w.now (bytes "then") c.same-else-same.ensures c.if-same-2.true c.args.name refl

pub returns-then-same-3 : goal.returns-then-same-3
unfolding named spelt keywords bytes
returns-then-same-3 c = keyword_is c.args.w.now (bytes "else") c.same-else-same-2.ensures c.if-same-3.true c.args.name refl

pub returns-then-same-4 : goal.returns-then-same-4
unfolding named spelt keywords bytes
returns-then-same-4 c = keyword_is c.args.w.now (bytes "while") c.same-else-same-3.ensures c.if-same-4.true c.args.name refl

pub returns-then-same-5 : goal.returns-then-same-5
unfolding named spelt keywords bytes
returns-then-same-5 c = keyword_is c.args.w.now (bytes "do") c.same-else-same-4.ensures c.if-same-5.true c.args.name refl

pub returns-then-same-6 : goal.returns-then-same-6
unfolding named spelt keywords bytes
returns-then-same-6 c = keyword_is c.args.w.now (bytes "const") c.same-else-same-5.ensures c.if-same-6.true c.args.name refl

pub returns-then-same-7 : goal.returns-then-same-7
unfolding named spelt keywords bytes
returns-then-same-7 c = keyword_is c.args.w.now (bytes "var") c.same-else-same-6.ensures c.if-same-7.true c.args.name refl

pub returns-then-same-8 : goal.returns-then-same-8
unfolding named spelt keywords bytes
returns-then-same-8 c = keyword_is c.args.w.now (bytes "procedure") c.same-else-same-7.ensures c.if-same-8.true c.args.name refl

pub returns-then-same-9 : goal.returns-then-same-9
unfolding named spelt keywords bytes
returns-then-same-9 c = keyword_is c.args.w.now (bytes "program") c.same-else-same-8.ensures c.if-same-9.true c.args.name refl

pub returns-then-same-10 : goal.returns-then-same-10
unfolding named spelt keywords bytes
returns-then-same-10 c = keyword_is c.args.w.now (bytes "begin") c.same-else-same-9.ensures c.if-same-10.true c.args.name refl

pub returns-then-same-11 : goal.returns-then-same-11
unfolding named spelt keywords bytes
returns-then-same-11 c = keyword_is c.args.w.now (bytes "end") c.same-else-same-10.ensures c.if-same-11.true c.args.name refl

pub returns-then-same-12 : goal.returns-then-same-12
unfolding named spelt keywords bytes
returns-then-same-12 c = keyword_is c.args.w.now (bytes "call") c.same-else-same-11.ensures c.if-same-12.true c.args.name refl

pub returns-then-same-13 : goal.returns-then-same-13
unfolding named spelt keywords bytes
returns-then-same-13 c = keyword_is c.args.w.now (bytes "read") c.same-else-same-12.ensures c.if-same-13.true c.args.name refl

pub returns-then-same-14 : goal.returns-then-same-14
unfolding named spelt keywords bytes
returns-then-same-14 c = keyword_is c.args.w.now (bytes "write") c.same-else-same-13.ensures c.if-same-14.true c.args.name refl

pub returns-then-same-15 : goal.returns-then-same-15
unfolding named spelt keywords bytes
returns-then-same-15 c = keyword_is c.args.w.now (bytes "odd") c.same-else-same-14.ensures c.if-same-15.true c.args.name refl

pub returns-else-same-15 : goal.returns-else-same-15
unfolding keywords bytes
returns-else-same-15 c =
    sym (
    named_miss _ _ _ _ (sym c.same.ensures ∙ c.if-same.false)
    ∙ named_miss _ _ _ _ (sym c.same-else-same.ensures ∙ c.if-same-2.false)
    ∙ named_miss _ _ _ _ (sym c.same-else-same-2.ensures ∙ c.if-same-3.false)
    ∙ named_miss _ _ _ _ (sym c.same-else-same-3.ensures ∙ c.if-same-4.false)
    ∙ named_miss _ _ _ _ (sym c.same-else-same-4.ensures ∙ c.if-same-5.false)
    ∙ named_miss _ _ _ _ (sym c.same-else-same-5.ensures ∙ c.if-same-6.false)
    ∙ named_miss _ _ _ _ (sym c.same-else-same-6.ensures ∙ c.if-same-7.false)
    ∙ named_miss _ _ _ _ (sym c.same-else-same-7.ensures ∙ c.if-same-8.false)
    ∙ named_miss _ _ _ _ (sym c.same-else-same-8.ensures ∙ c.if-same-9.false)
    ∙ named_miss _ _ _ _ (sym c.same-else-same-9.ensures ∙ c.if-same-10.false)
    ∙ named_miss _ _ _ _ (sym c.same-else-same-10.ensures ∙ c.if-same-11.false)
    ∙ named_miss _ _ _ _ (sym c.same-else-same-11.ensures ∙ c.if-same-12.false)
    ∙ named_miss _ _ _ _ (sym c.same-else-same-12.ensures ∙ c.if-same-13.false)
    ∙ named_miss _ _ _ _ (sym c.same-else-same-13.ensures ∙ c.if-same-14.false)
    ∙ named_miss _ _ _ _ (sym c.same-else-same-14.ensures ∙ c.if-same-15.false)
    ∙ named_none _ _)

-- `integers::integer` meets its contract.
use mathlib.Core.Path.{refl, sym, ◌∙◌, ap}
use Rattle.numbers.specs.Bytes.{is_digit}
use Rattle.lexer.specs.Spelling.{literal_of}
use Rattle.lexer.proofs.Runs.{run_more, run_stop, run_end}
use Rattle.lexer.proofs.Literals.{digit_more, digit_stop, digit_past, literal_shows}
use Rattle.lexer.proofs.integers.integer.Goals as goal

pub loop-e-init : goal.loop-e-init
loop-e-init c = (refl, refl)

pub with_digit-v-requires : goal.with_digit-v-requires
with_digit-v-requires c = sym c.is_digit.ensures ∙ c.if-not-is_digit.false

pub loop-e-preserved : goal.loop-e-preserved
loop-e-preserved c =
    let d = sym c.is_digit.ensures ∙ c.if-not-is_digit.false in
    (run_more is_digit _ _ _ c.loop-e.invariant.0 c.loop-e-test.true d, rw c.with_digit-v.ensures (digit_more _ _ _ c.loop-e-test.true d) ∙ c.loop-e.invariant.1)

pub returns-then-not-is_digit : goal.returns-then-not-is_digit
returns-then-not-is_digit c =
    let d = sym c.is_digit.ensures ∙ c.if-not-is_digit.true in
    literal_shows _ _ _ _ (c.literal.ensures ∙ ap literal_of (digit_stop _ _ c.loop-e.e c.loop-e-test.true d) ∙ c.loop-e.invariant.1) (run_stop is_digit _ _ _ c.loop-e.invariant.0 c.loop-e-test.true d)

pub returns : goal.returns
returns c = literal_shows _ _ _ _ (c.literal-2.ensures ∙ ap literal_of (digit_past _ _ _ c.loop-e-test.false) ∙ c.loop-e.invariant.1) (c.max.ensures ∙ run_end is_digit _ _ _ c.loop-e.invariant.0 c.loop-e.auto.e c.loop-e.auto.e-end c.loop-e-test.false)

-- `line::read_digits` meets its contract. The loop's invariant: the digits left, after the value so far, have the value of all of them.
use mathlib.Core.Path.{◌≡◌, sym, ap, ◌∙◌}
use mathlib.Core.Bool.{true}
use mathlib.Core.Option.{some}
use Prim.Native.Nat.{◌+◌, ◌-◌, ◌*◌}
use native.Mathlib.Omega.{arith}
use borrow.Author.Tests.{eqb-true, eqb-false}
use lib.ListN.{length, drop, get_or}
use Rattle.numbers.specs.Bytes.{is_digit, digits}
use Rattle.numbers.proofs.Scans.{every_end, every_stop, every_more}
use Rattle.numbers.proofs.Fields.{digits_end, digits_more, digits_ge, digit_low, digit_high, magnitude_empty, magnitude_other, magnitude_over, magnitude_some}
use Rattle.numbers.proofs.line.read_digits.Goals as goal
use Rattle.numbers.proofs.line.read_digits.Goals.{then-not-is_digit-via-then-not-is_digit, then-not-is_digit-via-else-not-is_digit+then-v-gt-MOST_BEFORE_DIGIT}

pub returns-then-is_empty : goal.returns-then-is_empty
returns-then-is_empty c = sym (magnitude_empty c.args.most c.args.s.now (eqb-true _ 0 (sym c.if-is_empty.ensures)))

pub returns-then-not-is_digit : goal.returns-then-not-is_digit
returns-then-not-is_digit c =
    let s = c.args.s.now in
    let v = c.loop-b.v in
    let i = c.loop-b.b-index in
    elim c.then-not-is_digit.branch [
      | then-not-is_digit-via-then-not-is_digit w ↦ sym (magnitude_other c.args.most s (sym c.loop-b.invariant.tests ∙ every_stop is_digit s i c.loop-b-test.true (sym c.is_digit.ensures ∙ w.if-not-is_digit.true)))
      | then-not-is_digit-via-else-not-is_digit+then-v-gt-MOST_BEFORE_DIGIT w ↦
          sym (magnitude_over c.args.most s (omega (arith, c.requires, c.loop-b.invariant.digits_left, digits_more v s i c.loop-b-test.true, digits_ge (v * 10 + (get_or s i 0 - 48)) (drop (i + 1) s))))
    ]

pub overflow_sub-b : goal.overflow_sub-b
overflow_sub-b c = digit_low (get_or c.args.s.now c.loop-b.b-index 0) (sym c.if-not-is_digit.ensures)

pub overflow_add-v : goal.overflow_add-v
overflow_add-v c = omega (arith, c.from.ensures, digit_high (get_or c.args.s.now c.loop-b.b-index 0) (sym c.if-not-is_digit.ensures))

pub loop-b-preserved : goal.loop-b-preserved
loop-b-preserved c =
    let s = c.args.s.now in
    let v = c.loop-b.v in
    let i = c.loop-b.b-index in
    let d : is_digit (get_or s i 0) ≡ true = sym c.if-not-is_digit.ensures in
    record {
      value = omega (arith, c.from.ensures, digit_high (get_or s i 0) d);
      tests = sym (every_more is_digit s i c.loop-b-test.true d) ∙ c.loop-b.invariant.tests;
      digits_left = rw c.from.ensures (sym (digits_more v s i c.loop-b-test.true) ∙ c.loop-b.invariant.digits_left);
    }

pub returns-then-v-most : goal.returns-then-v-most
returns-then-v-most c =
    let s = c.args.s.now in
    let n : c.loop-b.v ≡ digits 0 s = sym (digits_end c.loop-b.v s c.loop-b.b-index c.loop-b-test.false) ∙ c.loop-b.invariant.digits_left in
    ap some n ∙ sym (magnitude_some c.args.most s (λ e. eqb-false (length s) 0 (sym c.if-is_empty.ensures) e) (sym c.loop-b.invariant.tests ∙ every_end is_digit s c.loop-b.b-index c.loop-b-test.false) (omega (arith, n)))

pub returns-else-v-most : goal.returns-else-v-most
returns-else-v-most c =
    let s = c.args.s.now in
    sym (magnitude_over c.args.most s (omega (arith, c.loop-b.invariant.digits_left, digits_end c.loop-b.v s c.loop-b.b-index c.loop-b-test.false)))

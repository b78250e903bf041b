-- `line::next_entry` meets its contract.
use mathlib.Core.Path.{◌≡◌, refl, sym, ap, ◌∙◌}
use native.Mathlib.Omega.{arith}
use mir.Syntax.{w64}
use mir.Val.{SFits}
use mir.ValLaws.{to_z-of_z}
use borrow.Author.Rules.{rules}
use Rattle.std.specs.Prelude.{Some, None}
use Rattle.std.proofs.lemmas.Result.{err_from_is_err_and}
use Rattle.numbers.specs.declared.refusal.Refusal.TheVariants.{BadEntry}
use Rattle.numbers.specs.Line.{line}
use Rattle.numbers.specs.Answers.{option_of}
use Rattle.numbers.proofs.Scans.{rest_of}
use Rattle.numbers.proofs.Lines.{refused_as, entry_missing, entry_bad, line_within, took_line_lem, took_last}
use Rattle.numbers.proofs.line.next_entry.Goals as goal

pub returns-then-input-at : goal.returns-then-input-at
returns-then-input-at c = (refl, entry_missing c.args.input.now c.args.at c.if-input-at.true)

pub returns-in_err-z : goal.returns-in_err-z
returns-in_err-z c =
    let s = c.args.input.now in
    let at = c.args.at in
    let bad : c.judge.result ≡ None = c.in_err-z.ensures.ok_part in
    let p = err_from_is_err_and c.from_residual.result c.from_residual.ensures.1 in
    rw p.1 (p.2 ∙ refused_as c.judge.result c.in_err-z.field-0.0 BadEntry bad c.in_err-z.ensures.value, entry_bad s c.line-l.result.now at (c.line-l.ensures ∙ ap line (rest_of at s)) (sym c.judge.ensures ∙ ap option_of bad))

pub overflow_add-end : goal.overflow_add-end
overflow_add-end c =
    let s = c.args.input.now in
    let at = c.args.at in
    omega (arith, line_within s c.line-l.result.now at c.if-input-at.false (c.line-l.ensures ∙ ap line (rest_of at s)))

pub returns-then-end-input : goal.returns-then-end-input
returns-then-end-input c =
    let s = c.args.input.now in
    let at = c.args.at in
    let z = c.in_ok-z.z in
    let h : SFits w64 z = search rules in
    let got : c.judge.result ≡ Some z = c.in_ok-z.ensures.ok_part in
    rw (to_z-of_z w64 z h) (took_line_lem s c.line-l.result.now at c.if-input-at.false (c.line-l.ensures ∙ ap line (rest_of at s)) z (sym c.judge.ensures ∙ ap option_of got) c.if-end-input.true)

pub returns-else-end-input : goal.returns-else-end-input
returns-else-end-input c =
    let s = c.args.input.now in
    let at = c.args.at in
    let z = c.in_ok-z.z in
    let h : SFits w64 z = search rules in
    let got : c.judge.result ≡ Some z = c.in_ok-z.ensures.ok_part in
    rw (to_z-of_z w64 z h) (took_last s c.line-l.result.now at c.if-input-at.false (c.line-l.ensures ∙ ap line (rest_of at s)) z (sym c.judge.ensures ∙ ap option_of got) c.if-end-input.false)

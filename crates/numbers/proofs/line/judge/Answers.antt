-- `line::judge` meets its contract.
use mathlib.Core.Path.{◌≡◌, sym, ap, ◌∙◌}
use mathlib.Core.Bool.{true, false}
use Rattle.std.proofs.Common.{rules, tests}
use Rattle.std.proofs.lemmas.Iterator.{YieldsList-from_slice}
use Rattle.std.proofs.lemmas.Iterator.Search.{all_from_yields_List}
use Rattle.numbers.specs.Bytes.{is_ascii, every}
use Rattle.numbers.specs.Line.{value_of}
use Rattle.numbers.specs.Answers.{line_entry}
use Rattle.numbers.proofs.Scans.{every_all}
use Rattle.numbers.proofs.line.judge.Goals as goal
use Rattle.numbers.proofs.line.judge.Goals.{After-all}

told : (c : After-all) → c.all.result ≡ every is_ascii c.args.l.now
told c =
    let s = c.args.l.now in
    all_from_yields_List is_ascii _ _ c.all.result c.all.ensures.ran (YieldsList-from_slice s (cc)) (λ x b q k. search (rules, tests)) ∙ every_all is_ascii s

pub returns-then-not-all : goal.returns-then-not-all
unfolding line_entry
returns-then-not-all c =
    let e : every is_ascii c.args.l.now ≡ false = sym (told (goal.at.returns-then-not-all c).After-all) ∙ c.if-not-all.true in
    rw (e, line_entry)

pub returns : goal.returns
unfolding line_entry
returns c =
    let e : every is_ascii c.args.l.now ≡ true = sym (told (goal.at.returns c).After-all) ∙ c.if-not-all.false in
    c.number.ensures ∙ rw (e, line_entry) (ap value_of c.field.ensures)

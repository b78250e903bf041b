-- `line::line` meets its contract.
use mathlib.Core.Path.{refl, ap, ◌∙◌}
use lib.Dec.{eqb}
use lib.ListN.{take}
use Rattle.std.proofs.Common.{rules, tests}
use Rattle.std.proofs.lemmas.Iterator.{YieldsList-from_slice}
use Rattle.std.proofs.lemmas.Iterator.Search.{position_from_yields_List}
use Rattle.numbers.specs.Line.{not_newline, line}
use Rattle.numbers.proofs.Scans.{until}
use Rattle.numbers.proofs.line.line.Goals as goal

pub returns : goal.returns
unfolding line
returns c =
    let s = c.args.s.now in
    let found = position_from_yields_List (λ b. eqb b 10) _ _ c.position.result c.position.ensures.ran (YieldsList-from_slice s (cc)) (λ x b q k. search (rules, tests)) in
    ap (λ n. take n s) (c.unwrap_or-end.ensures ∙ until not_newline (λ b. eqb b 10) (λ b. refl) s c.position.result found)

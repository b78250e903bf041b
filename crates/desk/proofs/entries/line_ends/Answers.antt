-- `entries::line_ends` meets its contract.
use mathlib.Core.Path.{◌≡◌, sym, ◌∙◌}
use lib.Dec.{eqb}
use Rattle.std.proofs.Common.{rules}
use Rattle.std.specs.List.{count_by}
use Rattle.desk.proofs.Lines.{ends_counted}
use Rattle.desk.proofs.entries.line_ends.Goals as goal

pub returns : goal.returns
returns c = let counted : c.count.result ≡ count_by (λ b. eqb b 10) c.args.s.now = search rules in counted ∙ sym (ends_counted c.args.s.now)

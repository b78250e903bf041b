-- The proof of `first_row`.
use Rattle.std.proofs.Common.{rules}
use Rattle.symbols.proofs.Search.{newest_by, first_known, first_new}
use Rattle.symbols.proofs.first_row.Goals as goal

pub returns-in-Some : goal.returns-in-Some
returns-in-Some c = first_known _ _ _ c.requires _ _ (newest_by _ (λ j b p. search rules) c.in-Some.ensures)

pub returns-in-None : goal.returns-in-None
returns-in-None c = first_new _ _ _ c.requires _ (newest_by _ (λ j b p. search rules) c.in-None.ensures)

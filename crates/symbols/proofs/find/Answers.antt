-- The proof of `find`.
use Rattle.std.proofs.Common.{rules}
use Rattle.symbols.proofs.Search.{newest_by, search_found}
use Rattle.symbols.proofs.find.Goals as goal

pub returns : goal.returns
returns c = search_found _ _ _ c.requires.sound _ (newest_by _ (λ j b p. search rules) c.newest.ensures)

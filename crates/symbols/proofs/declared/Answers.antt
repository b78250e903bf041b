-- The proof of `declared`.
use Rattle.std.proofs.Common.{rules, ◌∙◌}
use Rattle.symbols.proofs.Search.{newest_by, look_found}
use Rattle.symbols.proofs.declared.Goals as goal

pub returns : goal.returns
returns c = c.is_some.ensures ∙ look_found _ _ _ c.requires.sound _ _ c.requires.scoped (newest_by _ (λ j b p. search rules) c.newest.ensures)

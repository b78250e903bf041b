-- The proof of `part`.
use Rattle.symbols.proofs.Spelling.{part_of}
use Rattle.symbols.proofs.names.part.Goals as goal

pub returns : goal.returns
returns c = part_of _ _ _ c.requires

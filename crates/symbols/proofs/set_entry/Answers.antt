-- The proof of `set_entry`.
use Rattle.symbols.proofs.Adding.{entry_set}
use Rattle.symbols.proofs.set_entry.Goals as goal

pub returns : goal.returns
returns c = λ s used g h. entry_set s _ _ _ _ g h

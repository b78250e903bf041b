-- The proof of `has_name`.
use Rattle.symbols.proofs.Search.{name_differs, name_compared}
use Rattle.symbols.proofs.has_name.Goals as goal

pub returns-then-table-i : goal.returns-then-table-i
returns-then-table-i c = name_differs _ _ _ _ _ c.requires c.args.name.now.hashed c.if-table-i.true

pub returns : goal.returns
returns c = name_compared _ _ _ _ _ _ c.part.ensures c.eq.ensures

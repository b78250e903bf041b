-- The proof of `is_seen`.
use Rattle.std.proofs.Common.{◌∙◌}
use Rattle.symbols.proofs.Search.{name_differs, not_first, not_second}
use Rattle.symbols.proofs.is_seen.Goals.{then-table-i, else-table-i}
use Rattle.symbols.proofs.is_seen.Goals as goal

pub returns-else-is_open : goal.returns-else-is_open
returns-else-is_open c = elim c.if-table-i.branch [
  | then-table-i w ↦ not_second _ _ _ c.if-is_open.false (w.value-is ∙ w.is_open.ensures)
  | else-table-i w ↦ not_first _ _ _ c.if-is_open.false (name_differs _ _ _ _ _ c.requires c.args.name.now.hashed w.if-table-i.false)
]

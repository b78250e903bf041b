-- The proof of `opens`.
use Rattle.std.proofs.Common.{refl, ap, not, eq-eqb, ◌∙◌}
use Rattle.symbols.proofs.Seeing.{opens_not, opens_if}
use Rattle.symbols.proofs.scopes.opens.Goals as goal

pub returns-then-table-first : goal.returns-then-table-first
returns-then-table-first c = c.is_open.ensures ∙ opens_if _ _ _ _ refl c.if-table-first.true

pub returns-else-table-first : goal.returns-else-table-first
returns-else-table-first c = ap not (eq-eqb _ _ c.if-table-first.false) ∙ opens_not _ _ _ _ refl c.if-table-first.false

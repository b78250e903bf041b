-- The proof of `is_open`.
use Rattle.std.proofs.Common.{refl, eq-eqb, ◌∙◌}
use Rattle.symbols.proofs.Seeing.{open_zero, open_is}
use Rattle.symbols.proofs.scopes.is_open.Goals as goal

pub returns-then-scope-eq0 : goal.returns-then-scope-eq0
returns-then-scope-eq0 c = eq-eqb _ _ c.if-scope-eq0.true ∙ open_zero _ _ c.if-scope-eq0.true

pub returns-else-scope-eq0 : goal.returns-else-scope-eq0
returns-else-scope-eq0 c = open_is _ _ _ refl c.if-scope-eq0.false

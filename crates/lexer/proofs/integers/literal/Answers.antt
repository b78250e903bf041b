-- `integers::literal` meets its contract.
use mathlib.Core.Path.{sym}
use Rattle.lexer.proofs.Literals.{literal_fits, literal_big}
use Rattle.lexer.proofs.integers.literal.Goals as goal

pub returns-then-v : goal.returns-then-v
returns-then-v c = sym (literal_fits _ c.if-v.true)

pub returns-else-v : goal.returns-else-v
returns-else-v c = sym (literal_big _ c.if-v.false)

-- What the reader of a list of expressions promises.
use Rattle.std.specs.Prelude.{◌≡◌, List, ℕ, ◌+◌, ◌-◌, ◌*◌}
use Rattle.lexer.specs.Marks.{close_sign}
use Rattle.lexer.specs.Stands.{left}
use Rattle.lexer.specs.declared.cursor.Cursor.{Cursor}
use Rattle.tree.specs.Layout.{NodeKind, Nodes, branch, node_no, count}
use Rattle.tree.specs.Nodes.{exp_nodes}
use Rattle.tree.specs.Writing.{join}
use Rattle.parser.specs.Answer.{Answer}
use Rattle.grammar.specs.Grammar.{exp}
use Rattle.parser.specs.Parts.{only}
use Rattle.parser.specs.Lists.{closed}
use Rattle.parser.specs.Written.{Wrote}
use Rattle.parser.specs.Meets.{Reads}

-- expressions and a `)`, as members of a node at u that has the members ms, `before` of them, up to `from` already
pub record Argues (src : List ℕ) (o u kind before from : ℕ) (ys zs : List ℕ) (c : Cursor) (r : Answer) : Type 0 where
  pub argues : (k : NodeKind) → kind ≡ node_no k → (xs : List ℕ) (ms : Nodes) → before ≡ count ms → Wrote xs (u + 4) ys from ms
      → Reads (λ es. only (branch k 0 (join ms (exp_nodes es)))) src xs u zs (λ n. closed src close_sign (exp src n o) n) (8 * left c + 3) 12 (from - u) c r

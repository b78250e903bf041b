-- `lists::parse_ids` meets its contract.
use Rattle.lexer.specs.Stands.{left}
use Rattle.tree.specs.Nodes.{name_node, list_nodes}
use Rattle.grammar.specs.Reader.{want_name}
use Rattle.parser.proofs.Loops.{Going}
use Rattle.parser.proofs.Commas.{rest}
use Rattle.parser.proofs.lists.parse_ids.Given as goal

abbrev pub invariant-loop-e : goal.invariant-loop-e
invariant-loop-e l = Going (rest l.text (want_name l.text) name_node) (list_nodes name_node) l.text 1 l.initial.tree l.initial.end 0 l.initial.c l.tree l.end l.count l.c

abbrev pub decreases-loop-e : goal.decreases-loop-e
decreases-loop-e l = left l.c

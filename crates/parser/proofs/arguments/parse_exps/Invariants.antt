-- `arguments::parse_exps` meets its contract.
use Prim.Native.Nat.{ℕ, ◌+◌, ◌*◌, ◌≤◌}
use Rattle.lexer.specs.Stands.{left}
use Rattle.tree.specs.Nodes.{exp_node, list_nodes}
use Rattle.grammar.specs.Grammar as G
use Rattle.parser.proofs.Loops.{Going}
use Rattle.parser.proofs.Commas.{rest}
use Rattle.parser.proofs.arguments.parse_exps.Given as goal

abbrev pub invariant-loop-e : goal.invariant-loop-e
invariant-loop-e l = (N : ℕ) → 8 * left l.initial.c + 3 ≤ N → Going (rest l.text (G.exp l.text N l.depth) (exp_node 0)) (list_nodes (exp_node 0)) l.text 1 l.initial.tree l.initial.end l.initial.count l.initial.c l.tree l.end l.count l.c

abbrev pub decreases-loop-e : goal.decreases-loop-e
decreases-loop-e l = left l.c

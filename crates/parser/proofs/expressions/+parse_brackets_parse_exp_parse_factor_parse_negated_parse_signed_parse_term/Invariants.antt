-- The proof of the cycle of calls of the readers of expressions. Each member's measure is eight times the tokens left, and its rank.
use Prim.Native.Nat.{◌+◌, ◌*◌}
use Rattle.lexer.specs.Stands.{left}
use Rattle.tree.specs.Nodes.{chain_nodes}
use Rattle.grammar.specs.Grammar as G
use Rattle.parser.proofs.Loops.{Going}
use Rattle.parser.proofs.expressions.+parse_brackets_parse_exp_parse_factor_parse_negated_parse_signed_parse_term.Given as goal

abbrev pub decreases-parse_brackets : goal.decreases-parse_brackets
decreases-parse_brackets l = 8 * left l.cur + 5

abbrev pub decreases-parse_exp : goal.decreases-parse_exp
decreases-parse_exp l = 8 * left l.cur + 4

abbrev pub decreases-parse_factor : goal.decreases-parse_factor
decreases-parse_factor l = 8 * left l.cur + 1

abbrev pub decreases-parse_negated : goal.decreases-parse_negated
decreases-parse_negated l = 8 * left l.cur + 3

abbrev pub decreases-parse_signed : goal.decreases-parse_signed
decreases-parse_signed l = 8 * left l.cur + 3

abbrev pub decreases-parse_term : goal.decreases-parse_term
decreases-parse_term l = 8 * left l.cur + 2

abbrev pub invariant-parse_exp-loop-d : goal.invariant-parse_exp-loop-d
invariant-parse_exp-loop-d l = Going (λ n. G.terms l.text n l.depth) chain_nodes l.text 1 l.initial.tree l.initial.end 1 l.initial.c l.tree l.end l.count l.c

abbrev pub decreases-parse_exp-loop-d : goal.decreases-parse_exp-loop-d
decreases-parse_exp-loop-d l = left l.c

abbrev pub invariant-parse_term-loop-d : goal.invariant-parse_term-loop-d
invariant-parse_term-loop-d l = Going (λ n. G.factors l.text n l.depth) chain_nodes l.text 1 l.initial.tree l.initial.end 1 l.initial.c l.tree l.end l.count l.c

abbrev pub decreases-parse_term-loop-d : goal.decreases-parse_term-loop-d
decreases-parse_term-loop-d l = left l.c

-- The proof of the cycle of calls of the readers of statements. Each member's measure is eight times the tokens left, and its rank.
use Prim.Native.Nat.{◌+◌, ◌*◌}
use Rattle.lexer.specs.Stands.{left}
use Rattle.parser.proofs.Members as M
use Rattle.parser.proofs.statements.+parse_body_parse_else_part_parse_if_parse_statement_parse_statements_parse_while_read_on.Given as goal

abbrev pub decreases-parse_body : goal.decreases-parse_body
decreases-parse_body l = 8 * left l.cur + 5

abbrev pub decreases-parse_else_part : goal.decreases-parse_else_part
decreases-parse_else_part l = 8 * left l.cur + 5

abbrev pub decreases-parse_if : goal.decreases-parse_if
decreases-parse_if l = 8 * left l.cur + 5

abbrev pub decreases-parse_statement : goal.decreases-parse_statement
decreases-parse_statement l = 8 * left l.cur + 6

abbrev pub decreases-parse_statements : goal.decreases-parse_statements
decreases-parse_statements l = 8 * left l.cur + 7

abbrev pub decreases-parse_while : goal.decreases-parse_while
decreases-parse_while l = 8 * left l.cur + 5

abbrev pub decreases-read_on : goal.decreases-read_on
decreases-read_on l = 8 * left l.cur + 5

abbrev pub invariant-parse_statements-loop-member : goal.invariant-parse_statements-loop-member
invariant-parse_statements-loop-member l = M.Going l.text l.depth l.initial.tree l.initial.end l.initial.c l.tree l.end l.count l.c

abbrev pub decreases-parse_statements-loop-member : goal.decreases-parse_statements-loop-member
decreases-parse_statements-loop-member l = left l.c

abbrev pub invariant-read_on-loop-d : goal.invariant-read_on-loop-d
invariant-read_on-loop-d l = M.Reading l.text l.depth l.initial.tree l.used l.initial.c l.tree l.c

abbrev pub decreases-read_on-loop-d : goal.decreases-read_on-loop-d
decreases-read_on-loop-d l = left l.c

-- The proof of the cycle of calls of the readers of procedures. Each member's measure is eight times the tokens left, and its rank.
use Prim.Native.Nat.{◌+◌, ◌*◌}
use Rattle.lexer.specs.Stands.{left}
use Rattle.parser.proofs.procedures.+parse_block_head_parse_inner_parse_later_parse_proc.Given as goal

abbrev pub decreases-parse_block_head : goal.decreases-parse_block_head
decreases-parse_block_head l = 8 * left l.cur + 3

abbrev pub decreases-parse_inner : goal.decreases-parse_inner
decreases-parse_inner l = 8 * left l.cur + 2

abbrev pub decreases-parse_later : goal.decreases-parse_later
decreases-parse_later l = 8 * left l.cur

abbrev pub decreases-parse_proc : goal.decreases-parse_proc
decreases-parse_proc l = 8 * left l.cur + 1

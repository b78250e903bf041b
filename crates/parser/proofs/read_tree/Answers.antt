-- `read_tree` meets its contract.
use mathlib.Core.Path.{sym, ◌∙◌}
use lib.ListN.{take}
use lib.Seq.{length-take-le}
use Rattle.parser.proofs.Entering.{room_start, reads_long, reads_bytes, reads_refused, reads}
use Rattle.parser.proofs.Answers.{left_as, refuses}
use Rattle.parser.proofs.read_tree.Goals as goal

pub returns-then-text-gt-MAX_SOURCE : goal.returns-then-text-gt-MAX_SOURCE
returns-then-text-gt-MAX_SOURCE c = reads_long _ c.if-text-gt-MAX_SOURCE.true

pub returns-then-not-is_ascii : goal.returns-then-not-is_ascii
returns-then-not-is_ascii c = reads_bytes _ c.if-text-gt-MAX_SOURCE.false (sym c.is_ascii.ensures ∙ c.if-not-is_ascii.true)

pub parse_program-requires : goal.parse_program-requires
parse_program-requires c = rw c.new.ensures (room_start c.args.text.now (take 98400 c.args.tree.now) c.if-text-gt-MAX_SOURCE.false (length-take-le 98400 c.args.tree.now c.requires))

pub returns-in_err-program : goal.returns-in_err-program
returns-in_err-program c =
    rw (left_as c.from_residual.ensures)
    (reads_refused _ c.args.tree.now _ (c.parse_program.auto.tree ∙ length-take-le 98400 c.args.tree.now c.requires) c.if-text-gt-MAX_SOURCE.false (sym c.is_ascii.ensures ∙ c.if-not-is_ascii.false) (refuses (rw c.new.ensures at c.in_err-program.ensures)))

pub returns : goal.returns
returns c =
    rw c.ok_or.ensures.value
    (reads _ c.args.tree.now _ (c.parse_program.auto.tree ∙ length-take-le 98400 c.args.tree.now c.requires) c.if-text-gt-MAX_SOURCE.false (sym c.is_ascii.ensures ∙ c.if-not-is_ascii.false) _ _ (rw c.new.ensures at c.in_ok-program.ensures))

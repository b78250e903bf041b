-- `simple::parse_read` meets its contract.
use mathlib.Core.Path.{refl}
use native.Mathlib.Omega.{arith}
use Rattle.lexer.specs.Marks.{open_sign, close_sign}
use Rattle.tree.specs.Tree.{read_s}
use Rattle.tree.specs.Layout.{read_kind}
use Rattle.tree.specs.Nodes.{stmt_node}
use Rattle.parser.proofs.Answers.{refused, room_took, wanted_fewer, left_as}
use Rattle.parser.proofs.Plain.{mapped, reading_stop, reading_moved}
use Rattle.parser.proofs.simple.parse_read.Goals as goal

pub returns-in_err-c : goal.returns-in_err-c
returns-in_err-c c = rw (left_as c.from_residual.ensures) (refused (reading_stop _ _ (c.in_err-c.ensures open_sign refl) refl))

pub parse_ids-requires : goal.parse_ids-requires
parse_ids-requires c = room_took c.requires (c.in_ok-c.ensures open_sign refl) refl _ 4 (omega arith)

pub returns-in_err-end : goal.returns-in_err-end
unfolding stmt_node
returns-in_err-end c =
    let f = wanted_fewer c.requires (c.in_ok-c.ensures open_sign refl) refl in
    rw (left_as c.from_residual-in_err-end.ensures)
    (mapped (room_took c.requires (c.in_ok-c.ensures open_sign refl) refl 0 0 (omega arith)) read_s (λ a. refl) _ (omega arith) (omega arith) (reading_moved _ _ (c.in_ok-c.ensures open_sign refl) refl) (c.in_err-end.ensures read_kind refl close_sign refl))

pub returns : goal.returns
unfolding stmt_node
returns c =
    let f = wanted_fewer c.requires (c.in_ok-c.ensures open_sign refl) refl in
    mapped (room_took c.requires (c.in_ok-c.ensures open_sign refl) refl 0 0 (omega arith)) read_s (λ a. refl) _ (omega arith) (omega arith) (reading_moved _ _ (c.in_ok-c.ensures open_sign refl) refl) (c.in_ok-end.ensures read_kind refl close_sign refl)

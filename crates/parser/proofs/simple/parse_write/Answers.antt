-- `simple::parse_write` meets its contract.
use mathlib.Core.Path.{refl}
use native.Mathlib.Omega.{arith}
use Rattle.lexer.specs.Marks.{open_sign}
use Rattle.tree.specs.Tree.{write_s}
use Rattle.tree.specs.Layout.{no_more, write_kind, count}
use Rattle.tree.specs.Nodes.{stmt_node}
use Rattle.tree.specs.Writing.{join}
use Rattle.parser.proofs.Writing.{wrote_none}
use Rattle.parser.proofs.Answers.{refused, room_took, wanted_fewer, left_as}
use Rattle.parser.proofs.Plain.{mapped, writing_stop, writing_moved}
use Rattle.parser.proofs.simple.parse_write.Goals as goal

pub returns-in_err-c : goal.returns-in_err-c
returns-in_err-c c = rw (left_as c.from_residual.ensures) (refused (writing_stop _ _ (c.in_err-c.ensures open_sign refl) refl))

pub parse_exps-requires : goal.parse_exps-requires
parse_exps-requires c = record { room = room_took c.requires (c.in_ok-c.ensures open_sign refl) refl _ 8 (omega arith); used_bound = (omega arith, omega arith) }

pub returns-in_err-end : goal.returns-in_err-end
unfolding stmt_node join count
returns-in_err-end c =
    let f = wanted_fewer c.requires (c.in_ok-c.ensures open_sign refl) refl in
    rw (left_as c.from_residual-in_err-end.ensures)
    (mapped (room_took c.requires (c.in_ok-c.ensures open_sign refl) refl 0 0 (omega arith)) write_s (λ a. refl) _ (omega arith) (omega arith) (writing_moved _ _ (c.in_ok-c.ensures open_sign refl) refl) (c.in_err-end.ensures.argues write_kind refl _ no_more refl (wrote_none (omega (arith, c.requires.room)))))

pub returns : goal.returns
unfolding stmt_node join count
returns c =
    let f = wanted_fewer c.requires (c.in_ok-c.ensures open_sign refl) refl in
    mapped (room_took c.requires (c.in_ok-c.ensures open_sign refl) refl 0 0 (omega arith)) write_s (λ a. refl) _ (omega arith) (omega arith) (writing_moved _ _ (c.in_ok-c.ensures open_sign refl) refl) (c.in_ok-end.ensures.argues write_kind refl _ no_more refl (wrote_none (omega (arith, c.requires.room))))

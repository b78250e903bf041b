-- `declarations::parse_const_decl` meets its contract.
use mathlib.Core.Path.{refl}
use native.Mathlib.Omega.{arith}
use Rattle.tree.specs.Nodes.{const_node}
use Rattle.parser.proofs.Answers.{refused, moved, same_left, room_taken, one_fewer, left_as}
use Rattle.parser.proofs.Sequences.{owed}
use Rattle.parser.proofs.Declared.{const_whole, part_stop, part_there, part_none}
use Rattle.parser.proofs.declarations.parse_const_decl.Goals as goal

pub returns-in_err-c : goal.returns-in_err-c
returns-in_err-c c = rw (left_as c.from_residual.ensures) (refused (part_stop const_node (const_whole _) c.in_err-c.ensures refl))

pub parse_consts-requires : goal.parse_consts-requires
parse_consts-requires c = room_taken c.requires c.in_ok-c.ensures refl c.take.ensures _ 8 (omega arith)

pub returns-in-Const : goal.returns-in-Const
returns-in-Const c =
    let f = one_fewer c.requires c.in_ok-c.ensures refl c.take.ensures in
    owed {spare = 8} {debt = 0} _ 0 4 (moved _ (omega arith) (omega arith) (part_there const_node (const_whole _) c.in_ok-c.ensures refl c.take.ensures c.in-Const.is) c.parse_consts.ensures) (omega arith)

pub returns-in_default : goal.returns-in_default
returns-in_default c =
    part_none const_node (const_whole _) c.in_ok-c.ensures refl c.in_default.not-Const (same_left c.requires c.in_ok-c.ensures refl) (omega (arith, c.requires.room)) c.push.ensures.0 c.push.ensures.1

-- `declarations::parse_var_decl` meets its contract.
use mathlib.Core.Path.{refl}
use native.Mathlib.Omega.{arith}
use Rattle.lexer.specs.Marks.{semicolon_sign}
use Rattle.tree.specs.Layout.{list_kind}
use Rattle.tree.specs.Nodes.{name_node}
use Rattle.parser.proofs.Answers.{refused, moved, same_left, room_taken, one_fewer, left_as}
use Rattle.parser.proofs.Sequences.{owed}
use Rattle.parser.proofs.Declared.{var_whole, part_stop, part_there, part_none}
use Rattle.parser.proofs.declarations.parse_var_decl.Goals as goal

pub returns-in_err-c : goal.returns-in_err-c
returns-in_err-c c = rw (left_as c.from_residual.ensures) (refused (part_stop name_node (var_whole _) c.in_err-c.ensures refl))

pub parse_ids-requires : goal.parse_ids-requires
parse_ids-requires c = room_taken c.requires c.in_ok-c.ensures refl c.take.ensures _ 4 (omega arith)

pub returns-in-Var : goal.returns-in-Var
returns-in-Var c =
    let f = one_fewer c.requires c.in_ok-c.ensures refl c.take.ensures in
    owed {spare = 8} {debt = 0} _ 0 4 (moved _ (omega arith) (omega arith) (part_there name_node (var_whole _) c.in_ok-c.ensures refl c.take.ensures c.in-Var.is) (c.parse_ids.ensures list_kind refl semicolon_sign refl)) (omega arith)

pub returns-in_default : goal.returns-in_default
returns-in_default c =
    part_none name_node (var_whole _) c.in_ok-c.ensures refl c.in_default.not-Var (same_left c.requires c.in_ok-c.ensures refl) (omega (arith, c.requires.room)) c.push.ensures.0 c.push.ensures.1

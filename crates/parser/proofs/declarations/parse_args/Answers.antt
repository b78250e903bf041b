-- `declarations::parse_args` meets its contract.
use mathlib.Core.Path.{refl}
use native.Mathlib.Omega.{arith}
use Rattle.lexer.specs.Marks.{close_sign}
use Rattle.tree.specs.Layout.{list_kind}
use Rattle.parser.proofs.Answers.{refused, moved, same_left, room_seen, one_fewer, left_as}
use Rattle.parser.proofs.Declared.{args_stop, args_there, args_none}
use Rattle.parser.proofs.declarations.parse_args.Goals as goal

pub returns-in_err-c : goal.returns-in_err-c
returns-in_err-c c = rw (left_as c.from_residual.ensures) (refused (args_stop c.in_err-c.ensures refl))

pub parse_ids-requires : goal.parse_ids-requires
parse_ids-requires c = room_seen c.requires c.in_ok-c.ensures refl

pub returns-in_default : goal.returns-in_default
returns-in_default c =
    let f = same_left c.requires c.in_ok-c.ensures refl in
    moved _ (omega arith) (omega arith) (args_there c.in_ok-c.ensures refl c.in_default.not-ParR) (c.parse_ids.ensures list_kind refl close_sign refl)

pub returns-in-ParR : goal.returns-in-ParR
returns-in-ParR c =
    args_none c.in_ok-c.ensures refl c.take.ensures c.in-ParR.is (one_fewer c.requires c.in_ok-c.ensures refl c.take.ensures) (omega (arith, c.requires.room)) c.push.ensures.0 c.push.ensures.1

-- `procedures::parse_block` meets its contract.
use mathlib.Core.Path.{refl}
use native.Mathlib.Omega.{arith}
use Rattle.parser.proofs.Answers.{refused, grew, room_after, room_at, left_as, refuses}
use Rattle.parser.proofs.Tries.{none_at, some_at, quiet, quiet_left, nothing}
use Rattle.parser.proofs.Procs.{block_front, block_body, block_quiet, block_done}
use Rattle.parser.proofs.procedures.parse_block.Goals as goal

pub parse_block_head-requires : goal.parse_block_head-requires
parse_block_head-requires c =
    room_at c.requires refl _ 12 (omega arith)

pub returns-in_err-declared : goal.returns-in_err-declared
returns-in_err-declared c =
    rw (left_as c.from_residual.ensures) (refused (block_front _ (refuses c.in_err-declared.ensures)))

pub parse_body-requires : goal.parse_body-requires
parse_body-requires c =
    room_after c.in_ok-declared.ensures refl {t = 4} c.requires c.parse_block_head.auto.tree (omega arith)

pub returns-in_err-body : goal.returns-in_err-body
returns-in_err-body c =
    rw (left_as c.from_residual-in_err-body.ensures) (refused (block_body _ _ c.in_ok-declared.ensures refl (refuses c.in_err-body.ensures)))

pub returns-in_default : goal.returns-in_default
returns-in_default c =
    let h = c.in_ok-body.ensures in
    let q = none_at c.in_default.is in
    nothing (omega (arith, (grew c.in_ok-declared.ensures refl).fewer, quiet_left h q)) (block_quiet _ _ c.in_ok-declared.ensures refl _ (quiet h q))

pub seal-requires : goal.seal-requires
seal-requires c =
    let a = room_after c.in_ok-declared.ensures refl {t = 4} c.requires c.parse_block_head.auto.tree (omega arith) in
    let g = (grew c.in_ok-declared.ensures refl).above in
    let i = grew c.in_ok-body.ensures (some_at c.in-Some.is) in
    let k = c.parse_body.auto.tree in
    record {
      i_bound = (omega (arith, i.above), omega (arith, i.room, a.room));
      count_le_end = (omega (arith, i.above), omega (arith, a.small));
    }

pub returns : goal.returns
returns c =
    block_done _ _ c.in_ok-declared.ensures refl c.in_ok-body.ensures (some_at c.in-Some.is) c.seal.ensures

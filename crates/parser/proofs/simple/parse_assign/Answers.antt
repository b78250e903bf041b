-- `simple::parse_assign` meets its contract.
use mathlib.Core.Path.{refl}
use Prim.Native.Nat.{◌+◌}
use native.Mathlib.Omega.{arith}
use Rattle.lexer.specs.Marks.{becomes_sign}
use Rattle.parser.proofs.Answers.{refused, grew, room_at, room_took, wanted_fewer, left_as, refuses}
use Rattle.parser.proofs.Leaves.{wrote_name}
use Rattle.parser.proofs.Plain.{assigned_stop, assigned_in, assigned_done}
use Rattle.parser.proofs.simple.parse_assign.Goals as goal

pub returns-in_err-c : goal.returns-in_err-c
returns-in_err-c c = rw (left_as c.from_residual.ensures) (refused (assigned_stop _ _ _ (c.in_err-c.ensures becomes_sign refl) refl))

pub parse_exp-requires : goal.parse_exp-requires
parse_exp-requires c =
    let p = room_took c.requires.room (c.in_ok-c.ensures becomes_sign refl) refl (c.args.used + 8) 8 (omega arith) in
    room_at p c.push_name-named.auto.tree _ 8 (omega (arith, c.push_name-named.ensures.0))

pub returns-in_err-end : goal.returns-in_err-end
returns-in_err-end c =
    rw (left_as c.from_residual-in_err-end.ensures) (refused (assigned_in _ _ _ (c.in_ok-c.ensures becomes_sign refl) refl (refuses c.in_err-end.ensures)))

pub seal-requires : goal.seal-requires
seal-requires c =
    let p = room_took c.requires.room (c.in_ok-c.ensures becomes_sign refl) refl (c.args.used + 8) 8 (omega arith) in
    let g = grew c.in_ok-end.ensures refl in
    let e = c.push_name-named.ensures.0 in
    let k = c.parse_exp.auto.tree in
    let j = c.push_name-named.auto.tree in
    record {
      i_bound = (omega (arith, g.above), omega (arith, g.room, p.room));
      count_le_end = (omega (arith, g.above), omega (arith, p.small));
    }

pub returns : goal.returns
returns c =
    assigned_done _ _ _ (c.in_ok-c.ensures becomes_sign refl) refl _ (wrote_name _ _ _ 0 c.requires.len_in_bounds (omega (arith, c.requires.room.room)) c.push_name-named.ensures.0 c.push_name-named.ensures.1) (omega (arith, c.push_name-named.ensures.0))
    (wanted_fewer c.requires.room (c.in_ok-c.ensures becomes_sign refl) refl) c.in_ok-end.ensures refl c.seal.ensures

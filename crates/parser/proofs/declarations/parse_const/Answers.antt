-- `declarations::parse_const` meets its contract.
use mathlib.Core.Path.{refl}
use native.Mathlib.Omega.{arith}
use Rattle.lexer.specs.Marks.{becomes_sign}
use Rattle.parser.proofs.Answers.{refused, grew, room_after, room_took, wanted_fewer, left_as, refuses}
use Rattle.parser.proofs.Declared.{const_refused, const_mark, const_number, const_done}
use Rattle.parser.proofs.declarations.parse_const.Goals as goal

pub returns-in_err-named : goal.returns-in_err-named
returns-in_err-named c = rw (left_as c.from_residual.ensures) (refused (const_refused (refuses c.in_err-named.ensures)))

pub returns-in_err-d : goal.returns-in_err-d
returns-in_err-d c = rw (left_as c.from_residual-in_err-d.ensures) (refused (const_mark _ c.in_ok-named.ensures refl (c.in_err-d.ensures becomes_sign refl) refl))

pub parse_integer-requires : goal.parse_integer-requires
parse_integer-requires c =
    let a = room_after c.in_ok-named.ensures refl {t = 0} c.requires c.parse_id.auto.tree (omega arith) in
    room_took a (c.in_ok-d.ensures becomes_sign refl) refl _ 0 (omega arith)

pub returns-in_err-end : goal.returns-in_err-end
returns-in_err-end c = rw (left_as c.from_residual-in_err-end.ensures) (refused (const_number _ c.in_ok-named.ensures refl (c.in_ok-d.ensures becomes_sign refl) refl (refuses c.in_err-end.ensures)))

pub seal-requires : goal.seal-requires
seal-requires c =
    let a = room_after c.in_ok-named.ensures refl {t = 0} c.requires c.parse_id.auto.tree (omega arith) in
    let b = room_took a (c.in_ok-d.ensures becomes_sign refl) refl c.in_ok-named.named 0 (omega arith) in
    let g = grew c.in_ok-named.ensures refl in
    let j = grew c.in_ok-end.ensures refl in
    let k = c.parse_integer.auto.tree in
    record {
      i_bound = (omega (arith, g.above, j.above), omega (arith, j.room, b.room));
      count_le_end = (omega (arith, g.above, j.above), omega (arith, b.small));
    }

pub returns : goal.returns
returns c =
    let a = room_after c.in_ok-named.ensures refl {t = 0} c.requires c.parse_id.auto.tree (omega arith) in
    const_done _ c.in_ok-named.ensures refl (c.in_ok-d.ensures becomes_sign refl) refl c.in_ok-end.ensures refl (wanted_fewer a (c.in_ok-d.ensures becomes_sign refl) refl) c.seal.ensures

-- `simple::parse_call` meets its contract.
use mathlib.Core.Path.{refl}
use native.Mathlib.Omega.{arith}
use Rattle.lexer.specs.Marks.{open_sign}
use Rattle.parser.proofs.Answers.{refused, grew, room_after, room_took, room_seen, same_left, one_fewer, wanted_fewer, left_as, refuses}
use Rattle.parser.proofs.Plain.{called_refused, called_stop, called_look, called_none, called_some}
use Rattle.parser.proofs.simple.parse_call.Goals as goal

pub returns-in_err-named : goal.returns-in_err-named
returns-in_err-named c = rw (left_as c.from_residual.ensures) (refused (called_refused _ _ (refuses c.in_err-named.ensures)))

pub returns-in_err-d : goal.returns-in_err-d
returns-in_err-d c = rw (left_as c.from_residual-in_err-d.ensures) (refused (called_stop _ _ _ c.in_ok-named.ensures refl (c.in_err-d.ensures open_sign refl) refl))

pub returns-in_err-e : goal.returns-in_err-e
returns-in_err-e c =
    rw (left_as c.from_residual-in_err-e.ensures) (refused (called_look _ _ _ c.in_ok-named.ensures refl (c.in_ok-d.ensures open_sign refl) refl c.in_err-e.ensures refl))

pub seal-requires : goal.seal-requires
seal-requires c =
    let g = grew c.in_ok-named.ensures refl in
    let k = c.parse_id.auto.tree in
    record {
      i_bound = (g.above, omega (arith, g.room, c.requires.room));
      count_le_end = (omega (arith, g.above), omega (arith, c.requires.small));
    }

pub returns-in-ParR : goal.returns-in-ParR
returns-in-ParR c =
    let p = room_after c.in_ok-named.ensures refl {t = 0} c.requires c.parse_id.auto.tree (omega arith) in
    let q = room_took p (c.in_ok-d.ensures open_sign refl) refl c.in_ok-named.named 8 (omega arith) in
    called_none _ _ _ c.in_ok-named.ensures refl (c.in_ok-d.ensures open_sign refl) refl c.in_ok-e.ensures refl (wanted_fewer p (c.in_ok-d.ensures open_sign refl) refl) c.in-ParR.is c.take.ensures (one_fewer q c.in_ok-e.ensures refl c.take.ensures) c.seal.ensures

pub parse_exps-requires : goal.parse_exps-requires
parse_exps-requires c =
    let g = grew c.in_ok-named.ensures refl in
    let p = room_after c.in_ok-named.ensures refl {t = 0} c.requires c.parse_id.auto.tree (omega arith) in
    let q = room_took p (c.in_ok-d.ensures open_sign refl) refl c.in_ok-named.named 8 (omega arith) in
    record {
      room = room_seen q c.in_ok-e.ensures refl;
      used_bound = (g.above, omega (arith, g.above));
    }

pub returns-in_err-end : goal.returns-in_err-end
returns-in_err-end c =
    let p = room_after c.in_ok-named.ensures refl {t = 0} c.requires c.parse_id.auto.tree (omega arith) in
    let q = room_took p (c.in_ok-d.ensures open_sign refl) refl c.in_ok-named.named 8 (omega arith) in
    rw (left_as c.from_residual-in_err-end.ensures)
    (called_some _ _ _ c.in_ok-named.ensures refl (c.in_ok-d.ensures open_sign refl) refl c.in_ok-e.ensures refl (wanted_fewer p (c.in_ok-d.ensures open_sign refl) refl) c.in_default.not-ParR (same_left q c.in_ok-e.ensures refl) c.requires _ c.in_err-end.ensures)

pub returns : goal.returns
returns c =
    let p = room_after c.in_ok-named.ensures refl {t = 0} c.requires c.parse_id.auto.tree (omega arith) in
    let q = room_took p (c.in_ok-d.ensures open_sign refl) refl c.in_ok-named.named 8 (omega arith) in
    called_some _ _ _ c.in_ok-named.ensures refl (c.in_ok-d.ensures open_sign refl) refl c.in_ok-e.ensures refl (wanted_fewer p (c.in_ok-d.ensures open_sign refl) refl) c.in_default.not-ParR (same_left q c.in_ok-e.ensures refl) c.requires _ c.in_ok-end.ensures

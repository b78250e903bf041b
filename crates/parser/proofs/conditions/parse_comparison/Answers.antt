-- `conditions::parse_comparison` meets its contract.
use mathlib.Core.Path.{refl, ◌≡◌}
use native.Mathlib.Omega.{arith}
use Rattle.std.specs.Prelude.{Some, None}
use Rattle.numbers.specs.declared.refusal.Refusal.TheVariants.{TokenMissing}
use Rattle.parser.proofs.Answers.{refused, grew, room_after, room_taken, one_fewer, left_as, refuses}
use Rattle.parser.proofs.Conds.{compared_refused, compared_stop, compared_none, compared_second, compared_done}
use Rattle.parser.proofs.conditions.parse_comparison.Goals as goal

pub returns-in_err-first : goal.returns-in_err-first
returns-in_err-first c =
    rw (left_as c.from_residual.ensures) (refused (compared_refused _ _ (refuses c.in_err-first.ensures)))

pub returns-in_err-d : goal.returns-in_err-d
returns-in_err-d c =
    rw (left_as c.from_residual-in_err-d.ensures) (refused (compared_stop _ _ _ c.in_ok-first.ensures refl c.see.ensures c.in_err-d.was))

pub returns-in_err-sign : goal.returns-in_err-sign
returns-in_err-sign c =
    let e : c.comparison.result ≡ None = grind arith in
    let w : c.in_err-sign.field-0.0 ≡ TokenMissing = grind arith in
    rw (left_as c.from_residual-in_err-sign.ensures, w) (refused (compared_none _ _ _ c.in_ok-first.ensures refl c.see.ensures c.in_ok-d.was c.comparison.ensures e))

pub parse_exp-requires-2 : goal.parse_exp-requires-2
parse_exp-requires-2 c =
    let p = room_after c.in_ok-first.ensures refl {t = 0} c.requires c.parse_exp.auto.tree (omega arith) in
    room_taken p c.see.ensures c.in_ok-d.was c.take.ensures _ 8 (omega arith)

pub returns-in_err-end : goal.returns-in_err-end
returns-in_err-end c =
    let p = room_after c.in_ok-first.ensures refl {t = 0} c.requires c.parse_exp.auto.tree (omega arith) in
    let f = one_fewer p c.see.ensures c.in_ok-d.was c.take.ensures in
    let s : c.comparison.result ≡ Some c.in_ok-sign.sign = grind arith in
    rw (left_as c.from_residual-in_err-end.ensures) (refused (compared_second _ _ _ c.in_ok-first.ensures refl c.see.ensures c.in_ok-d.was c.comparison.ensures s c.take.ensures (omega (arith, (grew c.in_ok-first.ensures refl).fewer)) (refuses c.in_err-end.ensures)))

pub seal-requires : goal.seal-requires
seal-requires c =
    let p = room_after c.in_ok-first.ensures refl {t = 0} c.requires c.parse_exp.auto.tree (omega arith) in
    let f = one_fewer p c.see.ensures c.in_ok-d.was c.take.ensures in
    let g = grew c.in_ok-first.ensures refl in
    let h = grew c.in_ok-end.ensures refl in
    let k = c.parse_exp-2.auto.tree in
    record {
      i_bound = (omega (arith, g.above, h.above), omega (arith, h.room, p.room));
      count_le_end = (omega (arith, g.above, h.above), omega (arith, p.small));
    }

pub returns : goal.returns
returns c =
    let p = room_after c.in_ok-first.ensures refl {t = 0} c.requires c.parse_exp.auto.tree (omega arith) in
    let s : c.comparison.result ≡ Some c.in_ok-sign.sign = grind arith in
    compared_done _ _ _ c.in_ok-first.ensures refl c.see.ensures c.in_ok-d.was c.comparison.ensures s c.take.ensures (one_fewer p c.see.ensures c.in_ok-d.was c.take.ensures) c.in_ok-end.ensures refl c.compared.ensures c.seal.ensures

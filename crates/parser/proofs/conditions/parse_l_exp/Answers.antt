-- `conditions::parse_l_exp` meets its contract.
use native.Mathlib.Omega.{arith}
use Rattle.parser.proofs.Answers.{refused, moved, room_seen, same_left, room_taken, one_fewer, left_as}
use Rattle.parser.proofs.Conds.{cond_refused, cond_odd, cond_compared}
use Rattle.parser.proofs.conditions.parse_l_exp.Goals as goal

pub returns-in_err-c : goal.returns-in_err-c
returns-in_err-c c =
    rw (left_as c.from_residual.ensures) (refused (cond_refused _ _ c.see.ensures c.in_err-c.was))

pub parse_odd-requires : goal.parse_odd-requires
parse_odd-requires c =
    room_taken c.requires c.see.ensures c.in_ok-c.was c.take.ensures _ 12 (omega arith)

pub parse_comparison-requires : goal.parse_comparison-requires
parse_comparison-requires c =
    room_seen c.requires c.see.ensures c.in_ok-c.was

pub returns-in-Odd : goal.returns-in-Odd
returns-in-Odd c =
    let f = one_fewer c.requires c.see.ensures c.in_ok-c.was c.take.ensures in
    moved _ (omega arith) (omega arith) (cond_odd _ _ c.see.ensures c.in_ok-c.was c.take.ensures c.in-Odd.is) c.parse_odd.ensures

pub returns-in_default : goal.returns-in_default
returns-in_default c =
    let f = same_left c.requires c.see.ensures c.in_ok-c.was in
    moved _ (omega arith) (omega arith) (cond_compared _ _ c.see.ensures c.in_ok-c.was c.in_default.not-Odd) c.parse_comparison.ensures

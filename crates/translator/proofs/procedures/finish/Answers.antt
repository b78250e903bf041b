-- The proof of `finish`.
use native.Mathlib.Omega.{arith}
use Rattle.emission.specs.Jumps.{one}
use Rattle.emission.specs.Passed.{passed}
use Rattle.translator.proofs.Ending.{has_stmt, is_body_lem, int_stop, body_stop, body_made}
use Rattle.translator.proofs.procedures.finish.Goals as goal

pub returns-in_err-m : goal.returns-in_err-m
returns-in_err-m c = rw (passed c.from_residual.ensures.1) (int_stop _ _ c.in_err-m.ensures _)

pub body-requires-clause-ready : goal.body-requires-clause-ready
body-requires-clause-ready c =
    let w = one c.in_ok-m.ensures in
    record { known = c.requires.ready.known; room = omega (arith, c.requires.ready.room, c.emit.auto.draft); most = omega (arith, w.below, w.ends) }

pub body-requires-clause-has_stmt : goal.body-requires-clause-has_stmt
body-requires-clause-has_stmt c = has_stmt c.requires.has_body

pub body-requires-clause-has_kind : goal.body-requires-clause-has_kind
body-requires-clause-has_kind c = is_body_lem c.requires.has_body

pub returns-in_err-q : goal.returns-in_err-q
returns-in_err-q c = rw (passed c.from_residual-in_err-q.ensures.1) (body_stop _ _ c.in_ok-m.ensures c.requires.ready.most c.in_err-q.ensures _)

pub returns : goal.returns
returns c = body_made _ _ c.in_ok-m.ensures c.requires.ready.most c.in_ok-q.ensures c.emit_oper.ensures

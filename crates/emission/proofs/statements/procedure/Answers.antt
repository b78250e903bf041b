-- The proof of `procedure`.
use native.Mathlib.Omega.{arith}
use Rattle.emission.specs.Passed.{passed}
use Rattle.emission.proofs.Sought.{none_called, wrong_called, count_called, is_called}
use Rattle.emission.proofs.Stmts.{has_callee, call_name, call_fits, call_length}
use Rattle.emission.proofs.statements.procedure.Goals as goal

pub named-requires-clause-has_name : goal.named-requires-clause-has_name
named-requires-clause-has_name c = has_callee c.requires.has_kind c.requires.has_stmt

pub returns-in_err-y : goal.returns-in_err-y
returns-in_err-y c = λ f es a. rw (passed c.from_residual.ensures.1) (none_called (c.in_err-y.ensures f (call_name f es a)))

pub bounds-env-i : goal.bounds-env-i
bounds-env-i c = omega (arith, (call_fits c.requires.has_kind c.requires.has_stmt).0)

pub overflow_sub-env : goal.overflow_sub-env
overflow_sub-env c = omega (arith, (call_fits c.requires.has_kind c.requires.has_stmt).1)

pub returns-in-Procedure : goal.returns-in-Procedure
returns-in-Procedure c = λ f es a. is_called c.in-Procedure.is (omega (arith, c.if-env-i.true, call_length f es a)) (c.in_ok-y.ensures f (call_name f es a))

pub returns-in-Procedure-2 : goal.returns-in-Procedure-2
returns-in-Procedure-2 c = λ f es a. count_called c.in-Procedure-2.is (λ e. c.if-env-i.false (omega (arith, e, call_length f es a))) (c.in_ok-y.ensures f (call_name f es a))

pub returns-in_default : goal.returns-in_default
returns-in_default c = λ f es a. wrong_called c.in_default.not-Procedure (c.in_ok-y.ensures f (call_name f es a))

-- The proof of `stas`.
use native.Mathlib.Omega.{arith}
use Rattle.emission.specs.Passed.{passed}
use Rattle.translator.proofs.Ending.{stas_start, stas_stop, stas_more, stas_done}
use Rattle.translator.proofs.procedures.stas.Goals as goal

pub loop-i-init : goal.loop-i-init
loop-i-init c = stas_start _ _ _ c.requires.n_le_max_code.0

pub returns-in_err-m : goal.returns-in_err-m
returns-in_err-m c = rw (passed c.from_residual.ensures.1) (stas_stop _ c.loop-i.invariant _ (omega (arith, c.loop-i-test.true)) c.in_err-m.ensures)

pub loop-i-preserved : goal.loop-i-preserved
loop-i-preserved c = stas_more _ c.loop-i.invariant (omega (arith, c.loop-i-test.true)) c.in_ok-m.ensures

pub returns : goal.returns
returns c = stas_done _ c.loop-i.invariant (omega (arith, c.loop-i-test.false))

pub returns-in_ok-m : goal.returns-in_ok-m
returns-in_ok-m c = stas_done _ (stas_more _ c.loop-i.invariant (omega arith) c.in_ok-m.ensures) (omega arith)

-- The proof of `ending`.
use native.Mathlib.Omega.{arith}
use Rattle.emission.specs.Drafting.{wrote_at}
use Rattle.emission.specs.Passed.{passed}
use Rattle.translator.proofs.Ending.{sta_stop, sta_made}
use Rattle.translator.proofs.procedures.ending.Goals as goal

pub returns-in_err-m : goal.returns-in_err-m
returns-in_err-m c = rw (passed c.from_residual.ensures.1) (sta_stop _ _ _ c.in_err-m.ensures _)

pub finish-requires-clause-ready : goal.finish-requires-clause-ready
finish-requires-clause-ready c = record { known = c.requires.ready.known; room = omega (arith, c.requires.ready.room, c.stas.auto.draft); most = (wrote_at c.in_ok-m.ensures).most }

pub returns : goal.returns
returns c = sta_made _ _ _ c.in_ok-m.ensures c.requires.ready.most c.finish.ensures

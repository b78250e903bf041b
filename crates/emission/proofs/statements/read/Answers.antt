-- The proof of `read`.
use native.Mathlib.Omega.{arith}
use mathlib.Core.Path.{refl}
use Rattle.tree.specs.Parts.{stmt_fits}
use Rattle.emission.specs.Passed.{passed}
use Rattle.emission.proofs.Lists.{loop_head, loop_stop, loop_more, loop_done}
use Rattle.emission.proofs.Stmts.{reads_start, reads_empty}
use Rattle.emission.proofs.statements.read.Goals as goal

pub bounds-env-i : goal.bounds-env-i
bounds-env-i c = omega (arith, stmt_fits c.requires.has_stmt.at)

pub loop-init : goal.loop-init
loop-init c = reads_start _ _ _ _ _ _ _ c.requires.has_kind refl c.requires.ready.most

pub read_one-requires-clause-ready : goal.read_one-requires-clause-ready
read_one-requires-clause-ready c =
    let d = loop_head _ _ _ _ _ _ _ _ _ c.loop.invariant c.loop-test.true c.requires.has_stmt.stmt c.requires.has_stmt.at in
    record { known = c.requires.ready.known; room = omega (arith, c.requires.ready.room, c.loop.auto.draft); most = d.most }

pub read_one-requires-clause-has_name : goal.read_one-requires-clause-has_name
read_one-requires-clause-has_name c =
    let d = loop_head _ _ _ _ _ _ _ _ _ c.loop.invariant c.loop-test.true c.requires.has_stmt.stmt c.requires.has_stmt.at in
    record { name = d.head; at = d.at }

pub returns-in_err-m : goal.returns-in_err-m
returns-in_err-m c = rw (passed c.from_residual.ensures.1) (loop_stop _ _ _ _ _ _ _ _ _ c.loop.invariant c.loop-test.true _ c.in_err-m.ensures)

pub after-j-requires : goal.after-j-requires
after-j-requires c =
    let d = loop_head _ _ _ _ _ _ _ _ _ c.loop.invariant c.loop-test.true c.requires.has_stmt.stmt c.requires.has_stmt.at in
    (_, d.stands)

pub loop-preserved : goal.loop-preserved
loop-preserved c = loop_more _ _ _ _ _ _ _ _ _ c.loop.invariant c.loop-test.true c.in_ok-m.ensures c.after-j.ensures

pub returns : goal.returns
returns c = loop_done _ _ _ _ _ _ _ _ _ c.loop.invariant (reads_empty c.args.env.now.text.now c.args.env.now.tree.now _) c.loop-test.false

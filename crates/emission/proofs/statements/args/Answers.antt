-- The proof of `args`.
use native.Mathlib.Omega.{arith}
use mathlib.Core.Path.{refl}
use Rattle.tree.specs.Parts.{stmt_fits}
use Rattle.emission.specs.Passed.{passed}
use Rattle.emission.proofs.Lists.{loop_head, loop_stop, loop_more, loop_done}
use Rattle.emission.proofs.Stmts.{the_call, args_start, args_empty}
use Rattle.emission.proofs.statements.args.Goals as goal

pub bounds-env-i : goal.bounds-env-i
bounds-env-i c = omega (arith, stmt_fits c.requires.has_stmt.at)

pub loop-init : goal.loop-init
loop-init c = args_start _ _ _ _ _ _ _ refl c.requires.ready.most

pub exp-requires-clause-ready : goal.exp-requires-clause-ready
exp-requires-clause-ready c =
    let d = loop_head _ _ _ _ _ _ _ _ _ c.loop.invariant c.loop-test.true (the_call c.requires.has_kind c.requires.has_stmt).0 (the_call c.requires.has_kind c.requires.has_stmt).1 in
    record { known = c.requires.ready.known; room = omega (arith, c.requires.ready.room, c.loop.auto.draft); most = d.most }

pub exp-requires-clause-has_exp : goal.exp-requires-clause-has_exp
exp-requires-clause-has_exp c =
    let d = loop_head _ _ _ _ _ _ _ _ _ c.loop.invariant c.loop-test.true (the_call c.requires.has_kind c.requires.has_stmt).0 (the_call c.requires.has_kind c.requires.has_stmt).1 in
    record { exp = d.head; at = d.at }

pub returns-in_err-m : goal.returns-in_err-m
returns-in_err-m c = rw (passed c.from_residual.ensures.1) (λ f es a. loop_stop _ _ _ _ _ _ _ _ _ c.loop.invariant c.loop-test.true _ c.in_err-m.ensures (f, es) a)

pub after-j-requires : goal.after-j-requires
after-j-requires c =
    let d = loop_head _ _ _ _ _ _ _ _ _ c.loop.invariant c.loop-test.true (the_call c.requires.has_kind c.requires.has_stmt).0 (the_call c.requires.has_kind c.requires.has_stmt).1 in
    (_, d.stands)

pub loop-preserved : goal.loop-preserved
loop-preserved c = loop_more _ _ _ _ _ _ _ _ _ c.loop.invariant c.loop-test.true c.in_ok-m.ensures c.after-j.ensures

pub returns : goal.returns
returns c = λ f es a. loop_done _ _ _ _ _ _ _ _ _ c.loop.invariant (args_empty c.args.env.now.text.now c.args.env.now.tree.now _) c.loop-test.false (f, es) a

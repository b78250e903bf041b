-- The proof of `read`.
use Rattle.emission.specs.Meets.{here_of}
use Rattle.emission.proofs.Lists.{Loop}
use Rattle.emission.proofs.Stmts.{Reads}
use Rattle.emission.proofs.statements.read.Given as goal

abbrev pub invariant-loop : goal.invariant-loop
invariant-loop l = Loop (Reads l.env.text.now l.env.tree.now (here_of l.env) l.i) l.end l.i l.n l.initial.draft l.counter l.j l.m l.draft

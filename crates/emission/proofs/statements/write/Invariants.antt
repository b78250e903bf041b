-- The proof of `write`.
use Rattle.emission.specs.Meets.{here_of}
use Rattle.emission.proofs.Lists.{Loop}
use Rattle.emission.proofs.Stmts.{Writes}
use Rattle.emission.proofs.statements.write.Given as goal

abbrev pub invariant-loop : goal.invariant-loop
invariant-loop l = Loop (Writes l.env.text.now l.env.tree.now (here_of l.env) l.i) l.end l.i l.n l.initial.draft l.counter l.j l.m l.draft

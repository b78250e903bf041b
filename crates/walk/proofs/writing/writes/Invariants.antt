-- The proof of `writes`.
use mathlib.Core.Path.{◌≡◌}
use lib.ListN.{length}
use Rattle.walk.specs.Meets.{rows_of}
use Rattle.walk.proofs.Listed.{WritesLoop}
use Rattle.walk.proofs.writing.writes.Given as goal

abbrev pub invariant-loop : goal.invariant-loop
invariant-loop l = (length l.out ≡ length l.initial.out) × WritesLoop (rows_of l.env) l.env.text.now l.env.tree.now l.env l.i l.count l.vars l.initial.out l.initial.progress l.counter l.j l.out l.progress

-- The proof of `reads`.
use mathlib.Core.Path.{◌≡◌}
use lib.ListN.{length}
use Rattle.walk.specs.Meets.{rows_of}
use Rattle.walk.proofs.Listed.{ReadsLoop}
use Rattle.walk.proofs.reading.reads.Given as goal

abbrev pub invariant-loop : goal.invariant-loop
invariant-loop l = (length l.vars ≡ length l.initial.vars) × (length l.out ≡ length l.initial.out) × ReadsLoop (rows_of l.env) l.env.text.now l.env.tree.now l.env l.input l.i l.count l.initial.vars l.initial.out l.initial.progress l.counter l.j l.vars l.out l.progress

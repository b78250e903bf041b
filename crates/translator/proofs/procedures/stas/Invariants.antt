-- The proof of `stas`.
use Rattle.translator.specs.Translate.{stas}
use Rattle.emission.specs.Drafting.{Sofar}
use Rattle.translator.proofs.Ending.{left}
use Rattle.translator.proofs.procedures.stas.Given as goal

abbrev pub invariant-loop-i : goal.invariant-loop-i
invariant-loop-i l = Sofar (stas l.count 1 l.count) l.n l.initial.draft (left l.count l.i) l.m l.draft

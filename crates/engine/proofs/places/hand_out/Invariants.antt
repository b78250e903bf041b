-- The proof of `hand_out`: what k instructions have given to each list.
use Rattle.pcode.specs.Code.{kind_no}
use Rattle.engine.proofs.Handing.{Handed}
use Rattle.engine.proofs.places.hand_out.Given as goal

abbrev pub invariant-loop-k : goal.invariant-loop-k
invariant-loop-k l = record {
  kinds_put : Handed (λ i. kind_no i.op) l.draft l.n l.initial.kinds l.kinds l.k;
  levels_put : Handed (λ i. i.level) l.draft l.n l.initial.levels l.levels l.k;
  operands_put : Handed (λ i. i.operand) l.draft l.n l.initial.operands l.operands l.k;
}

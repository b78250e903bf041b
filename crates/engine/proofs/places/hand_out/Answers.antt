-- The proof of `hand_out`.
use mathlib.Core.Path.{refl}
use native.Mathlib.Omega.{arith}
use lib.IntN.{pos, negsuc}
use Rattle.pcode.specs.Code.{code_for, place_for, kind_no}
use Rattle.engine.proofs.Handing.{hand_more, hand_all, in_draft, kind_small, kind_read, level_small, level_is, operand_small, operand_read}
use Rattle.numbers.proofs.Putting.{filled_part}
use Rattle.engine.proofs.Leaving.{handed}
use Rattle.engine.proofs.places.hand_out.Goals as goal

pub bounds-draft-i : goal.bounds-draft-i
bounds-draft-i c = omega (arith, in_draft c.loop-k.k c.requires.drafts.1 c.loop-k-test.true)

pub overflow_cast-kinds : goal.overflow_cast-kinds
overflow_cast-kinds c = omega (arith, kind_small c.loop-k.k c.requires.drafts.1 c.loop-k-test.true)

pub bounds-draft-i-in-loop-k : goal.bounds-draft-i-in-loop-k
bounds-draft-i-in-loop-k c = omega (arith, in_draft c.loop-k.k c.requires.drafts.1 c.loop-k-test.true)

pub overflow_cast-levels : goal.overflow_cast-levels
overflow_cast-levels c = omega (arith, level_small c.loop-k.k c.requires.drafts.1 c.loop-k-test.true)

pub bounds-draft-i-in-loop-k-2 : goal.bounds-draft-i-in-loop-k-2
bounds-draft-i-in-loop-k-2 c = omega (arith, in_draft c.loop-k.k c.requires.drafts.1 c.loop-k-test.true)

pub bounds-draft-i-in-loop-k-3 : goal.bounds-draft-i-in-loop-k-3
bounds-draft-i-in-loop-k-3 c = omega (arith, in_draft c.loop-k.k c.requires.drafts.1 c.loop-k-test.true)

pub overflow_cast-operands-in-loop-k-2 : goal.overflow_cast-operands-in-loop-k-2
overflow_cast-operands-in-loop-k-2 c = omega (arith, operand_small c.loop-k.k c.requires.drafts.1 c.loop-k-test.true)

pub loop-k-preserved : goal.loop-k-preserved
loop-k-preserved c =
    let i = c.loop-k.invariant in
    record {
      kinds_put = hand_more (λ i. kind_no i.op) _ i.kinds_put c.loop-k-test.true c.requires.drafts (λ l d. kind_read c.loop-k.k d c.loop-k-test.true);
      levels_put = hand_more (λ i. i.level) _ i.levels_put c.loop-k-test.true c.requires.drafts (λ l d. level_is c.loop-k.k d c.loop-k-test.true);
      operands_put = hand_more (λ i. i.operand) _ i.operands_put c.loop-k-test.true c.requires.drafts (λ l d. operand_read c.loop-k.k d c.loop-k-test.true);
    }

pub returns : goal.returns
unfolding code_for place_for kind_no
returns c =
    let i = c.loop-k.invariant in
    let n = c.args.n in
    record {
      kinds_after = (λ l d. handed (λ p. p.kind) _ d c.requires.n_le_max_code (hand_all (λ i. kind_no i.op) i.kinds_put (omega arith) l d) (filled_part n 4096 (negsuc 0) c.loop-k.kinds (omega arith) (omega arith) c.clear.ensures refl));
      levels_after = (λ l d. handed (λ p. p.level) _ d c.requires.n_le_max_code (hand_all (λ i. i.level) i.levels_put (omega arith) l d) (filled_part n 4096 0 c.loop-k.levels (omega arith) (omega arith) c.clear-2.ensures refl));
      operands_after = (λ l d. handed (λ p. p.operand) _ d c.requires.n_le_max_code (hand_all (λ i. i.operand) i.operands_put (omega arith) l d) (filled_part n 4096 (pos 0) c.loop-k.operands (omega arith) (omega arith) c.clear-3.ensures refl));
    }

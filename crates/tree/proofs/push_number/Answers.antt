-- The proof of `push_number`: a literal's two halves.
use native.Mathlib.Omega.{arith}
use Rattle.tree.specs.Layout.{enc}
use Rattle.tree.proofs.Literals.{plain, below}
use Rattle.tree.proofs.push_number.Goals as goal

pub overflow_cast-v : goal.overflow_cast-v
overflow_cast-v c = rw (plain _ _ c.ranges.value c.requires.not_negative.1) (tt, omega (arith, below _ _ c.ranges.value c.requires.not_negative.1))

pub overflow_cast-high : goal.overflow_cast-high
overflow_cast-high c = rw (plain _ _ c.ranges.value c.requires.not_negative.1) (omega (arith, below _ _ c.ranges.value c.requires.not_negative.1))

pub returns : goal.returns
unfolding enc
returns c =
    record {
      next = c.push.ensures.0;
      literal_behind = λ v h. rw c.push.ensures.0 (rw (plain _ _ c.ranges.value h) at c.push.ensures.1);
    }

-- The proof of `push_name`.
use Rattle.tree.specs.Layout.{enc}
use Rattle.tree.proofs.push_name.Goals as goal

pub returns : goal.returns
unfolding enc
returns c = (c.push.ensures.0, rw c.push.ensures.0 c.push.ensures.1)

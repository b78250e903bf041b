-- The proof of `emit`.
use Rattle.emission.specs.Drafting.{narrow}
use Rattle.emission.proofs.emit.Goals as goal

pub returns : goal.returns
returns c = narrow _ _ _ _ c.emit_wide.ensures

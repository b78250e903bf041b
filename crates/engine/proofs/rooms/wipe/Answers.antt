-- The proof of `wipe`.
use native.Mathlib.Omega.{arith}
use Rattle.numbers.specs.Limits.{tree_places, table_places, draft_places}
use Rattle.engine.proofs.Compiling.{zeroed}
use Rattle.engine.proofs.rooms.wipe.Goals as goal

pub returns-clause-tree_after : goal.returns-clause-tree_after
returns-clause-tree_after c = zeroed tree_places (omega (arith, c.told-tree)) c.clear.ensures

pub returns-clause-table_after : goal.returns-clause-table_after
returns-clause-table_after c = zeroed table_places (omega (arith, c.told-table)) c.clear-2.ensures

pub returns-clause-draft_after : goal.returns-clause-draft_after
returns-clause-draft_after c = zeroed draft_places (omega (arith, c.told-draft)) c.clear-3.ensures

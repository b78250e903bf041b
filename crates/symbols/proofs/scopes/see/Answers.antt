-- The proof of `see`.
use native.Mathlib.Omega.{arith}
use Rattle.symbols.proofs.Seeing.{look_linked, look_marked, look_unopened, look_plain, look_seen, look_became}
use Rattle.symbols.proofs.scopes.see.Goals as goal

pub clear-requires : goal.clear-requires
clear-requires c = omega (arith, c.requires.linked.most, c.requires.linked.room)

pub mark-requires : goal.mark-requires
mark-requires c = look_linked _ _ _ _ c.requires.linked c.requires.scope_le_used c.clear.ensures

pub open_rows-requires : goal.open_rows-requires
open_rows-requires c =
    record {
      linked = look_marked _ _ _ _ c.requires.linked c.requires.scope_le_used c.clear.ensures _ c.mark.ensures;
      unopened = look_unopened _ _ _ _ c.requires.linked c.requires.scope_le_used c.clear.ensures _ c.mark.ensures;
    }

pub returns : goal.returns
returns c =
    record {
      seen = look_seen _ _ _ _ c.requires.linked c.requires.scope_le_used c.clear.ensures _ c.mark.ensures _ c.open_rows.ensures;
      rows_stay = λ s g. look_became s _ _ _ (look_plain _ _ _ _ c.requires.linked c.requires.scope_le_used c.clear.ensures _ c.mark.ensures _ c.open_rows.ensures) g;
    }

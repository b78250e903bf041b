-- The proof of `open_rows`.
use Rattle.symbols.proofs.Seeing.{plain_length, open_start, open_linked, open_more, open_skip, open_end}
use Rattle.symbols.proofs.scopes.open_rows.Goals as goal
use Rattle.symbols.proofs.scopes.open_rows.Goals.{then-opens, else-opens}

pub loop-k-init : goal.loop-k-init
loop-k-init c = open_start _

pub opens-requires : goal.opens-requires
opens-requires c = open_linked _ _ _ _ c.requires.linked c.requires.unopened c.loop-k.invariant c.loop-k.auto.k-end c.loop-k-test.true

pub loop-k-preserved : goal.loop-k-preserved
loop-k-preserved c =
    elim c.if-opens.branch [
      | then-opens w ↦ rw w.table-is (open_more _ _ _ _ c.requires.linked c.requires.unopened c.loop-k.invariant c.loop-k.auto.k-end c.loop-k-test.true _ c.opens.ensures w.if-opens.true)
      | else-opens w ↦ rw w.table-is (open_skip _ _ _ _ c.requires.linked c.requires.unopened c.loop-k.invariant c.loop-k.auto.k-end c.loop-k-test.true _ c.opens.ensures w.if-opens.false)
    ]

pub shape_of-table : goal.shape_of-table
shape_of-table c = plain_length c.loop-k.invariant.plain

pub returns : goal.returns
returns c = open_end _ _ _ _ c.requires.linked c.requires.unopened c.loop-k.invariant c.loop-k.auto.k-end c.loop-k-test.false

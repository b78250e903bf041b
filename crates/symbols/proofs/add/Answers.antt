-- The proof of `add`.
use Rattle.std.proofs.Common.{◌∙◌, ap}
use Rattle.symbols.specs.Table.{hash_of}
use Rattle.symbols.proofs.Adding.{add_made, add_full}
use Rattle.symbols.proofs.add.Goals as goal

pub returns-then-used-ge-MAX_ROWS : goal.returns-then-used-ge-MAX_ROWS
returns-then-used-ge-MAX_ROWS c = add_full _ _ _ _ _ _ c.if-used-ge-MAX_ROWS.true

pub returns : goal.returns
returns c =
    let e = c.new-name.ensures ∙ c.part.ensures in
    add_made _ _ _ _ _ _ _ c.requires.declares c.if-used-ge-MAX_ROWS.false (c.new-name.result.hashed ∙ ap hash_of e) c.put.auto.table c.put.ensures (rw e at c.first_row-first.ensures) c.requires.new_procedure

-- The proof of `place`.
use Rattle.walk.proofs.Lookup.{nothing_place, row_lies, row_place}
use Rattle.walk.proofs.storing.place.Goals as goal

pub returns-in_default : goal.returns-in_default
returns-in_default c = nothing_place _ _ _ _ _ (c.find.ensures _ c.requires.rows.seen) c.in_default.is

pub read_row-requires : goal.read_row-requires
read_row-requires c = row_lies _ _ _ _ _ (c.find.ensures _ c.requires.rows.seen) _ c.in-Some.is c.requires.rows.sound

pub returns : goal.returns
returns c = row_place _ _ _ _ _ (c.find.ensures _ c.requires.rows.seen) _ c.in-Some.is _ c.read_row.ensures _ c.place_of.ensures

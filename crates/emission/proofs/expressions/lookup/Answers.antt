-- The proof of `lookup`: the row that is found is read.
use Rattle.emission.specs.Meets.{here_of}
use Rattle.emission.proofs.Lookup.{looks_none, looks_row, row_there}
use Rattle.emission.proofs.expressions.lookup.Goals as goal

pub find-requires : goal.find-requires
find-requires c = record { sound = c.requires.known.sound; len_in_bounds = c.requires.len_in_bounds }

pub returns-in_err-k : goal.returns-in_err-k
unfolding here_of
returns-in_err-k c = rw c.from_residual.ensures (looks_none _ _ (c.in_err-k.ensures _ c.requires.known.seen))

pub read_row-requires : goal.read_row-requires
read_row-requires c = row_there _ _ _ _ _ (c.in_ok-k.ensures _ c.requires.known.seen) c.requires.known.sound

pub returns : goal.returns
unfolding here_of
returns c = looks_row _ _ _ c.read_row.ensures (c.in_ok-k.ensures _ c.requires.known.seen)

-- What `list` returns and leaves, as an outcome.
use Rattle.std.specs.Prelude.{List, ℕ}
use Rattle.listing.specs.declared.lists.Listed.{Listed}
use Rattle.listing.specs.Outcome.{ListOutcome}

-- with the output at the end
abbrev pub listed_of : Listed → List ℕ → ListOutcome
listed_of r out = record { number = r.number; out_length = r.out_len; out = out }

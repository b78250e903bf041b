-- What `loopgarret_parse` promises: the number of what the parser answers, with the parser's own promise on the lent room.
use Rattle.std.specs.Prelude.{◌≡◌, Ok, Err, List, ℕ}
use Rattle.std.proofs.Common.{sym, ap, ◌∙◌}
use Rattle.numbers.specs.Panel.{done}
use Rattle.numbers.specs.Refusals.{number_of as refusal_no}
use Rattle.parser.specs.Entry.{Parsed, Parses, parse_once}

-- the number of an answer: a tree is done
abbrev pub number_of : Parsed → ℕ
number_of (Ok end) = done
number_of (Err w) = refusal_no w

pub record Exports (src xs ys : List ℕ) (n : ℕ) : Type 0 where
  pub answer : Parsed
  pub parses : Parses src xs ys answer
  pub number : n ≡ number_of answer

-- two outcomes coincide, whole room included
pub export_once : (src xs ys zs : List ℕ) (n m : ℕ) → Exports src xs ys n → Exports src xs zs m → (n ≡ m) × (ys ≡ zs)
export_once src xs ys zs n m p q =
    let o = parse_once src xs ys zs p.answer q.answer p.parses q.parses in
    (p.number ∙ ap number_of o.0 ∙ sym q.number, o.1)

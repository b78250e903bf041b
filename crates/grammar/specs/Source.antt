-- 01's order of refusals for a source, once there is room: 1, 2, then the parser's.
use Rattle.std.specs.Prelude.{true, false, List, ℕ, leb, length}
use Rattle.numbers.specs.Limits.{max_source}
use Rattle.numbers.specs.Bytes.{is_ascii, every}
use Rattle.numbers.specs.Panel.{source_too_long, source_not_ascii}
use Rattle.grammar.specs.Grammar.{Parsed, refused, parse}

-- a text's tree, or the first refusal
unfoldable pub reading : List ℕ → Parsed
reading src =
    elim (leb (length src) max_source) [
      | false ↦ refused source_too_long
      | true ↦ elim (every is_ascii src) [ false ↦ refused source_not_ascii | true ↦ parse src ]
    ]

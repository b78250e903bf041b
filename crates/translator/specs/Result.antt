-- What the translator promises: for a block that stands in the tree, its code in the draft and its rows in the table, or its refusal.
use Rattle.std.specs.Prelude.{◌≡◌, List, ℕ, Result, Ok, Err}
use Rattle.numbers.specs.declared.refusal.Refusal.{Refusal}
use Rattle.numbers.specs.Refusals.{number_of}
use Rattle.tree.specs.Tree.{Block}
use Rattle.translator.specs.declared.Translated.{Translated}
use Rattle.translator.specs.Translate.{failed, block_code}
use Rattle.translator.specs.Blocks.{Whole}

-- with the text s, the table is left as ys and the draft as es
pub data Translates (b : Block) (s ys es : List ℕ) : Result Translated Refusal → Type 0 where
  code : {t : Translated} → Whole b s ys es t.code t.rows → Translates b s ys es (Ok t)
  refusal : {e : Refusal} → block_code b ≡ failed (number_of e) → Translates b s ys es (Err e)

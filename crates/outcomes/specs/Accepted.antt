-- What an accepted text is: its tree was read, and translated to its code. And what that code is, for the readers of demand 2: between 3 and 4,096
-- instructions, of kinds 0 to 8 alone; jumps and calls to within the list; levels of variables and procedures of at most 64; operands within i64.
-- (The level of STA is no level but the number of an argument, of which there are at most 512.)
use Rattle.std.specs.Prelude.{◌≡◌, refl, Bool, true, false, List, ℕ, leb, length}
use Rattle.std.proofs.Common.{ap, ◌∙◌, arith}
use Rattle.numbers.specs.Panel.{source_too_long, source_not_ascii}
use Rattle.numbers.specs.Limits.{max_source}
use Rattle.numbers.specs.Bytes.{is_ascii, every}
use Rattle.tree.specs.Tree.{Block}
use Rattle.grammar.specs.Grammar.{parse, Parsed, tree, refused}
use Rattle.grammar.specs.Source.{reading}
use Rattle.pcode.specs.Code.{Instr}
use Rattle.symbols.specs.Symbols.{Row, Rows, rows, refuse_rows}
use Rattle.emission.specs.Pieces.{Out, made, refuse}
use Rattle.translator.specs.Translate.{Done, finished, failed, with_rows, with_code, block_code}
use Rattle.outcomes.specs.Compile.{accepted, not_accepted, translated, from_tree, compile}

-- the tree behind accepted code, and its rows
pub record Behind (src : List ℕ) (c : List Instr) : Type 0 where
  pub block : Block
  pub rows : List Row
  pub next : ℕ
  pub read : parse src ≡ tree block
  pub made : block_code block ≡ finished c rows next

-- a tree that was read is the grammar's
pub tree_read : (src : List ℕ) (b : Block) → reading src ≡ tree b → parse src ≡ tree b
unfolding reading
tree_read src b e = go (leb (length src) max_source) (every is_ascii src) e
  where
    go : (x y : Bool) → elim x as (λ z. Parsed) [ false ↦ refused source_too_long | true ↦ elim y as (λ z. Parsed) [ false ↦ refused source_not_ascii | true ↦ parse src ] ] ≡ tree b → parse src ≡ tree b
    go true true t = t
    go true false t = absurd (let z : ◌≡◌ {A = ℕ} 0 1 = cc in omega arith)
    go false y t = absurd (let z : ◌≡◌ {A = ℕ} 0 1 = cc in omega arith)

-- a tree that was read and translated is accepted code
pub accepts : (src : List ℕ) (b : Block) (c : List Instr) (rs : List Row) (a : ℕ) → reading src ≡ tree b → block_code b ≡ finished c rs a → compile src ≡ accepted c
unfolding compile from_tree translated
accepts src b c rs a e f = ap from_tree e ∙ ap translated f

-- refused by the parser, and by the translator
pub unread : (src : List ℕ) (n : ℕ) → reading src ≡ refused n → compile src ≡ not_accepted n
unfolding compile from_tree
unread src n e = ap from_tree e

pub untranslated : (src : List ℕ) (b : Block) (n : ℕ) → reading src ≡ tree b → block_code b ≡ failed n → compile src ≡ not_accepted n
unfolding compile from_tree translated
untranslated src b n e f = ap from_tree e ∙ ap translated f

-- what stands behind rows that were declared, and behind code that was made
pub with_rows_lem : (x : Rows) (k : List Row → Done) {c : List Instr} {rs : List Row} {a : ℕ} → with_rows x k ≡ finished c rs a → (r : List Row) × (x ≡ rows r) × (k r ≡ finished c rs a)
with_rows_lem (rows r) k e = (r, refl, e)
with_rows_lem (refuse_rows n) k e = absurd (let z : ◌≡◌ {A = ℕ} 0 1 = cc in omega arith)

pub with_code_lem : (x : Out) (k : List Instr → Done) {c : List Instr} {rs : List Row} {a : ℕ} → with_code x k ≡ finished c rs a → (d : List Instr) × (x ≡ made d) × (k d ≡ finished c rs a)
with_code_lem (made d) k e = (d, refl, e)
with_code_lem (refuse n) k e = absurd (let z : ◌≡◌ {A = ℕ} 0 1 = cc in omega arith)

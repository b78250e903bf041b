-- What stands behind an accepted text, and the shape of its code.
use Rattle.std.specs.Prelude.{◌≡◌, refl, List, ℕ}
use Rattle.std.proofs.Common.{arith}
use Rattle.numbers.specs.Limits.{max_open}
use Rattle.tree.specs.Tree.{Block}
use Rattle.grammar.specs.Grammar.{Parsed, tree, refused}
use Rattle.grammar.specs.Source.{reading}
use Rattle.grammar.proofs.Depth.{parse_nests}
use Rattle.grammar.proofs.Names.{parse_named}
use Rattle.pcode.specs.Code.{Instr}
use Rattle.translator.specs.Shape.{Shape}
use Rattle.translator.proofs.Shape.{block_shape}
use Rattle.translator.specs.Translate.{Done, finished, failed, block_code}
use Rattle.outcomes.specs.Compile.{accepted, translated, from_tree, compile}
use Rattle.outcomes.specs.Accepted.{Behind, tree_read}

pub behind : (src : List ℕ) (c : List Instr) → compile src ≡ accepted c → Behind src c
unfolding compile from_tree translated
behind src c e = parsed (reading src) refl e
  where
    block : (b : Block) → reading src ≡ tree b → (d : Done) → block_code b ≡ d → translated d ≡ accepted c → Behind src c
    block b p (finished x rs a) f t = record { block = b; rows = rs; next = a; read = tree_read src b p; made = cc }
    block b p (failed n) f t = absurd (let z : ◌≡◌ {A = ℕ} 0 1 = cc in omega arith)

    parsed : (x : Parsed) → reading src ≡ x → from_tree x ≡ accepted c → Behind src c
    parsed (tree b) p t = block b p (block_code b) refl t
    parsed (refused n) p t = absurd (let z : ◌≡◌ {A = ℕ} 0 1 = cc in omega arith)

-- the shape of every accepted program's code
pub accepted_shape : (src : List ℕ) (c : List Instr) → compile src ≡ accepted c → Shape max_open c
accepted_shape src c e =
    let h = behind src c e in
    block_shape src h.block max_open (parse_named src h.block h.read) (parse_nests src h.block h.read) c h.rows h.next h.made

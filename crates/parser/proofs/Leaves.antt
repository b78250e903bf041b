-- Names and literals: the word that a token says, and the leaf that is written of it.
use mathlib.Core.Path.{◌≡◌, refl, ap}
use mathlib.Core.Bool.{Bool, true, false}
use mathlib.Core.List.{List, ◌++◌}
use Prim.Native.Nat.{ℕ, suc, ◌+◌, ◌≤◌}
use native.Mathlib.Omega.{arith}
use lib.Dec.{ltb}
use lib.IntN.{pos}
use lib.ListN.{length, take, drop, length-drop}
use lib.Seq.{length-take-le}
use mir.Syntax.{w64}
use mir.Val.{to_z}
use mir.Facts.{to_z_pos}
use Rattle.numbers.specs.Limits.{greatest, max_tokens}
use Rattle.lexer.specs.Tokens.{Token as Word, number, Found, token, bad, too_big, end_of_text, lex_at}
use Rattle.lexer.specs.Cursor.{Cursor as Place, got, counted, judge, look}
use Rattle.lexer.specs.Names.{literal_fits}
use Rattle.lexer.specs.Meaning.{sees, meaning, name_at}
use Rattle.lexer.specs.Stands.{left}
use Rattle.lexer.specs.declared.token.Token.{Token}
use Rattle.lexer.specs.declared.token.Token.TheVariants.{Integer}
use Rattle.lexer.specs.declared.cursor.Cursor.{Cursor}
use Rattle.tree.specs.Layout.{word, literal, size, enc}
use Rattle.parser.specs.Parts.{only}
use Rattle.parser.specs.Written.{Wrote}
use Rattle.parser.specs.See.{Saw}
use Rattle.parser.specs.Meets.{Grew}
use Rattle.parser.proofs.Writing.{wrote_one}

-- the word that a token of the code says is the one that was looked at
pub looked_at : {src : List ℕ} {c d : Cursor} {k : Place} {w : Word} → Saw src c d k w → (t : Token) (v : Word) → d.token ≡ t → meaning src t ≡ sees (token v) → look src k ≡ got v k
looked_at {src} {c} {d} {k} {w} s t v e m = let q : w ≡ v = cc (s.means, ap (meaning src) e) in rw q at s.looks

-- what a look gets was found
got_found : (f : Found) (w : Word) (k : Place) → judge f k ≡ got w k → f ≡ token w
unfolding judge counted
got_found f w k = by f (ltb k.seen max_tokens) refl
  where
    by : (f : Found) (b : Bool) → ltb k.seen max_tokens ≡ b → judge f k ≡ got w k → f ≡ token w
    by (token t) true q e = (let z : got t k ≡ got w k = rw (q, counted) at e in cc)
    by (token t) false q e = cc (rw (q, counted) at e)
    by bad true q e = cc (rw (q, counted) at e)
    by bad false q e = cc (rw (q, counted) at e)
    by too_big true q e = cc (rw (q, counted) at e)
    by too_big false q e = cc (rw (q, counted) at e)
    by end_of_text b q e = cc

-- a literal is the one that was looked at, and within i64
pub literal_of_lem : {src : List ℕ} {c d : Cursor} {k : Place} {w : Word} → Saw src c d k w → (v : ℕ) → d.token ≡ Integer v → (v ≤ greatest) × (look src k ≡ got (number v) k)
unfolding look
literal_of_lem {src} {k = k} s v e =
    let l = looked_at s (Integer v) (number v) e refl in
    (literal_fits src k.at v (got_found (lex_at src k.at).found (number v) k l), l)

pub literal_pos : {v : ℕ} → v ≤ greatest → to_z w64 v ≡ pos v
literal_pos h = to_z_pos w64 (omega arith)

-- how long a name is
pub name_length : (src : List ℕ) (at n : ℕ) → at + n ≤ length src → length (take n (drop at src)) ≡ n
name_length src at n h = length-take-le n (drop at src) (omega (arith, length-drop at src))

-- the leaf of a name
pub wrote_name : (src : List ℕ) (at n : ℕ) {xs ys : List ℕ} {u e : ℕ} (op : ℕ) → at + n ≤ length src → u ≤ length xs → e ≡ u + 4 → take e ys ≡ take u xs ++ enc (word op at n) → Wrote xs u ys e (only (word op at (length (name_at src at n).text)))
unfolding size
wrote_name src at n op i h q l = rw (name_length src at n i) (wrote_one (word op at n) h q l)

-- the leaf of a literal
pub wrote_number : {xs ys : List ℕ} {u e : ℕ} (op x : ℕ) → u ≤ length xs → e ≡ u + 4 → take e ys ≡ take u xs ++ enc (literal op x) → Wrote xs u ys e (only (literal op x))
unfolding size
wrote_number op x h q l = wrote_one (literal op x) h q l

-- a leaf for a token that was taken
pub leaf_grew : {u e : ℕ} {c t : Cursor} → e ≡ u + 4 → suc (left t) ≡ left c → Grew 8 0 u c e t
leaf_grew q f = record { above = omega arith; fewer = omega arith; room = omega arith }

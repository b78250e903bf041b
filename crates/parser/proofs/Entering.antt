-- The entry: bytes below 128, and what each way out of `parse` comes to.
use Rattle.std.specs.Prelude.{Ok, Err, Option as Perhaps, Some, None}
use Rattle.std.specs.Option.{ok_or}
use mathlib.Core.Path.{◌≡◌, refl, sym, ap, ◌∙◌}
use mathlib.Core.Bool.{Bool, true, false, ◌&&◌}
use mathlib.Core.List.{List, [], ◌∷◌, ◌++◌}
use Prim.Native.Nat.{ℕ, ◌+◌, ◌-◌, ◌*◌, ◌≤◌, ◌<◌}
use native.Mathlib.Numerals.{add-one}
use native.Mathlib.Omega.{arith}
use lib.ListN.{length, get_or, take, drop, replicate, length-append, length-replicate, drop_of_length-le}
use lib.Seq.{drop-cons, take-append-le, length-take-le, drop_at}
use borrow.Author.Tests.{le-leb, lt-leb}
use Rattle.numbers.specs.Limits.{max_source, tree_places}
use Rattle.numbers.specs.Lent.{onto, filled, filling}
use Rattle.numbers.specs.Bytes.{is_ascii, every}
use Rattle.numbers.specs.Panel.{source_too_long, source_not_ascii}
use Rattle.numbers.specs.declared.refusal.Refusal.{Refusal}
use Rattle.numbers.specs.declared.refusal.Refusal.TheVariants.{SourceTooLong, SourceNotAscii, BodyFailedQuietly}
use Rattle.numbers.specs.Refusals.{number_of}
use Rattle.lexer.specs.Cursor.{got}
use Rattle.lexer.specs.Stands.{start, start_stands, left}
use Rattle.lexer.specs.declared.cursor.Cursor.{Cursor}
use Rattle.tree.specs.Tree.{Block}
use Rattle.tree.specs.Layout.{size, sizes, enc, encs}
use Rattle.tree.specs.Nodes.{block_node}
use Rattle.parser.specs.Answer.{try_of}
use Rattle.grammar.specs.Grammar.{tree, refused, parsed, parse, program, fuel}
use Rattle.grammar.specs.Source.{reading}
use Rattle.parser.specs.Parts.{only}
use Rattle.parser.specs.Meets.{Room, Safe, Means, Tries}
use Rattle.parser.specs.Entry.{Parsed, numbers_of, end_of, Reads, Parses}
use Rattle.parser.proofs.Answers.{Refuses}

append_nil : (l : List ℕ) → l ++ [] ≡ l
append_nil [] = refl
append_nil (x ∷ l) = ap (λ (t : List ℕ). x ∷ t) (append_nil l)

and_true : (x : Bool) → x && true ≡ x
and_true true = refl
and_true false = refl

and_more : (x y z : Bool) → (x && y) && z ≡ x && (elim y as (λ q. Bool) [ true ↦ z | false ↦ false ])
and_more true true z = refl
and_more true false z = refl
and_more false y z = refl

-- a scan that has come to i, where x says whether the bytes before it are below 128
module _ (s : List ℕ) (i : ℕ) (x : Bool) (scanned : x && every is_ascii (drop i s) ≡ every is_ascii s) where
  pub ascii_more : (y : Bool) → i < length s → y ≡ is_ascii (get_or s i 0) → (x && y) && every is_ascii (drop (i + 1) s) ≡ every is_ascii s
  ascii_more y h e =
      let next : drop i s ≡ get_or s i 0 ∷ drop (i + 1) s = rw (add-one, drop-cons s i 0 h) in
      let more : every is_ascii (drop i s) ≡ (elim y as (λ q. Bool) [ true ↦ every is_ascii (drop (i + 1) s) | false ↦ false ]) = rw (next, e, every) in
      and_more x y _ ∙ ap (λ (z : Bool). x && z) (sym more) ∙ scanned

  pub ascii_past : length s ≤ i → x ≡ every is_ascii s
  ascii_past h =
      let past : every is_ascii (drop i s) ≡ true = rw (drop_of_length-le s h) in
      sym (ap (λ (z : Bool). x && z) past ∙ and_true x) ∙ scanned

-- a tree that ends within the room, whose numbers stand in ys; or a refusal
unfoldable Concludes : List ℕ → List ℕ → Parsed → Type 0
Concludes src ys (Ok end) = (b : Block) × ((reading src ≡ tree b) × (((end ≡ size (block_node b)) × (end ≤ tree_places)) × (take end ys ≡ enc (block_node b))))
Concludes src ys (Err w) = reading src ≡ refused (number_of w)

-- the room at the start
pub room_start : (src xs : List ℕ) → length src ≤ max_source → length xs ≡ tree_places → Room src xs 0 20 start
unfolding left
room_start src xs h l = record { place = record { seen = 0; at = 0 }; stands = start_stands src; short = h; small = omega arith; room = omega arith }

module _ (src : List ℕ) where
  too_long : max_source < length src → reading src ≡ refused source_too_long
  unfolding reading
  too_long h = rw (lt-leb _ _ h, reading)

  foreign : length src ≤ max_source → every is_ascii src ≡ false → reading src ≡ refused source_not_ascii
  unfolding reading
  foreign h e = rw (le-leb _ _ h, e, reading)

  read : length src ≤ max_source → every is_ascii src ≡ true → reading src ≡ parse src
  unfolding reading
  read h e = rw (le-leb _ _ h, e, reading)

  -- a refusal
  refusing : {xs ys : List ℕ} (w : Refusal) → reading src ≡ refused (number_of w) → drop tree_places ys ≡ drop tree_places xs → Reads src xs ys (Err w)
  refusing w e d = record { answer = rw e refl; stands = sym (ap numbers_of e); within = omega arith; beyond = d }

  pub reads_long : {xs : List ℕ} → max_source < length src → Reads src xs xs (Err SourceTooLong)
  reads_long h = refusing SourceTooLong (too_long h) refl

  pub reads_bytes : {xs : List ℕ} → length src ≤ max_source → every is_ascii src ≡ false → Reads src xs xs (Err SourceNotAscii)
  reads_bytes h e = refusing SourceNotAscii (foreign h e) refl

  -- the part that was lent, with what stands after it
  module _ (xs ys : List ℕ) (lent : length ys ≡ tree_places) (short : length src ≤ max_source) (bytes : every is_ascii src ≡ true) where
    concludes : (j : Perhaps ℕ) (d : Cursor) → Tries (λ b. only (block_node b)) src (take tree_places xs) 0 ys (λ n. program src n) (8 * left start) 0 16 start (try_of (Ok (j, d))) → Concludes src (ys ++ drop tree_places xs) (ok_or j BodyFailedQuietly)
    unfolding Concludes Safe Means parse parsed left sizes encs
    concludes (Some e) d h =
        let b = h.means fuel (omega arith) (record { seen = 0; at = 0 }) (start_stands src) in
        let w = b.wrote in
        let g = h.safe in
        (b.value, (read short bytes ∙ ap parsed b.is, ((omega (arith, w.ends), omega (arith, g.room)), take-append-le e ys (drop tree_places xs) (omega (arith, g.room, lent)) ∙ w.lies ∙ append_nil (enc (block_node b.value)))))
    concludes None d h =
        let b = h.means fuel (omega arith) (record { seen = 0; at = 0 }) (start_stands src) in
        read short bytes ∙ ap parsed (b.is ∙ ap (λ v. got v b.at) b.empty)

    whole : (p : Parsed) → Concludes src (ys ++ drop tree_places xs) p → Reads src xs (ys ++ drop tree_places xs) p
    unfolding Concludes
    whole (Ok e) (b, (f, ((n, l), t))) = record { answer = rw f n; stands = t ∙ sym (ap numbers_of f); within = l; beyond = drop_at ys (drop tree_places xs) tree_places lent }
    whole (Err w) f = refusing w f (drop_at ys (drop tree_places xs) tree_places lent)

    pub reads : (j : Perhaps ℕ) (d : Cursor) → Tries (λ b. only (block_node b)) src (take tree_places xs) 0 ys (λ n. program src n) (8 * left start) 0 16 start (try_of (Ok (j, d))) → Reads src xs (ys ++ drop tree_places xs) (ok_or j BodyFailedQuietly)
    reads j d h = whole (ok_or j BodyFailedQuietly) (concludes j d h)

    pub reads_refused : {w : Refusal} → Refuses src (λ n. program src n) (8 * left start) start (number_of w) → Reads src xs (ys ++ drop tree_places xs) (Err w)
    unfolding Concludes parse parsed left
    reads_refused {w} h = whole (Err w) (read short bytes ∙ ap parsed (h fuel (omega arith) (record { seen = 0; at = 0 }) (start_stands src)))

  -- what was read, once the room behind it is zero
  pub parses : {xs ys zs : List ℕ} {u : ℕ} {r : Parsed} → tree_places ≤ length xs → length ys ≡ length xs → Reads src xs ys r → u ≡ end_of r → zs ≡ onto ys (filling u tree_places 0 ys) → Parses src xs zs r
  parses {xs} {ys} {zs} {u} {r} h l a q e =
      let numbers : List ℕ = numbers_of (reading src) in
      let m : length numbers ≡ end_of r = sym (ap length a.stands) ∙ length-take-le (end_of r) ys (omega (arith, a.within)) in
      let new : List ℕ = filled tree_places 0 numbers in
      let n : filling (end_of r) tree_places 0 ys ≡ new = ap (λ (t : List ℕ). t ++ replicate (tree_places - end_of r) 0) a.stands ∙ ap (λ (k : ℕ). numbers ++ replicate (tree_places - k) 0) (sym m) in
      let all : length new ≡ tree_places = omega (arith, length-append numbers (replicate (tree_places - length numbers) 0), length-replicate {A = ℕ} (tree_places - length numbers) 0, m, a.within) in
      let d : drop (length new) ys ≡ drop (length new) xs = ap (λ (k : ℕ). drop k ys) all ∙ a.beyond ∙ ap (λ (k : ℕ). drop k xs) (sym all) in
      let whole : zs ≡ onto xs new = e ∙ ap (λ (k : ℕ). onto ys (filling k tree_places 0 ys)) q ∙ ap (onto ys) n ∙ ap (λ (t : List ℕ). new ++ t) d in
      record {
        small = λ z. absurd (omega arith);
        large = λ z. (a.answer, whole);
        beyond = ap (drop tree_places) whole ∙ drop_at new (drop (length new) xs) tree_places all ∙ ap (λ (k : ℕ). drop k xs) all;
      }

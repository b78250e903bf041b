-- What a reader of the tree by index finds.
use Rattle.std.specs.Prelude.{◌≡◌, refl, List, [], ◌∷◌, ◌++◌, ℕ, ◌+◌, ◌*◌, ◌/◌, ◌%◌, ◌≤◌, ◌<◌, length, drop, get_or}
use Rattle.std.proofs.Common.{sym, ap, ◌∙◌, append_assoc, arith, length-append, length-drop, drop-drop, get_or-drop}
use Rattle.std.proofs.Math.Seq.{drop-append_seam}
use Rattle.tree.specs.Layout.{NodeKind, neg_kind, chain_kind, brackets_kind, odd_kind, comparison_kind, assign_kind, if_kind, while_kind, call_kind, body_kind, read_kind, write_kind, constant_kind, list_kind, no_procedures_kind, procedure_kind, block_kind, half, Node, word, literal, branch, Nodes, no_more, member, name_no, number_no, node_no, count, size, sizes, enc, encs, Stands}

-- a node with members has a first number above those of names and numbers
pub node_least : (k : NodeKind) → 3 ≤ node_no k
node_least neg_kind = omega arith
node_least chain_kind = omega arith
node_least brackets_kind = omega arith
node_least odd_kind = omega arith
node_least comparison_kind = omega arith
node_least assign_kind = omega arith
node_least if_kind = omega arith
node_least while_kind = omega arith
node_least call_kind = omega arith
node_least body_kind = omega arith
node_least read_kind = omega arith
node_least write_kind = omega arith
node_least constant_kind = omega arith
node_least list_kind = omega arith
node_least no_procedures_kind = omega arith
node_least procedure_kind = omega arith
node_least block_kind = omega arith

mutual
  unfolding enc size

  pub length_enc : (t : Node) → length (enc t) ≡ size t
  length_enc (word o a n) = refl
  length_enc (literal o v) = refl
  length_enc (branch k o ts) = omega (arith, length_encs ts)

  pub length_encs : (ts : Nodes) → length (encs ts) ≡ sizes ts
  length_encs no_more = refl
  length_encs (member t ts) = omega (arith, length-append (enc t) (encs ts), length_enc t, length_encs ts)

-- a node takes four numbers at least, and members four each
pub size_least : (t : Node) → 4 ≤ size t
unfolding size
size_least (word o a n) = omega arith
size_least (literal o v) = omega arith
size_least (branch k o ts) = omega arith

pub sizes_least : (ts : Nodes) → 4 * count ts ≤ sizes ts
unfolding count sizes
sizes_least no_more = omega arith
sizes_least (member t ts) = omega (arith, size_least t, sizes_least ts)

-- what stands in a list ends within it
pub room : (xs : List ℕ) (i : ℕ) (w : List ℕ) → 1 ≤ length w → Stands xs i w → i + length w ≤ length xs
room xs i w h s = omega (arith, length-drop i xs, ap length s.here, length-append w s.rest)

-- the front of what stands
pub front : (xs : List ℕ) (i : ℕ) (u v : List ℕ) → Stands xs i (u ++ v) → Stands xs i u
front xs i u v s = record { rest = v ++ s.rest; here = s.here ∙ append_assoc u v s.rest }

-- and what comes after the front
pub back : (xs : List ℕ) (i : ℕ) (u v : List ℕ) (j : ℕ) → j ≡ i + length u → Stands xs i (u ++ v) → Stands xs j v
back xs i u v j e s = record {
  rest = s.rest;
  here = ap (λ (n : ℕ). drop n xs) e ∙ sym (drop-drop (length u) i xs) ∙ ap (drop (length u)) (s.here ∙ append_assoc u v s.rest) ∙ drop-append_seam u (v ++ s.rest);
}

-- four numbers, and w after them
pub record Four (xs : List ℕ) (i a b c d : ℕ) (w : List ℕ) : Type 0 where
  pub at0 : get_or xs i 0 ≡ a
  pub at1 : get_or xs (i + 1) 0 ≡ b
  pub at2 : get_or xs (i + 2) 0 ≡ c
  pub at3 : get_or xs (i + 3) 0 ≡ d
  pub fits : i + 4 + length w ≤ length xs
  pub members : Stands xs (i + 4) w

at_is : (xs : List ℕ) (i : ℕ) (w : List ℕ) (s : Stands xs i w) (k : ℕ) → get_or xs (i + k) 0 ≡ get_or (w ++ s.rest) k 0
at_is xs i w s k = sym (get_or-drop i xs k 0) ∙ ap (λ (l : List ℕ). get_or l k 0) s.here

pub four : (xs : List ℕ) (i a b c d : ℕ) (w : List ℕ) → Stands xs i (a ∷ b ∷ c ∷ d ∷ w) → Four xs i a b c d w
four xs i a b c d w s =
    let z : i + 0 ≡ i = omega arith in
    record {
      at0 = ap (λ (n : ℕ). get_or xs n 0) (sym z) ∙ at_is xs i (a ∷ b ∷ c ∷ d ∷ w) s 0;
      at1 = at_is xs i (a ∷ b ∷ c ∷ d ∷ w) s 1;
      at2 = at_is xs i (a ∷ b ∷ c ∷ d ∷ w) s 2;
      at3 = at_is xs i (a ∷ b ∷ c ∷ d ∷ w) s 3;
      fits = omega (arith, room xs i (a ∷ b ∷ c ∷ d ∷ w) (omega arith) s);
      members = back xs i (a ∷ b ∷ c ∷ d ∷ []) w (i + 4) refl s;
    }

-- a name stands there
pub word_at : (xs : List ℕ) (i o a n : ℕ) → Stands xs i (enc (word o a n)) → Four xs i name_no o a n []
unfolding enc
word_at xs i o a n s = four xs i name_no o a n [] s

-- a number stands there
pub literal_at : (xs : List ℕ) (i o v : ℕ) → Stands xs i (enc (literal o v)) → Four xs i number_no o (v % half) (v / half) []
unfolding enc
literal_at xs i o v s = four xs i number_no o (v % half) (v / half) [] s

-- a node with members stands there
pub branch_at : (xs : List ℕ) (i : ℕ) (k : NodeKind) (o : ℕ) (ts : Nodes) → Stands xs i (enc (branch k o ts)) → Four xs i (node_no k) o (count ts) (sizes ts) (encs ts)
unfolding enc
branch_at xs i k o ts s = four xs i (node_no k) o (count ts) (sizes ts) (encs ts) s

-- any node ends within the list
pub node_fits : (xs : List ℕ) (i : ℕ) (t : Node) → Stands xs i (enc t) → i + size t ≤ length xs
node_fits xs i t s = omega (arith, room xs i (enc t) (omega (arith, length_enc t, size_least t)) s, length_enc t)

-- the first of some members, and the others
pub record Two (xs : List ℕ) (j : ℕ) (t : Node) (ts : Nodes) : Type 0 where
  pub one : Stands xs j (enc t)
  pub others : Stands xs (j + size t) (encs ts)
  pub fits : j + size t ≤ length xs
  pub least : 4 ≤ size t

pub two_at : (xs : List ℕ) (j : ℕ) (t : Node) (ts : Nodes) → Stands xs j (encs (member t ts)) → Two xs j t ts
unfolding encs
two_at xs j t ts s =
    let h = front xs j (enc t) (encs ts) s in
    record {
      one = h;
      others = back xs j (enc t) (encs ts) (j + size t) (ap (λ (n : ℕ). j + n) (sym (length_enc t))) s;
      fits = node_fits xs j t h;
      least = size_least t;
    }

-- the first member of a node, and the others
pub first_at : (xs : List ℕ) (i : ℕ) (k : NodeKind) (o : ℕ) (t : Node) (ts : Nodes) → Stands xs i (enc (branch k o (member t ts))) → Two xs (i + 4) t ts
first_at xs i k o t ts s = two_at xs (i + 4) t ts (branch_at xs i k o (member t ts) s).members

-- j is the place after the node at i, as `after` says it
abbrev pub After : List ℕ → ℕ → ℕ → Type 0
After xs i j = (t : Node) → Stands xs i (enc t) → j ≡ i + size t

-- the member after the one at i
pub next_at : (xs : List ℕ) (i j : ℕ) (t u : Node) (ts : Nodes) → After xs i j → Two xs i t (member u ts) → Two xs j u ts
next_at xs i j t u ts f w = two_at xs j u ts (rw (f t w.one) w.others)

-- where the node at i ends, by its first number
pub leaf_next : (xs : List ℕ) (i : ℕ) (t : Node) → Stands xs i (enc t) → get_or xs i 0 < 3 → i + 4 ≡ i + size t
unfolding size
leaf_next xs i (word o a n) s h = refl
leaf_next xs i (literal o v) s h = refl
leaf_next xs i (branch k o ts) s h = absurd (omega (arith, (branch_at xs i k o ts s).at0, node_least k))

pub branch_next : (xs : List ℕ) (i : ℕ) (t : Node) → Stands xs i (enc t) → 3 ≤ get_or xs i 0 → i + 4 + get_or xs (i + 3) 0 ≡ i + size t
unfolding size
branch_next xs i (word o a n) s h = absurd (omega (arith, (word_at xs i o a n s).at0))
branch_next xs i (literal o v) s h = absurd (omega (arith, (literal_at xs i o v s).at0))
branch_next xs i (branch k o ts) s h = omega (arith, (branch_at xs i k o ts s).at3)

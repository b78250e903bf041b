-- How a writer makes a node: four numbers, the members after them, and then the count and the size are filled in.
use Rattle.std.specs.Prelude.{◌≡◌, refl, List, [], ◌∷◌, ◌++◌, ℕ, ◌+◌, ◌-◌, ◌*◌, ◌≤◌, ◌<◌, length, take, set}
use Rattle.std.proofs.Common.{sym, ap, ◌∙◌, append_assoc, arith, add-one, length-set, length-append, take-suc-set, length-take-le, take-take, take_at}
use Rattle.std.proofs.Math.Seq.{take-set-lt}
use Rattle.std.proofs.lemmas.List.{set_at}
use Rattle.tree.specs.Layout.{NodeKind, Node, Nodes, no_more, member, branch, node_no, count, size, sizes, enc, encs}
use Rattle.tree.specs.Reading.{length_encs, sizes_least}

one_more_lem : (l : List ℕ) (i v : ℕ) → i < length l → take (i + 1) (set l i v) ≡ take i l ++ (v ∷ [])
one_more_lem l i v h = rw add-one (take-suc-set l i v h)

-- four numbers put in a row
pub four_put : (l : List ℕ) (u a b c d : ℕ) → u + 4 ≤ length l → take (u + 4) (set (set (set (set l u a) (u + 1) b) (u + 2) c) (u + 3) d) ≡ take u l ++ (a ∷ b ∷ c ∷ d ∷ [])
four_put l u a b c d h =
    let l₁ = set l u a in
    let l₂ = set l₁ (u + 1) b in
    let l₃ = set l₂ (u + 2) c in
    let n₁ : length l₁ ≡ length l = length-set l u a in
    let n₂ : length l₂ ≡ length l = length-set l₁ (u + 1) b ∙ n₁ in
    let n₃ : length l₃ ≡ length l = length-set l₂ (u + 2) c ∙ n₂ in
    let e₁ : take (u + 1) l₁ ≡ take u l ++ (a ∷ []) = one_more_lem l u a (omega arith) in
    let e₂ : take (u + 1 + 1) l₂ ≡ take (u + 1) l₁ ++ (b ∷ []) = one_more_lem l₁ (u + 1) b (omega arith) in
    let e₃ : take (u + 2 + 1) l₃ ≡ take (u + 2) l₂ ++ (c ∷ []) = one_more_lem l₂ (u + 2) c (omega arith) in
    let e₄ : take (u + 3 + 1) (set l₃ (u + 3) d) ≡ take (u + 3) l₃ ++ (d ∷ []) = one_more_lem l₃ (u + 3) d (omega arith) in
    let k₂ : u + 1 + 1 ≡ u + 2 = omega arith in
    let k₃ : u + 2 + 1 ≡ u + 3 = omega arith in
    let k₄ : u + 3 + 1 ≡ u + 4 = omega arith in
    (rw k₄ at e₄) ∙ ap (λ (x : List ℕ). x ++ (d ∷ [])) ((rw k₃ at e₃) ∙ ap (λ (x : List ℕ). x ++ (c ∷ [])) ((rw k₂ at e₂) ∙ ap (λ (x : List ℕ). x ++ (b ∷ [])) e₁)) ∙ simp append_assoc

-- a node at i that is open: what stood before it in xs, its four numbers, and the members so far, up to `end` in ys
pub record Open (xs : List ℕ) (i : ℕ) (k : NodeKind) (o : ℕ) (ts : Nodes) (ys : List ℕ) (end : ℕ) : Type 0 where
  pub lies : take end ys ≡ take i xs ++ (node_no k ∷ o ∷ 0 ∷ 0 ∷ encs ts)
  pub ends : end ≡ i + 4 + sizes ts
  pub start : i ≤ length xs

-- members and then further members
unfoldable pub join : Nodes → Nodes → Nodes
join no_more us = us
join (member t ts) us = member t (join ts us)

pub encs_join : (ts us : Nodes) → encs (join ts us) ≡ encs ts ++ encs us
unfolding encs join
encs_join no_more us = refl
encs_join (member t ts) us = ap (λ (l : List ℕ). enc t ++ l) (encs_join ts us) ∙ sym (append_assoc (enc t) (encs ts) (encs us))

pub sizes_join : (ts us : Nodes) → sizes (join ts us) ≡ sizes ts + sizes us
sizes_join ts us = sym (length_encs (join ts us)) ∙ ap length (encs_join ts us) ∙ omega (arith, length-append (encs ts) (encs us), length_encs ts, length_encs us)

pub count_join : (ts us : Nodes) → count (join ts us) ≡ count ts + count us
unfolding count join
count_join no_more us = omega arith
count_join (member t ts) us = omega (arith, count_join ts us)

pub join_none : (ts : Nodes) → join ts no_more ≡ ts
unfolding join
join_none no_more = refl
join_none (member t ts) = ap (member t) (join_none ts)

pub join_join : (ts us vs : Nodes) → join (join ts us) vs ≡ join ts (join us vs)
unfolding join
join_join no_more us vs = refl
join_join (member t ts) us vs = ap (member t) (join_join ts us vs)

append_nil : (l : List ℕ) → l ++ [] ≡ l
append_nil [] = refl
append_nil (x ∷ l) = ap (λ (t : List ℕ). x ∷ t) (append_nil l)

-- the four numbers are there
pub open_start : (xs : List ℕ) (i : ℕ) (k : NodeKind) (o : ℕ) (ys : List ℕ) (end : ℕ) → i ≤ length xs → end ≡ i + 4 → take (i + 4) ys ≡ take i xs ++ (node_no k ∷ o ∷ 0 ∷ 0 ∷ []) → Open xs i k o no_more ys end
unfolding encs sizes
open_start xs i k o ys end h e l = record { lies = rw e l; ends = omega arith; start = h }

-- one member more, as any writer's contract gives it
pub open_more : (xs : List ℕ) (i : ℕ) (k : NodeKind) (o : ℕ) (ts : Nodes) (ys : List ℕ) (end : ℕ) (t : Node) (zs : List ℕ) (end' : ℕ)
    → Open xs i k o ts ys end → end' ≡ end + size t → take end' zs ≡ take end ys ++ enc t → Open xs i k o (join ts (member t no_more)) zs end'
unfolding encs sizes
open_more xs i k o ts ys end t zs end' w e l = record {
  lies = l
      ∙ ap (λ (x : List ℕ). x ++ enc t) w.lies
      ∙ append_assoc (take i xs) (node_no k ∷ o ∷ 0 ∷ 0 ∷ encs ts) (enc t)
      ∙ ap (λ (x : List ℕ). take i xs ++ (node_no k ∷ o ∷ 0 ∷ 0 ∷ x)) (ap (λ (x : List ℕ). encs ts ++ x) (sym (append_nil (enc t))) ∙ sym (encs_join ts (member t no_more)));
  ends = omega (arith, w.ends, sizes_join ts (member t no_more));
  start = w.start;
}

-- what `close` asks of the count, and of the end
pub open_count : (xs : List ℕ) (i : ℕ) (k : NodeKind) (o : ℕ) (ts : Nodes) (ys : List ℕ) (end : ℕ) → Open xs i k o ts ys end → i + 4 + 4 * count ts ≤ end
open_count xs i k o ts ys end w = omega (arith, w.ends, sizes_least ts)

-- the count and the size are filled in: the node is there
pub open_close : (xs : List ℕ) (i : ℕ) (k : NodeKind) (o : ℕ) (ts : Nodes) (ys : List ℕ) (end c : ℕ) → Open xs i k o ts ys end → c ≡ count ts
    → take end (set (set ys (i + 2) c) (i + 3) (end - (i + 4))) ≡ take i xs ++ enc (branch k o ts)
unfolding enc
open_close xs i k o ts ys end c w e =
    let a = take i xs in
    let n = node_no k in
    let la : length a ≡ i = length-take-le i xs w.start in
    let s = end - (i + 4) in
    let es : s ≡ sizes ts = omega (arith, w.ends) in
    let l₂ : length (a ++ (n ∷ o ∷ [])) ≡ i + 2 = omega (arith, length-append a (n ∷ o ∷ [])) in
    let l₃ : length (a ++ (n ∷ o ∷ c ∷ [])) ≡ i + 3 = omega (arith, length-append a (n ∷ o ∷ c ∷ [])) in
    take-set-lt end (set ys (i + 2) c) (i + 3) s (omega (arith, w.ends))
    ∙ ap (λ (l : List ℕ). set l (i + 3) s)
    (take-set-lt end ys (i + 2) c (omega (arith, w.ends))
    ∙ ap (λ (l : List ℕ). set l (i + 2) c) (w.lies ∙ sym (append_assoc a (n ∷ o ∷ []) (0 ∷ 0 ∷ encs ts)))
    ∙ set_at (a ++ (n ∷ o ∷ [])) 0 (0 ∷ encs ts) c (i + 2) l₂
    ∙ append_assoc a (n ∷ o ∷ []) (c ∷ 0 ∷ encs ts)
    ∙ sym (append_assoc a (n ∷ o ∷ c ∷ []) (0 ∷ encs ts)))
    ∙ set_at (a ++ (n ∷ o ∷ c ∷ [])) 0 (encs ts) s (i + 3) l₃
    ∙ append_assoc a (n ∷ o ∷ c ∷ []) (s ∷ encs ts)
    ∙ rw (e, es)

-- the node that was closed takes what lies up to its end
pub open_size : (xs : List ℕ) (i : ℕ) (k : NodeKind) (o : ℕ) (ts : Nodes) (ys : List ℕ) (end : ℕ) → Open xs i k o ts ys end → end ≡ i + size (branch k o ts)
unfolding size
open_size xs i k o ts ys end w = omega (arith, w.ends)

-- what stood before a node stands there still
pub kept : (xs ys w : List ℕ) (i n : ℕ) → i ≤ n → i ≤ length xs → take n ys ≡ take i xs ++ w → take i ys ≡ take i xs
kept xs ys w i n h l e = sym (take-take i n ys h) ∙ ap (take i) e ∙ take_at (take i xs) w i (length-take-le i xs l)

-- How what is written adds up: nodes after nodes, and a node over its members.
use mathlib.Core.Path.{◌≡◌, refl, sym, ap, ◌∙◌}
use mathlib.Core.List.{List, [], ◌∷◌, ◌++◌, append_assoc}
use Prim.Native.Nat.{ℕ, ◌+◌, ◌-◌, ◌≤◌}
use native.Mathlib.Omega.{arith}
use lib.ListN.{length, take, drop, set}
use lib.Seq.{length-take-le, take-take, take-append-le, take-add, drop_at, drop-set-lt}
use Rattle.tree.specs.Layout.{Node, Nodes, no_more, member, node_no, count, size, sizes, enc, encs}
use Rattle.tree.specs.Writing.{four_put, join, encs_join, sizes_join}
use Rattle.parser.specs.Written.{Wrote, Seals}

append_nil : (l : List ℕ) → l ++ [] ≡ l
append_nil [] = refl
append_nil (x ∷ l) = ap (λ (t : List ℕ). x ∷ t) (append_nil l)

-- nothing was written yet
pub wrote_none : {xs : List ℕ} {u : ℕ} → u ≤ length xs → Wrote xs u xs u no_more
unfolding encs sizes
wrote_none {xs} {u} h = record { lies = sym (append_nil (take u xs)); ends = omega arith; start = h }

-- some nodes and then others
pub wrote_more : {xs ys zs : List ℕ} {u e f : ℕ} {ns ms : Nodes} → Wrote xs u ys e ns → Wrote ys e zs f ms → Wrote xs u zs f (join ns ms)
wrote_more {xs} {ys} {zs} {u} {e} {f} {ns} {ms} a b = record {
  lies = b.lies ∙ ap (λ (l : List ℕ). l ++ encs ms) a.lies ∙ append_assoc (take u xs) (encs ns) (encs ms) ∙ ap (λ (l : List ℕ). take u xs ++ l) (sym (encs_join ns ms));
  ends = omega (arith, a.ends, b.ends, sizes_join ns ms);
  start = a.start;
}

-- one node, as the tree's writers promise it
pub wrote_one : {xs ys : List ℕ} {u e : ℕ} (t : Node) → u ≤ length xs → e ≡ u + size t → take e ys ≡ take u xs ++ enc t → Wrote xs u ys e (member t no_more)
unfolding encs sizes
wrote_one {xs} {ys} {u} {e} t h q l = record { lies = l ∙ ap (λ (x : List ℕ). take u xs ++ x) (sym (append_nil (enc t))); ends = omega arith; start = h }

-- what stood before stands there still
pub wrote_kept : {xs ys : List ℕ} {u e : ℕ} {ns : Nodes} (v : ℕ) → v ≤ u → Wrote xs u ys e ns → Wrote xs v ys v no_more
unfolding encs sizes
wrote_kept {xs} {ys} {u} {e} {ns} v h w =
    let l : length (take u xs) ≡ u = length-take-le u xs w.start in
    let p : take v (take u xs ++ encs ns) ≡ take v (take u xs) = take-append-le v (take u xs) (encs ns) (omega arith) in
    record {
      lies = sym (take-take v e ys (omega (arith, w.ends))) ∙ ap (take v) w.lies ∙ p ∙ take-take v u xs h ∙ sym (append_nil (take v xs));
      ends = omega arith;
      start = omega (arith, w.start);
    }

-- four numbers at i change nothing from i + 4 on
drop_four : (l : List ℕ) (i a b c d : ℕ) → drop (i + 4) (set (set (set (set l i a) (i + 1) b) (i + 2) c) (i + 3) d) ≡ drop (i + 4) l
drop_four l i a b c d =
    drop-set-lt (i + 4) (set (set (set l i a) (i + 1) b) (i + 2) c) (i + 3) d (omega arith)
    ∙ drop-set-lt (i + 4) (set (set l i a) (i + 1) b) (i + 2) c (omega arith)
    ∙ drop-set-lt (i + 4) (set l i a) (i + 1) b (omega arith)
    ∙ drop-set-lt (i + 4) l i a (omega arith)

-- what `seal` does
pub seals : (ys : List ℕ) (i kind op n end : ℕ) → i + 4 ≤ end → end ≤ length ys
    → Seals i kind op n end ys (set (set (set (set ys i kind) (i + 1) op) (i + 2) n) (i + 3) (end - (i + 4)))
unfolding encs sizes enc size
seals ys i kind op n end h l = record {
  sealed = λ xs k ns ek en w.
      let s = end - (i + 4) in
      let zs = set (set (set (set ys i kind) (i + 1) op) (i + 2) n) (i + 3) s in
      let q : end ≡ i + 4 + s = omega arith in
      let es : s ≡ sizes ns = omega (arith, w.ends) in
      let ly : length (take (i + 4) ys) ≡ i + 4 = length-take-le (i + 4) ys (omega arith) in
      let lx : length (take (i + 4) xs) ≡ i + 4 = length-take-le (i + 4) xs w.start in
      let t : take (i + 4) ys ++ take s (drop (i + 4) ys) ≡ take (i + 4) xs ++ encs ns = sym (take-add (i + 4) s ys) ∙ ap (λ (m : ℕ). take m ys) (sym q) ∙ w.lies in
      let m : take s (drop (i + 4) ys) ≡ encs ns = sym (drop_at (take (i + 4) ys) (take s (drop (i + 4) ys)) (i + 4) ly) ∙ ap (drop (i + 4)) t ∙ drop_at (take (i + 4) xs) (encs ns) (i + 4) lx in
      let f : take i ys ≡ take i xs = (wrote_kept i (omega arith) w).lies ∙ append_nil (take i xs) in
      record {
        lies = ap (λ (x : ℕ). take x zs) q
            ∙ take-add (i + 4) s zs
            ∙ ap (λ (x : List ℕ). x ++ take s (drop (i + 4) zs)) (four_put ys i kind op n s (omega arith))
            ∙ ap (λ (x : List ℕ). (take i ys ++ (kind ∷ op ∷ n ∷ s ∷ [])) ++ take s x) (drop_four ys i kind op n s)
            ∙ ap (λ (x : List ℕ). (take i ys ++ (kind ∷ op ∷ n ∷ s ∷ [])) ++ x) m
            ∙ ap (λ (x : List ℕ). (x ++ (kind ∷ op ∷ n ∷ s ∷ [])) ++ encs ns) f
            ∙ append_assoc (take i xs) (kind ∷ op ∷ n ∷ s ∷ []) (encs ns)
            ∙ rw (ek, en, es) (ap (λ (x : List ℕ). take i xs ++ (node_no k ∷ op ∷ count ns ∷ sizes ns ∷ x)) (sym (append_nil (encs ns))));
        ends = omega (arith, w.ends);
        start = omega (arith, w.start);
      };
}

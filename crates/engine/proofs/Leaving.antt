-- What is handed out and then filled up is what compile leaves in the code places.
use mathlib.Core.Path.{◌≡◌, refl, sym, ap, ◌∙◌}
use mathlib.Core.List.{List, [], ◌∷◌, ◌++◌, map}
use Prim.Native.Nat.{ℕ, zero, suc, ◌+◌, ◌-◌, ◌≤◌}
use lib.ListN.{length, take, drop, replicate, length-append, length-map, length-replicate}
use lib.Seq.{take-append_seam, drop-append-add, drop-drop}
use Rattle.numbers.specs.Limits.{max_code}
use Rattle.numbers.specs.Lent.{onto, filled}
use Rattle.pcode.specs.Code.{Instr, nil, Place, place_for}
use Rattle.engine.specs.Handing.{Drafts}

module _ {A : Type 0} where
  -- new contents, and then z up to the place m
  pub put_filled : (lent new : List A) (z : A) (n m : ℕ) {ys zs : List A} → length new ≡ n → n ≤ m → ys ≡ onto lent new → zs ≡ onto ys (take n ys ++ replicate (m - n) z) → zs ≡ onto lent (new ++ replicate (m - n) z)
  put_filled lent new z n m {ys} {zs} e h p q =
      let r : List A = replicate (m - n) z in
      let t : take n ys ≡ new = ap (λ (k : ℕ). take k ys) (sym e) ∙ ap (take (length new)) p ∙ take-append_seam new (drop (length new) lent) in
      let l : length (new ++ r) ≡ length new + (m - n) = length-append new r ∙ ap (λ (k : ℕ). length new + k) (length-replicate (m - n) z) in
      let d : drop (length (new ++ r)) ys ≡ drop (length (new ++ r)) lent =
      ap (λ (k : ℕ). drop k ys) l ∙ ap (drop (length new + (m - n))) p ∙ drop-append-add new (drop (length new) lent) (m - n) ∙ drop-drop (m - n) (length new) lent ∙ ap (λ (k : ℕ). drop k lent) (sym l) in
      q ∙ ap (λ (x : List A). onto ys (x ++ r)) t ∙ ap (λ (x : List A). (new ++ r) ++ x) d

-- the places of a code list that is filled up, by what a place carries
pub filled_map : {A : Type 0} (f : Place → A) (c : List Instr) → map f (map place_for (filled max_code nil c)) ≡ map (λ i. f (place_for i)) c ++ replicate (max_code - length c) (f (place_for nil))
filled_map f c = go c (max_code - length c)
  where
    none : (k : ℕ) → map f (map place_for (replicate k nil)) ≡ replicate k (f (place_for nil))
    none zero = refl
    none (suc k) = ap (λ l. f (place_for nil) ∷ l) (none k)

    go : (c : List Instr) (k : ℕ) → map f (map place_for (c ++ replicate k nil)) ≡ map (λ i. f (place_for i)) c ++ replicate k (f (place_for nil))
    go [] k = none k
    go (i ∷ c) k = ap (λ l. f (place_for i) ∷ l) (go c k)

-- handed out, and then filled up
pub handed : {A : Type 0} (f : Place → A) {draft : List ℕ} {n : ℕ} {c : List Instr} (lent : List A) {ys zs : List A} → Drafts draft n c → n ≤ max_code
    → ys ≡ onto lent (map (λ i. f (place_for i)) c) → zs ≡ onto ys (take n ys ++ replicate (max_code - n) (f (place_for nil))) → zs ≡ onto lent (map f (map place_for (filled max_code nil c)))
handed f {draft} {n} {c} lent d h p q =
    put_filled lent (map (λ i. f (place_for i)) c) (f (place_for nil)) n max_code (length-map c (λ i. f (place_for i)) ∙ d.length_is) h p q
    ∙ ap (λ k. onto lent (map (λ i. f (place_for i)) c ++ replicate (max_code - k) (f (place_for nil)))) (sym d.length_is) ∙ ap (onto lent) (sym (filled_map f c))

-- Loops that put new contents into a lent list from the front, one store a turn.
use mathlib.Core.Path.{◌≡◌, sym, ap, ◌∙◌}
use mathlib.Core.List.{List, [], ◌∷◌, ◌++◌, append_assoc}
use Prim.Native.Nat.{ℕ, zero, suc, ◌+◌, ◌-◌, ◌<◌, ◌≤◌}
use native.Mathlib.Omega.{arith}
use native.Mathlib.Numerals.{add-one}
use lib.ListN.{length, get_or, set, take, drop, replicate, length-append, length-drop, length-replicate, get_or-replicate, take-append-drop}
use lib.Seq.{length-take-le, take-append-le, take_all, take-length, get_or-append-add}
use borrow.Rule.Slice.PartMut.{put_mid, Post-is}
use Rattle.numbers.specs.Lent.{onto, filling}

module _ {A : Type 0} where
  -- the first k of the new contents are in place
  pub record Put (new lent : List A) (k : ℕ) (xs : List A) : Type 0 where
    pub most : k ≤ length new
    pub fits : length new ≤ length lent
    pub is : xs ≡ take k new ++ drop k lent

  -- the list is as long as it was
  pub put_length : {new lent xs : List A} {k : ℕ} → Put new lent k xs → length xs ≡ length lent
  put_length {new} {lent} {xs} {k} p = omega (arith, p.most, p.fits, ap length p.is, length-append (take k new) (drop k lent), length-take-le k new p.most, length-drop k lent)

  put_suc : (new lent : List A) (k : ℕ) (z d : A) → k < length new → length new ≤ length lent → get_or new k d ≡ z
      → set (take k new ++ drop k lent) k z ≡ take (suc k) new ++ drop (suc k) lent
  put_suc [] lent k z d h l e = absurd (omega arith)
  put_suc (x ∷ new) [] k z d h l e = absurd (omega arith)
  put_suc (x ∷ new) (y ∷ lent) zero z d h l e = ap (λ (t : A). t ∷ lent) (sym e)
  put_suc (x ∷ new) (y ∷ lent) (suc k) z d h l e = ap (λ (t : List A). x ∷ t) (put_suc new lent k z d (omega arith) (omega arith) e)

  -- one more
  pub put_more : {new lent xs : List A} {k : ℕ} (z d : A) → Put new lent k xs → k < length new → get_or new k d ≡ z → Put new lent (k + 1) (set xs k z)
  put_more {new} {lent} {xs} {k} z d p h e = record {
    most = omega arith;
    fits = p.fits;
    is = ap (λ (l : List A). set l k z) p.is ∙ put_suc new lent k z d h p.fits e ∙ ap (λ (n : ℕ). take n new ++ drop n lent) (sym (add-one k));
  }

  -- all of them
  pub put_all : {new lent xs : List A} {k : ℕ} → Put new lent k xs → length new ≤ k → xs ≡ onto lent new
  put_all {new} {lent} {xs} {k} p h =
      let e : k ≡ length new = omega (arith, p.most) in
      p.is ∙ ap (λ (n : ℕ). take n new ++ drop n lent) e ∙ ap (λ (l : List A). l ++ drop (length new) lent) (take-length new)

  pub filling_length : (from to : ℕ) (z : A) (lent : List A) → from ≤ to → to ≤ length lent → length (filling from to z lent) ≡ to
  filling_length from to z lent h l = omega (arith, length-append (take from lent) (replicate (to - from) z), length-take-le from lent (omega arith), length-replicate (to - from) z)

  -- none of them yet
  pub filling_none : (from to : ℕ) (z : A) (lent : List A) → from ≤ to → to ≤ length lent → Put (filling from to z lent) lent from lent
  filling_none from to z lent h l =
      let n : length (take from lent) ≡ from = length-take-le from lent (omega arith) in
      let m : length (filling from to z lent) ≡ to = filling_length from to z lent h l in
      record {
        most = omega arith;
        fits = omega arith;
        is = sym (ap (λ (t : List A). t ++ drop from lent) (take-append-le from (take from lent) (replicate (to - from) z) (omega arith) ∙ take_all from (take from lent) (omega arith)) ∙ take-append-drop from lent);
      }

  filling_at : (from to : ℕ) (z : A) (lent : List A) (k : ℕ) → from ≤ k → k < to → to ≤ length lent → get_or (filling from to z lent) k z ≡ z
  filling_at from to z lent k h l m =
      let n : length (take from lent) ≡ from = length-take-le from lent (omega arith) in
      let e : k ≡ length (take from lent) + (k - from) = omega arith in
      ap (λ (i : ℕ). get_or (filling from to z lent) i z) e ∙ get_or-append-add (take from lent) (replicate (to - from) z) (k - from) z ∙ get_or-replicate (to - from) (k - from) z z (omega arith)

  -- one more z
  pub filling_more : (from to : ℕ) (z : A) (lent : List A) {xs : List A} {k : ℕ} → from ≤ k → k < to → to ≤ length lent → Put (filling from to z lent) lent k xs → Put (filling from to z lent) lent (k + 1) (set xs k z)
  filling_more from to z lent {xs} {k} h l m p = put_more z z p (omega (arith, filling_length from to z lent (omega arith) m)) (filling_at from to z lent k h l m)

  -- all of them
  pub filling_all : (from to : ℕ) (z : A) (lent : List A) {xs : List A} {k : ℕ} → from ≤ to → to ≤ length lent → to ≤ k → Put (filling from to z lent) lent k xs → xs ≡ onto lent (filling from to z lent)
  filling_all from to z lent {xs} {k} h l m p = put_all p (omega (arith, filling_length from to z lent h l))

  -- from the first place on
  pub filling_whole : (to : ℕ) (z : A) (lent : List A) {xs : List A} → xs ≡ onto lent (filling 0 to z lent) → xs ≡ onto lent (replicate to z)
  filling_whole to z lent p = let e : to - 0 ≡ to = omega arith in p ∙ ap (λ (n : ℕ). onto lent (replicate n z)) e

  -- a part of it was filled
  pub filled_part : (from to : ℕ) (z : A) (lent : List A) {part xs : List A} → from ≤ to → to ≤ length lent
      → part ≡ replicate (length (take (to - from) (drop from lent))) z → xs ≡ put_mid from (to - from) lent part → xs ≡ onto lent (filling from to z lent)
  filled_part from to z lent {part} {xs} h l e p =
      let n : length (take (to - from) (drop from lent)) ≡ to - from = length-take-le (to - from) (drop from lent) (simp length-drop (omega arith)) in
      let whole : xs ≡ take from lent ++ (replicate (to - from) z ++ drop to lent) = rw (p, e, n, Post-is from to lent h) in
      whole ∙ rw (filling_length from to z lent h l) (sym (append_assoc (take from lent) (replicate (to - from) z) (drop to lent)))

  -- so from the first place on
  pub filled_front : (to : ℕ) (z : A) (lent : List A) {part xs : List A} → to ≤ length lent → part ≡ replicate (length (take to lent)) z → xs ≡ part ++ drop to lent → xs ≡ onto lent (replicate to z)
  filled_front to z lent l e p = rw (p, e, length-take-le to lent l, length-replicate to z)

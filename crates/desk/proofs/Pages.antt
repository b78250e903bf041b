-- Laws of what is put on a page: one text after another is their sum, and the copy that `put` makes.
use mathlib.Core.Path.{◌≡◌, refl, sym, ap, ◌∙◌}
use mathlib.Core.List.{List, [], ◌∷◌, ◌++◌, append_assoc}
use Prim.Native.Nat.{ℕ, zero, suc, ◌+◌, ◌-◌, ◌≤◌, min}
use native.Mathlib.Nat.{suc-min-suc}
use native.Mathlib.Omega.{arith}
use borrow.Rule.Slice.PartMut.{put_mid}
use lib.ListN.{length, take}
use lib.Seq.{take-nil, take-append-add, length-take-le}
use Rattle.std.proofs.lemmas.Slice.{take-put_mid}
use Rattle.desk.specs.declared.page.Page.{Page}
use Rattle.desk.specs.Page.{Put, written}

-- what stands past the room is not there
over : (n : ℕ) (x y : List ℕ) → take n (take n x ++ y) ≡ take n (x ++ y)
over zero x y = refl
over (suc n) [] y = refl
over (suc n) (a ∷ x) y = ap (λ (r : List ℕ). a ∷ r) (over n x y)

-- a text and another behind it
pub then : {a b : List ℕ} {p q s : Page} → Put a p q → Put b q s → Put (a ++ b) p s
then {a} {b} {p} first second = record {
  holds =
      second.holds
      ∙ rw (first.kept, first.holds)
      (over (length p.room.now) (written p ++ a) b ∙ ap (λ (l : List ℕ). take (length p.room.now) l) (append_assoc (written p) a b));
  kept = second.kept ∙ first.kept;
  same = second.same ∙ first.same;
}

-- the text is what a definition says
pub said : {a b : List ℕ} {p q : Page} → a ≡ b → Put a p q → Put b p q
said e h = rw (← e) h

-- a front that is longer than the list is the list
cut : (m : ℕ) (l : List ℕ) → take (min (length l) m) l ≡ take m l
cut zero l = search arith
cut (suc m) [] = take-nil (min 0 (suc m))
cut (suc m) (x ∷ l) = rw suc-min-suc (ap (λ (r : List ℕ). x ∷ r) (cut m l))

-- the copy of as much as there is room for
pub pasted : (room text ys : List ℕ) (used n : ℕ) → used ≤ length room → n ≡ min (length text) (length room - used) → ys ≡ take n text
    → take (used + n) (put_mid used (used + n - used) room ys) ≡ take (length room) (take used room ++ text)
pasted room text ys used n within e copied =
    let head : length (take used room) ≡ used = length-take-le used room within in
    let fill : length (take used room) + (length room - used) ≡ length room = omega (arith, head) in
    let size : used + n ≡ used + length ys = rw (copied, length-take-le n text (omega (arith, e))) refl in
    take-put_mid used (used + n - used) room ys (used + n) size within
    ∙ ap (λ (l : List ℕ). take used room ++ l) (copied ∙ rw e (cut (length room - used) text))
    ∙ sym (take-append-add (take used room) text (length room - used))
    ∙ ap (λ (k : ℕ). take k (take used room ++ text)) fill

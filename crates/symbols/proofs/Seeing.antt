-- Laws of looking from a scope: marks along the chain, then rows that open in order.
use mathlib.Core.Path.{◌≡◌, refl, sym, ap, ◌∙◌}
use mathlib.Core.Bool.{Bool, true, false, not, ◌&&◌}
use mathlib.Core.List.{List, ◌∷◌}
use Prim.Native.Nat.{ℕ, zero, suc, ◌+◌, ◌-◌, ◌*◌, ◌≤◌, ◌<◌}
use native.Mathlib.Omega.{arith}
use lib.Dec.{eqb, ltb}
use lib.ListN.{length, set, length-set}
use lib.Seq.{get_or-set_same, get_or-set_other}
use borrow.Author.Tests.{eq-eqb, ne_eqb, eqb-true, eqb-false, ltb-true, ltb-false}
use Rattle.numbers.specs.Limits.{max_rows, row_share}
use Rattle.symbols.specs.Table.{first, scope, sight, firsts, among, all_among, is_open, rows_in, Linked, Sound, Seen, Became}
use Rattle.symbols.specs.Steps.{Plain, Cleared, after_mark, Marked, marked, all_marked, Unopened, Opened}
use Rattle.symbols.specs.Chains.{positive, linked_less, firsts_none, firsts_end, firsts_cons, firsts_step, firsts_fuel}
use Rattle.symbols.specs.Kept.{sound_kept, rows_kept}

pub open_zero : (xs : List ℕ) (p : ℕ) → p ≡ 0 → true ≡ is_open xs p
unfolding is_open
open_zero xs p e = rw (eq-eqb p 0 e, is_open)

pub open_is : (xs : List ℕ) (p q : ℕ) → q ≡ p → (p ≡ 0 → ⊥) → eqb (sight xs (q - 1)) 2 ≡ is_open xs p
unfolding is_open
open_is xs p q e h = rw (ne_eqb p 0 h, is_open) (rw e)

-- one sight is changed
abbrev pub sighted : List ℕ → ℕ → ℕ → List ℕ
sighted xs i v = set xs (row_share * i + 11) v

plain_set : (xs : List ℕ) (i v : ℕ) → Plain xs (sighted xs i v)
plain_set xs i v k = record {
  lasts = length-set xs (12 * i + 11) v;
  at = λ j f h l. get_or-set_other xs (12 * i + 11) (12 * j + f) v 0 (λ e. omega arith);
}

plain_on : {xs ys zs : List ℕ} → Plain xs ys → Plain ys zs → Plain xs zs
plain_on p q k = record { lasts = (q k).lasts ∙ (p k).lasts; at = λ i f h l. (q k).at i f h l ∙ (p k).at i f h l }

plain_none : (xs : List ℕ) → Plain xs xs
plain_none xs k = record { lasts = refl; at = λ i f h l. refl }

pub plain_first : {xs ys : List ℕ} → Plain xs ys → (i : ℕ) → first ys i ≡ first xs i
plain_first p i = (p (suc i)).at i 3 (omega arith) (omega arith)

pub plain_scope : {xs ys : List ℕ} → Plain xs ys → (i : ℕ) → scope ys i ≡ scope xs i
plain_scope p i = (p (suc i)).at i 4 (omega arith) (omega arith)

pub plain_length : {xs ys : List ℕ} → Plain xs ys → length ys ≡ length xs
plain_length p = (p 0).lasts

linked_plain : {xs ys : List ℕ} (k j : ℕ) → j ≤ k → Linked xs k → Plain xs ys → Linked ys j
linked_plain k j h g p = linked_less k j h g (plain_length p) (plain_first p) (plain_scope p)

firsts_plain : {xs ys : List ℕ} → Plain xs ys → (f p : ℕ) → firsts f ys p ≡ firsts f xs p
firsts_plain {xs} {ys} w zero p = firsts_none ys p ∙ sym (firsts_none xs p)
firsts_plain {xs} {ys} w (suc f) zero = firsts_end (suc f) ys ∙ sym (firsts_end (suc f) xs)
firsts_plain {xs} {ys} w (suc f) (suc p) = firsts_cons f ys p ∙ rw (plain_first w p, plain_scope w p, firsts_plain w f (scope xs p)) (sym (firsts_cons f xs p))

sight_same : (xs : List ℕ) (i v : ℕ) → 12 * i + 11 < length xs → sight (sighted xs i v) i ≡ v
sight_same xs i v h = get_or-set_same xs (12 * i + 11) v 0 h

sight_other : (xs : List ℕ) (i v j : ℕ) → (j ≡ i → ⊥) → sight (sighted xs i v) j ≡ sight xs j
sight_other xs i v j n = get_or-set_other xs (12 * i + 11) (12 * j + 11) v 0 (λ e. n (omega arith))

-- nothing is seen
pub clear_start : (xs : List ℕ) → Cleared xs 0 xs
clear_start xs = record { plain = plain_none xs; dark = λ i h. absurd (omega arith) }

dark_more : (ys : List ℕ) (k : ℕ) → 12 * k + 11 < length ys → ((i : ℕ) → i < k → sight ys i ≡ 0) → (i : ℕ) → i < k + 1 → (b : Bool) → b ≡ eqb i k → sight (sighted ys k 0) i ≡ 0
dark_more ys k r d i h true e = rw (eqb-true i k (sym e)) (sight_same ys k 0 r)
dark_more ys k r d i h false e =
    let n = eqb-false i k (sym e) in
    sight_other ys k 0 i n ∙ d i (below i k h n)
  where
    below : (i k : ℕ) → i < k + 1 → (i ≡ k → ⊥) → i < k
    below i k h n = omega (arith, n)

pub clear_more : (xs ys : List ℕ) (k : ℕ) → 12 * k + 11 < length ys → Cleared xs k ys → Cleared xs (k + 1) (sighted ys k 0)
clear_more xs ys k r c = record {
  plain = plain_on c.plain (plain_set ys k 0);
  dark = λ i h. dark_more ys k r c.dark i h (eqb i k) refl;
}

pub clear_end : (xs ys : List ℕ) (k used : ℕ) → used ≤ k → Cleared xs k ys → Cleared xs used ys
clear_end xs ys k used h c = record { plain = c.plain; dark = λ i l. c.dark i (omega arith) }

-- how far the marks have come along the chain of p₀
pub record Marking (xs : List ℕ) (p₀ : ℕ) (ys : List ℕ) (p : ℕ) : Type 0 where
  pub fuel : ℕ
  pub enough : p ≤ fuel
  pub known : p ≤ p₀
  pub plain : Plain xs ys
  pub marks : (i : ℕ) → after_mark (among i (firsts max_rows xs p₀)) (sight xs i) ≡ after_mark (among i (firsts fuel xs p)) (sight ys i)

pub mark_start : (xs : List ℕ) (p₀ p : ℕ) → p ≡ p₀ → Linked xs p₀ → Marking xs p₀ xs p
mark_start xs p₀ p e g = record { fuel = max_rows; enough = omega (arith, g.most); known = omega arith; plain = plain_none xs; marks = λ i. rw e }

marking : (ys : List ℕ) (a i : ℕ) (l : List ℕ) (b : Bool) → b ≡ eqb i a → 12 * a + 11 < length ys
    → after_mark (elim b [ true ↦ true | false ↦ among i l ]) (sight ys i) ≡ after_mark (among i l) (sight (sighted ys a 1) i)
marking ys a i l true e r = rw (eqb-true i a (sym e)) (one (among a l) (sight (sighted ys a 1) a) (sight_same ys a 1 r))
  where
    one : (b : Bool) (v : ℕ) → v ≡ 1 → 1 ≡ after_mark b v
    one true v e = refl
    one false v e = sym e
marking ys a i l false e r = rw (sight_other ys a 1 i (eqb-false i a (sym e)))

module _ (xs ys : List ℕ) (p₀ p : ℕ) (g : Linked xs p₀) (m : Marking xs p₀ ys p) (n : p ≡ 0 → ⊥) where
  pub mark_lies : 12 * (p - 1) + 11 < length ys
  mark_lies = omega (arith, positive p n, m.known, g.most, g.room, plain_length m.plain)

  pub mark_small : (a : ℕ) → a ≡ first ys (p - 1) → a < max_rows
  mark_small a e = omega (arith, e, plain_first m.plain (p - 1), g.before (p - 1) (omega (arith, positive p n, m.known)), positive p n, m.known, g.most)

  pub mark_first : (a : ℕ) → a ≡ first ys (p - 1) → 12 * a + 11 < length ys
  mark_first a e = omega (arith, e, plain_first m.plain (p - 1), g.before (p - 1) (omega (arith, positive p n, m.known)), mark_lies)

  module _ (a : ℕ) (e : a ≡ first ys (p - 1)) (q : ℕ) (d : q ≡ scope (sighted ys a 1) (p - 1)) where
    plain_now : Plain xs (sighted ys a 1)
    plain_now = plain_on m.plain (plain_set ys a 1)

    next : q ≡ scope xs (p - 1)
    next = d ∙ plain_scope plain_now (p - 1)

    pub mark_less : q < p
    mark_less = omega (arith, next, g.older (p - 1) (omega (arith, positive p n, m.known)), positive p n)

    pub mark_more : Marking xs p₀ (sighted ys a 1) q
    unfolding among
    mark_more = record {
      fuel = m.fuel - 1;
      enough = omega (arith, mark_less, m.enough);
      known = omega (arith, mark_less, m.known);
      plain = plain_now;
      marks = λ i.
          let head : first xs (p - 1) ≡ a = sym (e ∙ plain_first m.plain (p - 1)) in
          let step : firsts m.fuel xs p ≡ a ∷ firsts (m.fuel - 1) xs q = firsts_step m.fuel xs p n m.enough ∙ rw (head, next) in
          m.marks i ∙ ap (λ (l : List ℕ). after_mark (among i l) (sight ys i)) step ∙ marking ys a i (firsts (m.fuel - 1) xs q) (eqb i a) refl (mark_first a e);
    }

pub mark_end : (xs ys : List ℕ) (p₀ p : ℕ) → p ≡ 0 → Marking xs p₀ ys p → Marked xs p₀ ys
unfolding among
mark_end xs ys p₀ p e m = record {
  plain = m.plain;
  marks = λ i. sym (m.marks i ∙ ap (λ (q : ℕ). after_mark (among i (firsts m.fuel xs q)) (sight ys i)) e ∙ rw (firsts_end m.fuel xs));
}

-- whether a row opens
pub opens_not : (xs : List ℕ) (k a : ℕ) (b : Bool) → a ≡ first xs k → sight xs a ≡ 0 → false ≡ (marked xs (first xs k) && b)
unfolding marked
opens_not xs k a b e z = rw (← e, eq-eqb (sight xs a) 0 z)

pub opens_if : (xs : List ℕ) (k a : ℕ) (b : Bool) → a ≡ first xs k → (sight xs a ≡ 0 → ⊥) → b ≡ (marked xs (first xs k) && b)
unfolding marked
opens_if xs k a b e z = rw (← e, ne_eqb (sight xs a) 0 z)

-- the rows up to k have opened
abbrev pub after_open : Bool → ℕ → ℕ
after_open true v = 2
after_open false v = v

pub record Opening (xs : List ℕ) (ys : List ℕ) (k : ℕ) : Type 0 where
  pub plain : Plain xs ys
  pub later : (i : ℕ) → k ≤ i → sight ys i ≡ sight xs i
  pub past : (i : ℕ) → i < k → sight ys i ≡ after_open (all_marked xs (firsts max_rows xs (suc i))) (sight xs i)

pub open_start : (xs : List ℕ) → Opening xs xs 0
open_start xs = record { plain = plain_none xs; later = λ i h. refl; past = λ i h. absurd (omega arith) }

open_two : (b : Bool) (v : ℕ) → eqb v 2 ≡ false → eqb (after_open b v) 2 ≡ b
open_two true v h = refl
open_two false v h = h

first_of : (b r : Bool) → elim b [ true ↦ r | false ↦ false ] ≡ true → b ≡ true
first_of true r h = refl
first_of false r h = cc

and_elim : (a b : Bool) → elim a [ true ↦ b | false ↦ false ] ≡ (a && b)
and_elim true b = refl
and_elim false b = refl

module _ (xs ys : List ℕ) (used k : ℕ) (g : Linked xs used) (u : Unopened xs used) (o : Opening xs ys k) (below : k ≤ used) where
  -- a scope of the rows so far
  pub open_now : (q : ℕ) → q ≤ k → is_open ys q ≡ all_marked xs (firsts max_rows xs q)
  unfolding is_open all_marked
  open_now zero h = rw (firsts_end max_rows xs)
  open_now (suc q) h =
      let n : suc q ≡ 0 → ⊥ = λ e. omega arith in
      let e : suc q - 1 ≡ q = omega arith in
      rw (ne_eqb (suc q) 0 n, is_open) (rw (e, o.past q (omega arith)) (open_two (all_marked xs (firsts max_rows xs (suc q))) (sight xs q) (u q (omega arith))))

  split : (i : ℕ) → i < used → all_marked xs (firsts max_rows xs (suc i)) ≡ elim (marked xs (first xs i)) [ true ↦ all_marked xs (firsts max_rows xs (scope xs i)) | false ↦ false ]
  unfolding all_marked
  split i h =
      let w = g.older i h in
      ap (all_marked xs) (firsts_cons 511 xs i)
      ∙ ap (λ (l : List ℕ). elim (marked xs (first xs i)) [ true ↦ all_marked xs l | false ↦ false ]) (firsts_fuel used xs g 511 max_rows (scope xs i) (omega (arith, w, g.most)) (omega (arith, w, g.most)) (omega (arith, w)))

  -- marks are still there
  mark_stays : (b : Bool) (f : ℕ) → f < k → b ≡ all_marked xs (firsts max_rows xs (suc f)) → first xs f ≡ f → marked ys f ≡ marked xs f
  unfolding marked
  mark_stays true f h e s =
      let m : marked xs f ≡ true = ap (marked xs) (sym s) ∙ first_of (marked xs (first xs f)) (all_marked xs (firsts max_rows xs (scope xs f))) (sym (split f (omega arith)) ∙ sym e) in
      let v : sight ys f ≡ 2 = o.past f h ∙ ap (λ (c : Bool). after_open c (sight xs f)) (sym e) in
      ap (λ (n : ℕ). not (eqb n 0)) v ∙ sym m
  mark_stays false f h e s = ap (λ (n : ℕ). not (eqb n 0)) (o.past f h ∙ ap (λ (c : Bool). after_open c (sight xs f)) (sym e))

  marked_same : (f : ℕ) → (b : Bool) → b ≡ ltb f k → first xs f ≡ f → marked ys f ≡ marked xs f
  unfolding marked
  marked_same f true e s = mark_stays (all_marked xs (firsts max_rows xs (suc f))) f (ltb-true f k (sym e)) refl s
  marked_same f false e s = ap (λ (n : ℕ). not (eqb n 0)) (o.later f (ltb-false f k (sym e)))

  pub open_row : k < used → (marked ys (first ys k) && is_open ys (scope ys k)) ≡ all_marked xs (firsts max_rows xs (suc k))
  open_row h =
      let w = g.older k h in
      rw (plain_first o.plain k, plain_scope o.plain k, marked_same (first xs k) (ltb (first xs k) k) refl (g.again k h), open_now (scope xs k) w)
      (sym (and_elim (marked xs (first xs k)) (all_marked xs (firsts max_rows xs (scope xs k)))) ∙ sym (split k h))

  pub open_linked : k < used → Linked ys (k + 1)
  open_linked h = linked_plain used (k + 1) (omega arith) g o.plain

  module _ (h : k < used) (b : Bool) (e : b ≡ (marked ys (first ys k) && is_open ys (scope ys k))) where
    pub open_lies : 12 * k + 11 < length ys
    open_lies = omega (arith, g.most, g.room, plain_length o.plain)

    opened_past : (i : ℕ) → b ≡ true → (c : Bool) → c ≡ eqb i k → i < k + 1 → sight (sighted ys k 2) i ≡ after_open (all_marked xs (firsts max_rows xs (suc i))) (sight xs i)
    opened_past i t true q l =
        let s = eqb-true i k (sym q) in
        rw s (sight_same ys k 2 open_lies ∙ ap (λ (c : Bool). after_open c (sight xs k)) (sym t ∙ e ∙ open_row h))
    opened_past i t false q l =
        let d = eqb-false i k (sym q) in
        sight_other ys k 2 i d ∙ o.past i (omega (arith, d))

    pub open_more : b ≡ true → Opening xs (sighted ys k 2) (k + 1)
    open_more t = record {
      plain = plain_on o.plain (plain_set ys k 2);
      later = λ i l. sight_other ys k 2 i (λ q. omega arith) ∙ o.later i (omega arith);
      past = λ i l. opened_past i t (eqb i k) refl l;
    }

    skipped_past : (i : ℕ) → b ≡ false → (c : Bool) → c ≡ eqb i k → i < k + 1 → sight ys i ≡ after_open (all_marked xs (firsts max_rows xs (suc i))) (sight xs i)
    skipped_past i t true q l =
        let s = eqb-true i k (sym q) in
        rw s (o.later k (omega arith) ∙ ap (λ (c : Bool). after_open c (sight xs k)) (sym t ∙ e ∙ open_row h))
    skipped_past i t false q l =
        let d = eqb-false i k (sym q) in
        o.past i (omega (arith, d))

    pub open_skip : b ≡ false → Opening xs ys (k + 1)
    open_skip t = record { plain = o.plain; later = λ i l. o.later i (omega arith); past = λ i l. skipped_past i t (eqb i k) refl l }

  pub open_end : used ≤ k → Opened xs used ys
  open_end h = record { plain = o.plain; opens = λ q l. open_now q (omega arith) }

-- one look, of its three parts
module _ (xs zs : List ℕ) (used p : ℕ) (g : Linked xs used) (h : p ≤ used) (c : Cleared xs used zs) where
  pub look_linked : Linked zs p
  look_linked = linked_plain used p h g c.plain

  module _ (bs : List ℕ) (m : Marked zs p bs) where
    pub look_marked : Linked bs used
    look_marked = linked_plain used used (omega arith) g (plain_on c.plain m.plain)

    mark_or_none : (b : Bool) (v : ℕ) → v ≡ 0 → eqb (after_mark b v) 2 ≡ false
    mark_or_none true v e = refl
    mark_or_none false v e = rw e

    mark_is : (b : Bool) (v : ℕ) → v ≡ 0 → not (eqb (after_mark b v) 0) ≡ b
    mark_is true v e = refl
    mark_is false v e = rw e

    pub look_unopened : Unopened bs used
    look_unopened i l = ap (λ (v : ℕ). eqb v 2) (m.marks i) ∙ mark_or_none (among i (firsts max_rows zs p)) (sight zs i) (c.dark i l)

    marked_is : (i : ℕ) → i < used → marked bs i ≡ among i (firsts max_rows zs p)
    unfolding marked
    marked_is i l = ap (λ (v : ℕ). not (eqb v 0)) (m.marks i) ∙ mark_is (among i (firsts max_rows zs p)) (sight zs i) (c.dark i l)

    all_marked_lem : (f q : ℕ) → q ≤ used → all_marked bs (firsts f xs q) ≡ all_among (firsts f xs q) (firsts max_rows zs p)
    unfolding all_marked all_among
    all_marked_lem zero q l = rw (firsts_none xs q)
    all_marked_lem (suc f) zero l = rw (firsts_end (suc f) xs)
    all_marked_lem (suc f) (suc q) l =
        let b = g.before q (omega arith) in
        let o = g.older q (omega arith) in
        rw (firsts_cons f xs q) (ap (λ (t : Bool). elim t [ true ↦ all_marked bs (firsts f xs (scope xs q)) | false ↦ false ]) (marked_is (first xs q) (omega (arith, b)))
        ∙ ap (λ (t : Bool). elim (among (first xs q) (firsts max_rows zs p)) [ true ↦ t | false ↦ false ]) (all_marked_lem f (scope xs q) (omega (arith, o))))

    module _ (ys : List ℕ) (o : Opened bs used ys) where
      pub look_plain : Plain xs ys
      look_plain = plain_on (plain_on c.plain m.plain) o.plain

      pub look_seen : Seen ys used p
      look_seen = record {
        known = h;
        shows = λ q l.
            let e = firsts_plain (plain_on c.plain m.plain) max_rows q in
            o.opens q l ∙ ap (all_marked bs) e ∙ all_marked_lem max_rows q l ∙ rw (firsts_plain c.plain max_rows p, firsts_plain look_plain max_rows q, firsts_plain look_plain max_rows p);
      }

-- what see leaves of the rows
pub look_became : (s xs ys : List ℕ) (used : ℕ) → Plain xs ys → Sound s xs used → Became 11 s xs used (rows_in s xs used) ys
look_became s xs ys used p g = record {
  sound = sound_kept 11 used s xs ys (omega arith) g (p used);
  rows_are = rows_kept 11 used s xs ys (omega arith) g (p used);
  kept = p used;
}

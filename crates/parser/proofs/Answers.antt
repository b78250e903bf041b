-- What a caller learns of a callee's answer, and how a refusal goes up.
use Rattle.std.specs.Prelude.{Result, Ok, Err}
use Rattle.std.specs.Result.{IsErr, IsErrAnd}
use Rattle.std.proofs.lemmas.Result.{err_from_is_err_and}
use mathlib.Core.Path.{◌≡◌, ap, ◌∙◌}
use mathlib.Core.List.{List}
use Prim.Native.Nat.{ℕ, zero, suc, ◌+◌, ◌*◌, ◌≤◌}
use native.Mathlib.Omega.{arith}
use lib.ListN.{length}
use Rattle.numbers.specs.Limits.{tree_share}
use Rattle.numbers.specs.declared.refusal.Refusal.{Refusal}
use Rattle.lexer.specs.Cursor.{Cursor as Place, Ans, refuse, Reader}
use Rattle.lexer.specs.Marks.{Mark}
use Rattle.lexer.specs.Stands.{Stands, taken, past, left}
use Rattle.lexer.specs.declared.cursor.Cursor.{Cursor}
use Rattle.tree.specs.Layout.{Nodes}
use Rattle.parser.specs.Answer.{Answer, Node, Nothing, Refused}
use Rattle.parser.specs.Meets.{Room, Grew, Safe, Made, Means, Meets}
use Rattle.parser.specs.See.{Seen, Sees, Wants}
use Rattle.parser.proofs.Seeing.{saw, took}

-- a number that is large enough is no zero
pub by_suc : (P : ℕ → Type 0) (m : ℕ) → 1 ≤ m → ((n : ℕ) → m ≤ suc n → P (suc n)) → (n : ℕ) → m ≤ n → P n
by_suc P m h f zero k = absurd (omega arith)
by_suc P m h f (suc n) k = f n k

-- the definition f refuses with w from where the cursor c stands
abbrev pub Refuses : {B : Type 0} → List ℕ → (ℕ → Reader B) → ℕ → Cursor → ℕ → Type 0
Refuses src f m c w = (n : ℕ) → m ≤ n → (k : Place) → Stands src c k → f n k ≡ refuse w

module _ {A B : Type 0} {yes : A → B} {no : B → Type 0} {nodes : A → Nodes} {src xs : List ℕ} {u : ℕ} {ys : List ℕ} {f : ℕ → Reader B} {m spare debt : ℕ} {c : Cursor} where
  -- a refusal of one's own
  pub refused : {w : ℕ} → Refuses src f m c w → Meets yes no nodes src xs u ys f m spare debt c (Refused w)
  unfolding Safe Means
  refused h = record { safe = tt; means = h }

  module _ {r : Answer} (h : Meets yes no nodes src xs u ys f m spare debt c r) {e : ℕ} {d : Cursor} (q : r ≡ Node e d) where
    pub grew : Grew spare debt u c e d
    unfolding Safe
    grew = rw q at h.safe

    pub made : (n : ℕ) → m ≤ n → (k : Place) → Stands src c k → Made yes no nodes src xs u ys e d (f n k)
    unfolding Means
    made n l k s = rw q at (h.means n l k s)

    -- the next reader's room
    pub room_after : {v s t : ℕ} {zs : List ℕ} → Room src zs v s c → length ys ≡ length zs → u + debt + t ≤ v + s + spare → Room src ys e t d
    room_after p l a =
        let b = made m (omega arith) p.place p.stands in
        record {
          place = b.at;
          stands = b.stands;
          short = p.short;
          small = omega (arith, p.small);
          room = omega (arith, p.room, grew.room);
        }

-- what the exit of a `?` returns: the refusal that came
pub left_as : {T : Type 0} {r : Result T Refusal} {w : Refusal} → IsErr r × IsErrAnd r (λ y. y ≡ w) → r ≡ Err w
left_as {r = r} h = let p = err_from_is_err_and r h.1 in p.1 ∙ ap Err p.2

-- a reader that was refused: so is its definition
pub refuses : {A B : Type 0} {yes : A → B} {no : B → Type 0} {nodes : A → Nodes} {src xs : List ℕ} {u : ℕ} {ys : List ℕ} {f : ℕ → Reader B} {m spare debt : ℕ} {c : Cursor} {w : ℕ}
    → Meets yes no nodes src xs u ys f m spare debt c (Refused w) → Refuses src f m c w
unfolding Means
refuses h = h.means

-- a reader that goes on as another, from where that one's cursor stands
pub record Moved {B : Type 0} (src : List ℕ) (f : ℕ → Reader B) (m : ℕ) (c : Cursor) (a : Ans B) : Type 0 where
  pub fuel : ℕ
  pub enough : m ≤ fuel
  pub at : Place
  pub stands : Stands src c at
  pub is : a ≡ f fuel at

moved_safe : (spare spare' debt debt' u : ℕ) (c d : Cursor) → left d ≤ left c → spare + debt' + tree_share * left d ≤ spare' + debt + tree_share * left c → (r : Answer) → Safe spare' debt' u d r → Safe spare debt u c r
unfolding Safe
moved_safe spare spare' debt debt' u c d l a (Node e t) h = record { above = h.above; fewer = omega (arith, h.fewer); room = omega (arith, h.room) }
moved_safe spare spare' debt debt' u c d l a (Nothing t) h = omega (arith, h)
moved_safe spare spare' debt debt' u c d l a (Refused w) h = tt

module _ {A B : Type 0} {yes : A → B} {no : B → Type 0} {nodes : A → Nodes} {src xs : List ℕ} {u : ℕ} {ys : List ℕ} {f g : ℕ → Reader B} {m m' spare spare' debt debt' : ℕ} {c d : Cursor} where
  pub moved : (r : Answer) → left d ≤ left c → spare + debt' + tree_share * left d ≤ spare' + debt + tree_share * left c → ((n : ℕ) → m ≤ n → (k : Place) → Stands src c k → Moved src g m' d (f n k))
      → Meets yes no nodes src xs u ys g m' spare' debt' d r → Meets yes no nodes src xs u ys f m spare debt c r
  moved r l a t h = record {
    safe = moved_safe spare spare' debt debt' u c d l a r h.safe;
    means = λ n b k s. let o = t n b k s in rw o.is (h.means o.fuel o.enough o.at o.stands);
  }

-- the room of a reader that is called, by what was seen or taken before
module _ {src xs : List ℕ} {u s : ℕ} {c : Cursor} (p : Room src xs u s c) where
  pub room_at : {ys : List ℕ} → length ys ≡ length xs → (v t : ℕ) → v + t ≤ u + s → Room src ys v t c
  room_at q v t h = record { place = p.place; stands = p.stands; short = p.short; small = omega (arith, p.small); room = omega (arith, p.room) }

  module _ {r : Seen} (h : Sees src c r) {d : Cursor} (q : r ≡ Ok d) where
    pub room_seen : Room src xs u s d
    room_seen = let w = (saw h q p.place p.stands).1 in record { place = p.place; stands = w.stands; short = p.short; small = p.small; room = omega (arith, p.room, w.same) }

    pub same_left : left d ≡ left c
    same_left = (saw h q p.place p.stands).1.same

    module _ {t : Cursor} (e : t ≡ taken d) where
      pub room_taken : (v x : ℕ) → v + x ≤ u + s + tree_share → Room src xs v x t
      room_taken v x l =
          let w = (saw h q p.place p.stands).1 in
          let f : suc (left t) ≡ left c = rw e w.fewer in
          record { place = past src p.place; stands = rw e w.beyond; short = p.short; small = p.small; room = omega (arith, p.room) }

      pub one_fewer : suc (left t) ≡ left c
      one_fewer = rw e (saw h q p.place p.stands).1.fewer

  module _ {m : Mark} {r : Seen} (h : Wants src m c r) {d : Cursor} (q : r ≡ Ok d) where
    pub room_took : (v x : ℕ) → v + x ≤ u + s + tree_share → Room src xs v x d
    room_took v x l =
        let w = took h q p.place p.stands in
        record { place = past src p.place; stands = w.stands; short = p.short; small = p.small; room = omega (arith, p.room, w.fewer) }

    pub wanted_fewer : suc (left d) ≡ left c
    wanted_fewer = (took h q p.place p.stands).fewer

-- Answers of readers that may yield nothing: what a caller learns of each case, and how nothing goes up.
use Rattle.std.specs.Prelude.{Ok, Option, Some, None}
use mathlib.Core.Path.{◌≡◌, ap}
use mathlib.Core.List.{List}
use Prim.Native.Nat.{ℕ, ◌+◌, ◌≤◌}
use native.Mathlib.Omega.{arith}
use lib.ListN.{length}
use Rattle.lexer.specs.Cursor.{Cursor as Place, Ans, got, Reader}
use Rattle.lexer.specs.Stands.{Stands, left}
use Rattle.lexer.specs.declared.cursor.Cursor.{Cursor}
use Rattle.tree.specs.Layout.{Nodes, no_more}
use Rattle.parser.specs.Answer.{Answer, Node, Nothing, try_of}
use Rattle.parser.specs.Written.{Wrote}
use Rattle.parser.specs.Meets.{Room, Safe, Quiet, Means, Meets}
use Rattle.parser.proofs.Writing.{wrote_kept}

-- a reader yielded that
pub none_at : {o : Option ℕ} {d : Cursor} → o ≡ None → try_of (Ok (o, d)) ≡ Nothing d
none_at {d = d} e = ap (λ o. try_of (Ok (o, d))) e

pub some_at : {o : Option ℕ} {e : ℕ} {d : Cursor} → o ≡ Some e → try_of (Ok (o, d)) ≡ Node e d
some_at {d = d} e = ap (λ o. try_of (Ok (o, d))) e

-- the definition yields some value, and what was used stands as it was
pub record Went {B : Type 0} (src xs : List ℕ) (u : ℕ) (ys : List ℕ) (d : Cursor) (a : Ans B) : Type 0 where
  pub value : B
  pub at : Place
  pub is : a ≡ got value at
  pub stands : Stands src d at
  pub wrote : Wrote xs u ys u no_more

module _ {A B : Type 0} {yes : A → B} {no : B → Type 0} {nodes : A → Nodes} {src xs : List ℕ} {u : ℕ} {ys : List ℕ} {f : ℕ → Reader B} {m spare debt : ℕ} {c : Cursor} where
  module _ {r : Answer} (h : Meets yes no nodes src xs u ys f m spare debt c r) {d : Cursor} (q : r ≡ Nothing d) where
    pub quiet_left : left d ≤ left c
    unfolding Safe
    quiet_left = rw q at h.safe

    pub quiet : (n : ℕ) → m ≤ n → (k : Place) → Stands src c k → Quiet yes no nodes src xs u ys d (f n k)
    unfolding Means
    quiet n l k s = rw q at (h.means n l k s)

    -- the next reader's room
    pub room_quiet : {v s t w : ℕ} {zs : List ℕ} → Room src zs v s c → length ys ≡ length zs → w + t ≤ v + s → Room src ys w t d
    room_quiet p l a =
        let b = quiet m (omega arith) p.place p.stands in
        record { place = b.at; stands = b.stands; short = p.short; small = omega (arith, p.small); room = omega (arith, p.room, quiet_left) }

  -- whatever was yielded
  pub try_left : (o : Option ℕ) (d : Cursor) → Meets yes no nodes src xs u ys f m spare debt c (try_of (Ok (o, d))) → left d ≤ left c
  unfolding Safe
  try_left None d h = h.safe
  try_left (Some e) d h = h.safe.fewer

  pub went : (o : Option ℕ) {d : Cursor} → Meets yes no nodes src xs u ys f m spare debt c (try_of (Ok (o, d))) → (n : ℕ) → m ≤ n → (k : Place) → Stands src c k → Went src xs u ys d (f n k)
  unfolding Means
  went None h n l k s = let b = h.means n l k s in record { value = b.value; at = b.at; is = b.is; stands = b.stands; wrote = b.wrote }
  went (Some e) h n l k s = let b = h.means n l k s in record { value = yes b.value; at = b.at; is = b.is; stands = b.stands; wrote = wrote_kept u (omega arith) b.wrote }

-- the definition f yields nothing from where the cursor c stands; the cursor d stands after that, and what was used
-- stands as it was
abbrev pub Quietly : {A B : Type 0} → (A → B) → (B → Type 0) → (A → Nodes) → (src xs : List ℕ) → ℕ → List ℕ → (ℕ → Reader B) → ℕ → (c d : Cursor) → Type 0
Quietly y z nodes src xs u ys f m c d = (n : ℕ) → m ≤ n → (k : Place) → Stands src c k → Quiet y z nodes src xs u ys d (f n k)

-- nothing of one's own
pub nothing : {A B : Type 0} {yes : A → B} {no : B → Type 0} {nodes : A → Nodes} {src xs : List ℕ} {u : ℕ} {ys : List ℕ} {f : ℕ → Reader B} {m spare debt : ℕ} {c d : Cursor}
    → left d ≤ left c → Quietly yes no nodes src xs u ys f m c d → Meets yes no nodes src xs u ys f m spare debt c (Nothing d)
unfolding Safe Means
nothing l q = record { safe = l; means = q }

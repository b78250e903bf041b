-- A list that a loop reads: from where the loop begins, the definition of the rest is as far as the loop has come.
use mathlib.Core.Path.{◌≡◌, refl, sym, ap, ◌∙◌}
use mathlib.Core.List.{List}
use Prim.Native.Nat.{ℕ, ◌+◌, ◌*◌, ◌≤◌}
use native.Mathlib.Omega.{arith}
use lib.ListN.{length}
use Rattle.numbers.specs.Limits.{tree_share}
use Rattle.lexer.specs.Cursor.{Cursor as Place, Ans, got, refuse, Reader}
use Rattle.lexer.specs.Stands.{Stands, left}
use Rattle.lexer.specs.declared.cursor.Cursor.{Cursor}
use Rattle.tree.specs.Layout.{Nodes, no_more, count}
use Rattle.tree.specs.Reading.{sizes_least}
use Rattle.tree.specs.Writing.{join, join_join, count_join}
use Rattle.grammar.specs.Reader.{then}
use Rattle.parser.specs.Written.{Wrote}
use Rattle.parser.specs.Meets.{Room}
use Rattle.parser.proofs.Writing.{wrote_none, wrote_more}
use Rattle.parser.proofs.Answers.{Refuses}

-- the value with what came before it
abbrev pub after : {L : Type 0} → (L → L) → Ans L → Ans L
after g a = then (λ l k. got (g l) k) a

pub after_after : {L : Type 0} (g h : L → L) (a : Ans L) → after g (after h a) ≡ after (λ l. g (h l)) a
after_after g h (got l k) = refl
after_after g h (refuse n) = refl

-- `rest` reads a list whose nodes are `nodes`; fuel is eight times the tokens left, and `rank`
module _ {L : Type 0} (rest : ℕ → Reader L) (nodes : L → Nodes) (src : List ℕ) (rank : ℕ) where
  -- the answer a of the definition is that of `rest` from the cursor c on, after the nodes that were written from u up to e;
  -- with those of before, `base` of them, they are `total`
  pub record On (xs : List ℕ) (u base : ℕ) (ys : List ℕ) (e total : ℕ) (c : Cursor) (a : Ans L) : Type 0 where
    pub fuel : ℕ
    pub enough : 8 * left c + rank ≤ fuel
    pub at : Place
    pub stands : Stands src c at
    pub before : L → L
    pub ms : Nodes
    pub is : a ≡ after before (rest fuel at)
    pub joins : (l : L) → nodes (before l) ≡ join ms (nodes l)
    pub wrote : Wrote xs u ys e ms
    pub counts : base + count ms ≡ total

  -- one turn of the loop, from c to d
  pub record Turn (ys : List ℕ) (e : ℕ) (c : Cursor) (zs : List ℕ) (f : ℕ) (d : Cursor) : Type 0 where
    pub above : e ≤ f
    pub fewer : left d ≤ left c
    pub room : f + tree_share * left d ≤ e + tree_share * left c
    pub turn : (n : ℕ) → 8 * left c + rank ≤ n → (k : Place) → Stands src c k → On ys e 0 zs f 1 d (rest n k)

  -- the turns up to now
  pub record Going (xs : List ℕ) (u base : ℕ) (c₀ : Cursor) (ys : List ℕ) (e total : ℕ) (c : Cursor) : Type 0 where
    pub above : u ≤ e
    pub few : total ≤ e
    pub fewer : left c ≤ left c₀
    pub room : e + tree_share * left c ≤ u + tree_share * left c₀
    pub same : length ys ≡ length xs
    pub on : (n : ℕ) → 8 * left c₀ + rank ≤ n → (k : Place) → Stands src c₀ k → On xs u base ys e total c (rest n k)

  pub going_start : (xs : List ℕ) (u base : ℕ) (c : Cursor) → u ≤ length xs → base ≤ u → Going xs u base c xs u base c
  unfolding join count
  going_start xs u base c h i = record {
    above = omega arith;
    few = i;
    fewer = omega arith;
    room = omega arith;
    same = refl;
    on = λ n l k s. record {
      fuel = n;
      enough = l;
      at = k;
      stands = s;
      before = λ x. x;
      ms = no_more;
      is = whole (rest n k);
      joins = λ x. refl;
      wrote = wrote_none h;
      counts = omega arith;
    };
  }
    where
      whole : (a : Ans L) → a ≡ after (λ x. x) a
      whole (got l k) = refl
      whole (refuse n) = refl

  module _ {xs : List ℕ} {u base : ℕ} {c₀ : Cursor} {ys : List ℕ} {e total : ℕ} {c : Cursor} (g : Going xs u base c₀ ys e total c) where
    pub going_more : {zs : List ℕ} {f : ℕ} {d : Cursor} → {s : ℕ} → Room src xs u s c₀ → Turn ys e c zs f d → length zs ≡ length ys → Going xs u base c₀ zs f (total + 1) d
    going_more {zs} {f} {d} p t q =
        let o = g.on (8 * left c₀ + rank) (omega arith) p.place p.stands in
        let w = t.turn o.fuel o.enough o.at o.stands in
        let i : e + 1 ≤ f = omega (arith, w.wrote.ends, w.counts, sizes_least w.ms) in
        record {
          above = omega (arith, g.above);
          few = omega (arith, g.few);
          fewer = omega (arith, g.fewer, t.fewer);
          room = omega (arith, g.room, t.room);
          same = q ∙ g.same;
          on = λ n l k s.
              let a = g.on n l k s in
              let b = t.turn a.fuel a.enough a.at a.stands in
              record {
                fuel = b.fuel;
                enough = b.enough;
                at = b.at;
                stands = b.stands;
                before = λ x. a.before (b.before x);
                ms = join a.ms b.ms;
                is = a.is ∙ ap (after a.before) b.is ∙ after_after a.before b.before (rest b.fuel b.at);
                joins = λ x. a.joins (b.before x) ∙ ap (join a.ms) (b.joins x) ∙ sym (join_join a.ms b.ms (nodes x));
                wrote = wrote_more a.wrote b.wrote;
                counts = omega (arith, count_join a.ms b.ms, a.counts, b.counts);
              };
        }

    -- the room at the loop's head
    pub going_room : {s : ℕ} → Room src xs u s c₀ → Room src ys e s c
    going_room p =
        let o = g.on (8 * left c₀ + rank) (omega arith) p.place p.stands in
        record { place = o.at; stands = o.stands; short = p.short; small = omega (arith, g.same, p.small); room = omega (arith, g.same, g.room, p.room) }

    -- the rest is refused
    pub going_refused : {w : ℕ} → Refuses src rest (8 * left c + rank) c w → Refuses src rest (8 * left c₀ + rank) c₀ w
    going_refused h n l k s = let a = g.on n l k s in a.is ∙ ap (after a.before) (h a.fuel a.enough a.at a.stands)

  -- the list's end, with the nodes of its last part
  pub record Ended (xs : List ℕ) (u base : ℕ) (ys : List ℕ) (e total : ℕ) (d : Cursor) (a : Ans L) : Type 0 where
    pub value : L
    pub at : Place
    pub is : a ≡ got value at
    pub stands : Stands src d at
    pub wrote : Wrote xs u ys e (nodes value)
    pub counts : base + count (nodes value) ≡ total

  module _ {xs : List ℕ} {u base : ℕ} {c₀ : Cursor} {ys : List ℕ} {e total : ℕ} {c : Cursor} (g : Going xs u base c₀ ys e total c) where
    pub going_end : {zs : List ℕ} {f : ℕ} {d : Cursor} {more : ℕ} → ((n : ℕ) → 8 * left c + rank ≤ n → (k : Place) → Stands src c k → Ended ys e 0 zs f more d (rest n k))
        → {all : ℕ} → total + more ≡ all → (n : ℕ) → 8 * left c₀ + rank ≤ n → (k : Place) → Stands src c₀ k → Ended xs u base zs f all d (rest n k)
    going_end h q n l k s =
        let a = g.on n l k s in
        let b = h a.fuel a.enough a.at a.stands in
        record {
          value = a.before b.value;
          at = b.at;
          is = a.is ∙ ap (after a.before) b.is;
          stands = b.stands;
          wrote = rw (a.joins b.value) (wrote_more a.wrote b.wrote);
          counts = rw (a.joins b.value) (omega (arith, count_join a.ms (nodes b.value), a.counts, b.counts));
        }

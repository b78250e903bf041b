-- A loop over the members of a node that writes a piece for each: one law for all lists.
use mathlib.Core.Path.{◌≡◌, refl, ap}
use mathlib.Core.List.{List, []}
use Prim.Native.Nat.{ℕ, suc, ◌+◌, ◌≤◌, ◌<◌}
use native.Mathlib.Omega.{arith}
use lib.ListN.{length}
use Rattle.std.specs.Prelude.{Result, Ok, Err}
use Rattle.numbers.specs.Limits.{max_code}
use Rattle.numbers.specs.declared.refusal.Refusal.{Refusal}
use Rattle.tree.specs.Layout.{Node, Nodes, member, count, enc, encs, Stands}
use Rattle.tree.specs.Reading.{Two, two_at, After}
use Rattle.emission.specs.Pieces.{Piece, made, ◌⨾◌}
use Rattle.emission.specs.Draft.{Emits}
use Rattle.emission.specs.Drafting.{Sofar, so_same, so_then, so_stop, so_last, so_done}

-- a list that is not empty: its head and its tail
pub record Uncons {L A : Type 0} (nodes : L → Nodes) (node : A → Node) (gen : L → Piece) (gen_a : A → Piece) (In : L → Type 0) (InA : A → Type 0) (l : L) : Type 0 where
  pub head : A
  pub tail : L
  pub nodes_is : nodes l ≡ member (node head) (nodes tail)
  pub gen_is : (n : ℕ) → gen l n ≡ (gen_a head ⨾ gen tail) n
  pub head_in : In l → InA head
  pub tail_in : In l → In tail

-- lists of one kind: their members' nodes, what they become, what is known of their names, and what stands at a place;
-- and what they are part of
pub record Family : Type 1 where
  pub L : Type 0
  pub A : Type 0
  pub W : Type 0
  pub nodes : L → Nodes
  pub node : A → Node
  pub gen : L → Piece
  pub gen_a : A → Piece
  pub In : L → Type 0
  pub InA : A → Type 0
  pub uncons : (l : L) → 1 ≤ count (nodes l) → Uncons nodes node gen gen_a In InA l
  pub tr : List ℕ
  pub ItemAt : ℕ → A → Type 0
  pub item_at : (j : ℕ) (a : A) → Stands tr j (enc (node a)) → InA a → ItemAt j a
  pub whole : W → Piece
  pub Is : W → Type 0

-- how far the loop has come: k of N members are done, the next stands at j, past i, and the draft is written up to m
pub record Along (F : Family) (N i n₀ : ℕ) (ys₀ : List ℕ) (w : F.W) (k j m : ℕ) (ys : List ℕ) : Type 0 where
  pub rest : F.L
  pub counted : k + count (F.nodes rest) ≡ N
  pub stands : Stands F.tr j (encs (F.nodes rest))
  pub named : F.In rest
  pub so : Sofar (F.whole w) n₀ ys₀ (F.gen rest) m ys
  pub beyond : i < j

-- the loop's invariant
abbrev pub Loop : Family → ℕ → ℕ → ℕ → List ℕ → ℕ → ℕ → ℕ → List ℕ → Type 0
Loop F N i n₀ ys₀ k j m ys = (w : F.W) → F.Is w → Along F N i n₀ ys₀ w k j m ys

-- the next member
pub record NextAt (F : Family) (i j m : ℕ) : Type 0 where
  pub head : F.A
  pub stands : Stands F.tr j (enc (F.node head))
  pub at : F.ItemAt j head
  pub fits : j + 4 ≤ length F.tr
  pub beyond : i < j
  pub most : m ≤ max_code

member_count : (t : Node) (ts : Nodes) → count (member t ts) ≡ suc (count ts)
unfolding count
member_count t ts = refl

module _ (F : Family) (N i n₀ : ℕ) (ys₀ : List ℕ) (k j m : ℕ) (ys : List ℕ) (inv : Loop F N i n₀ ys₀ k j m ys) where
  -- where no member is left, the last piece is what an empty list becomes
  pub loop_last : (g : Piece) {zs : List ℕ} {r : Result ℕ Refusal} → ((l : F.L) → count (F.nodes l) ≡ 0 → (n : ℕ) → F.gen l n ≡ g n) → N ≤ k → Emits (g m) m ys zs r → (w : F.W) → F.Is w → Emits (F.whole w n₀) n₀ ys₀ zs r
  loop_last g f h v w s = let a = inv w s in so_last {g = g} (so_same {h = g} (f a.rest (omega (arith, a.counted)) m) a.so) v

  -- where no member is left, nothing is
  pub loop_done : ((l : F.L) → count (F.nodes l) ≡ 0 → (n : ℕ) → F.gen l n ≡ made []) → N ≤ k → (w : F.W) → F.Is w → Emits (F.whole w n₀) n₀ ys₀ ys (Ok m)
  loop_done f h w s = let a = inv w s in so_done (f a.rest (omega (arith, a.counted)) m) a.so

  module _ (h : k < N) where
    un : (w : F.W) (s : F.Is w) → Uncons F.nodes F.node F.gen F.gen_a F.In F.InA (inv w s).rest
    un w s = F.uncons (inv w s).rest (omega (arith, (inv w s).counted))

    parts : (w : F.W) (s : F.Is w) → Two F.tr j (F.node (un w s).head) (F.nodes (un w s).tail)
    parts w s = two_at F.tr j (F.node (un w s).head) (F.nodes (un w s).tail) (rw (un w s).nodes_is at (inv w s).stands)

    item : (w : F.W) (s : F.Is w) → F.ItemAt j (un w s).head
    item w s = F.item_at j (un w s).head (parts w s).one ((un w s).head_in (inv w s).named)

    pub loop_head : (w : F.W) → F.Is w → NextAt F i j m
    loop_head w s = record { head = (un w s).head; stands = (parts w s).one; at = item w s; fits = omega (arith, (parts w s).fits, (parts w s).least); beyond = (inv w s).beyond; most = (inv w s).so.most }

    next : (w : F.W) (s : F.Is w) → Sofar (F.whole w) n₀ ys₀ (F.gen_a (un w s).head ⨾ F.gen (un w s).tail) m ys
    next w s = so_same ((un w s).gen_is m) (inv w s).so

    -- it is refused
    pub loop_stop : {zs : List ℕ} (zs' : List ℕ) {e : Refusal} → ((a : F.A) → F.ItemAt j a → Emits (F.gen_a a m) m ys zs (Err e)) → (w : F.W) → F.Is w → Emits (F.whole w n₀) n₀ ys₀ zs' (Err e)
    loop_stop zs' ens w s = so_stop (F.gen_a (un w s).head) (F.gen (un w s).tail) (next w s) (ens (un w s).head (item w s))

    -- it is written, up to q
    pub loop_more : {zs : List ℕ} {q j' : ℕ} → ((a : F.A) → F.ItemAt j a → Emits (F.gen_a a m) m ys zs (Ok q)) → After F.tr j j' → Loop F N i n₀ ys₀ (k + 1) j' q zs
    loop_more ens f w s =
        let je = f (F.node (un w s).head) (parts w s).one in
        record {
          rest = (un w s).tail;
          counted = omega (arith, (inv w s).counted, ap count (un w s).nodes_is, member_count (F.node (un w s).head) (F.nodes (un w s).tail));
          stands = rw je (parts w s).others;
          named = (un w s).tail_in (inv w s).named;
          so = so_then (F.gen_a (un w s).head) (F.gen (un w s).tail) (next w s) (ens (un w s).head (item w s));
          beyond = omega (arith, (inv w s).beyond);
        }

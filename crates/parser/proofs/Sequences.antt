-- One reader after another: their nodes stand one after the other.
use mathlib.Core.Path.{◌≡◌, ap, ◌∙◌}
use mathlib.Core.List.{List}
use Prim.Native.Nat.{ℕ, ◌+◌, ◌*◌, ◌≤◌}
use native.Mathlib.Omega.{arith}
use Rattle.lexer.specs.Cursor.{Cursor as Place, got, Reader}
use Rattle.lexer.specs.Stands.{Stands, left}
use Rattle.lexer.specs.declared.cursor.Cursor.{Cursor}
use Rattle.tree.specs.Layout.{Nodes}
use Rattle.tree.specs.Writing.{join}
use Rattle.parser.specs.Answer.{Answer, Node, Nothing, Refused}
use Rattle.grammar.specs.Reader.{then}
use Rattle.parser.specs.Meets.{Safe, Means, Meets, Reads}
use Rattle.parser.proofs.Writing.{wrote_more}
use Rattle.parser.proofs.Answers.{Refuses, refused, grew, made}

-- more may be owed, and less be spared
pub owed : {A B : Type 0} {yes : A → B} {no : B → Type 0} {nodes : A → Nodes} {src xs : List ℕ} {u : ℕ} {ys : List ℕ} {f : ℕ → Reader B} {m spare debt : ℕ} {c : Cursor} (r : Answer) (spare' debt' : ℕ)
    → Meets yes no nodes src xs u ys f m spare debt c r → spare' + debt ≤ spare + debt' → Meets yes no nodes src xs u ys f m spare' debt' c r
unfolding Safe Means
owed (Node e d) spare' debt' h l = record { safe = record { above = h.safe.above; fewer = h.safe.fewer; room = omega (arith, h.safe.room) }; means = h.means }
owed (Nothing d) spare' debt' h l = record { safe = h.safe; means = h.means }
owed (Refused w) spare' debt' h l = record { safe = h.safe; means = h.means }

-- `both` reads by `first` and then by `second`
pub record Sequence {A B D : Type 0} (first : ℕ → Reader A) (second : ℕ → Reader B) (both : ℕ → Reader D) (pair : A → B → D) : Type 0 where
  pub whole : (n : ℕ) (k : Place) → both n k ≡ then (λ a k. then (λ b k. got (pair a b) k) (second n k)) (first n k)

-- and so do the nodes follow each other
pub record Joins {A B D : Type 0} (nodesA : A → Nodes) (nodesB : B → Nodes) (nodesD : D → Nodes) (pair : A → B → D) : Type 0 where
  pub joins : (a : A) (b : B) → nodesD (pair a b) ≡ join (nodesA a) (nodesB b)

module _ {A B D : Type 0} {first : ℕ → Reader A} {second : ℕ → Reader B} {both : ℕ → Reader D} {pair : A → B → D} (is : Sequence first second both pair) where
  -- the first is refused
  pub first_refused : {src : List ℕ} {c : Cursor} {m m' w : ℕ} → m ≤ m' → Refuses src first m c w → Refuses src both m' c w
  first_refused l z n b k s = is.whole n k ∙ ap (then _) (z n (omega arith) k s)

  module _ {nodesA : A → Nodes} {nodesB : B → Nodes} {nodesD : D → Nodes} (to : Joins nodesA nodesB nodesD pair) {src xs ys zs : List ℕ} {u e : ℕ} {c d : Cursor} {r : Answer} {i j m s s' o o' : ℕ}
      (h : Reads nodesA src xs u ys first (8 * left c + i) s o c r) (q : r ≡ Node e d) (place : Place) (stands : Stands src c place) where
    -- the first is there, and the second's answer is the whole's
    pub second_done : (t : Answer) (s'' o'' : ℕ) → Reads nodesB src ys e zs second (8 * left d + j) s' o' d t → i ≤ m → j ≤ m → s'' + o + o' ≤ s + s' + o'' → Reads nodesD src xs u zs both (8 * left c + m) s'' o'' c t
    unfolding Safe Means
    second_done (Node f t) s'' o'' p a b l =
        let g = grew h q in
        record {
          safe = record { above = omega (arith, g.above, p.safe.above); fewer = omega (arith, g.fewer, p.safe.fewer); room = omega (arith, g.room, p.safe.room) };
          means = λ n x k y.
              let v = made h q n (omega arith) k y in
              let w = p.means n (omega (arith, g.fewer)) v.at v.stands in
              record {
                value = pair v.value w.value;
                at = w.at;
                is = is.whole n k ∙ ap (then _) v.is ∙ ap (then _) w.is;
                stands = w.stands;
                wrote = rw (to.joins v.value w.value) (wrote_more v.wrote w.wrote);
              };
        }
    second_done (Nothing t) s'' o'' p a b l =
        let v = made h q (8 * left c + i) (omega arith) place stands in
        absurd (p.means (8 * left d + j) (omega arith) v.at v.stands).empty
    second_done (Refused w) s'' o'' p a b l =
        refused
        (λ n x k y.
        let v = made h q n (omega arith) k y in
        is.whole n k ∙ ap (then _) v.is ∙ ap (then _) (p.means n (omega (arith, (grew h q).fewer)) v.at v.stands))

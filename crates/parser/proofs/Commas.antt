-- Lists with commas, up to the mark after them: what a turn of the loop and its end come to.
use Rattle.std.specs.Prelude.{Ok, Err}
use mathlib.Core.Path.{◌≡◌, refl, ap, ◌∙◌}
use mathlib.Core.List.{List, [], ◌∷◌}
use Prim.Native.Nat.{ℕ, suc, ◌+◌, ◌*◌, ◌≤◌}
use native.Mathlib.Omega.{arith}
use Rattle.numbers.specs.declared.refusal.Refusal.{Refusal}
use Rattle.numbers.specs.Refusals.{number_of}
use Rattle.lexer.specs.Marks.{Mark, comma_sign}
use Rattle.lexer.specs.Cursor.{Cursor as Place, refuse, Reader}
use Rattle.lexer.specs.Spelling.{token_of}
use Rattle.lexer.specs.Stands.{Stands, taken, past, left}
use Rattle.lexer.specs.declared.cursor.Cursor.{Cursor}
use Rattle.tree.specs.Layout.{NodeKind, Node as Knot, branch, node_no, count}
use Rattle.tree.specs.Nodes.{list_nodes}
use Rattle.tree.specs.Reading.{sizes_least}
use Rattle.tree.specs.Writing.{join}
use Rattle.parser.specs.Answer.{Answer, Node, Nothing, Refused}
use Rattle.grammar.specs.Reader.{then, commas}
use Rattle.parser.specs.Parts.{only}
use Rattle.parser.specs.Lists.{closed, Ended as Closing, Ends}
use Rattle.parser.specs.See.{Seen, Sees, Wants}
use Rattle.parser.specs.Written.{Seals}
use Rattle.parser.specs.Meets.{Grew, Safe, Made, Means, Reads}
use Rattle.parser.proofs.Seeing.{saw, no_look, took, no_mark, next_is, next_is_not}
use Rattle.parser.proofs.Answers.{Refuses, by_suc, refused}
use Rattle.parser.proofs.Choices.{next_refused}
use Rattle.parser.proofs.Loops.{On, Turn, Ended}

-- the mark after a list
module _ {src : List ℕ} {m : Mark} {u kind n end : ℕ} {c : Cursor} {v : Seen} (h : Wants src m c v) where
  pub ends_refused : {ys : List ℕ} {x : Refusal} → v ≡ Err x → Ends src m u kind n end ys ys c (Refused (number_of x))
  unfolding Closing
  ends_refused e = record { ended = λ k s. no_mark h e k s }

  pub ends_node : {ys zs : List ℕ} {d : Cursor} → v ≡ Ok d → Seals u kind 0 n end ys zs → Ends src m u kind n end ys zs c (Node end d)
  unfolding Closing
  ends_node e z = record { ended = (refl, (z, λ k s. took h e k s)) }

module _ {A : Type 0} (src : List ℕ) (item : Reader A) (node : A → Knot) where
  -- a member that is there
  abbrev pub Member : (ys : List ℕ) → ℕ → (zs : List ℕ) → ℕ → Cursor → Cursor → Type 0
  Member ys e zs f c d = (k : Place) → Stands src c k → Made (λ a. a) (λ v. ⊥) (λ a. only (node a)) src ys e zs f d (item k)

  abbrev pub rest : ℕ → Reader (List A)
  rest n = commas src n item

  -- one that is refused
  pub member_refused : {c : Cursor} {w : ℕ} → ((k : Place) → Stands src c k → item k ≡ refuse w) → Refuses src rest (8 * left c + 1) c w
  unfolding commas
  member_refused {c} {w} z = by_suc (λ x. (k : Place) → Stands src c k → rest x k ≡ refuse w) (8 * left c + 1) (omega arith) (λ x l k s. ap (then _) (z k s))

  -- a member takes room
  pub member_more : {ys zs : List ℕ} {e f : ℕ} {c d : Cursor} → Member ys e zs f c d → (k : Place) → Stands src c k → e + 1 ≤ f
  unfolding count
  member_more it k s = let b = it k s in omega (arith, b.wrote.ends, sizes_least (only (node b.value)))

  module _ {ys zs : List ℕ} {e f : ℕ} {c d : Cursor} (it : Member ys e zs f c d) {v : Seen} (h : Sees src d v) where
    -- the token after it is refused
    pub comma_stop : {n : Refusal} → v ≡ Err n → Refuses src rest (8 * left c + 1) c (number_of n)
    unfolding commas
    comma_stop {n} q =
        by_suc (λ x. (k : Place) → Stands src c k → rest x k ≡ refuse (number_of n)) (8 * left c + 1) (omega arith)
        (λ x l k s. let b = it k s in ap (then _) b.is ∙ next_refused src comma_sign _ _ b.at (no_look h q b.at b.stands))

    module _ {g : Cursor} (at : v ≡ Ok g) where
      -- a comma: the loop goes on
      pub comma_turn : {spare : ℕ} {t : Cursor} → g.token ≡ token_of comma_sign → t ≡ taken g → suc (left t) ≡ left d → Grew spare 0 e c f d → Turn rest (list_nodes node) src 1 ys e c zs f t
      unfolding commas list_nodes join count
      comma_turn {spare} {t} i q fw w = record {
        above = w.above;
        fewer = omega (arith, w.fewer);
        room = omega (arith, w.room);
        turn = by_suc (λ x. (k : Place) → Stands src c k → On rest (list_nodes node) src 1 ys e 0 zs f 1 t (rest x k)) (8 * left c + 1) (omega arith)
            (λ x l k s.
            let b = it k s in
            let p = (saw h at b.at b.stands).1 in
            record {
              fuel = x;
              enough = omega (arith, w.fewer);
              at = past src b.at;
              stands = rw q p.beyond;
              before = λ l. b.value ∷ l;
              ms = only (node b.value);
              is = ap (then _) b.is ∙ next_is p comma_sign _ _ i;
              joins = λ l. refl;
              wrote = b.wrote;
              counts = refl;
            });
      }

      -- no comma: that was the last
      pub comma_end : (g.token ≡ token_of comma_sign → ⊥) → (n : ℕ) → 8 * left c + 1 ≤ n → (k : Place) → Stands src c k → Ended rest (list_nodes node) src 1 ys e 0 zs f 1 g (rest n k)
      unfolding commas list_nodes count
      comma_end i =
          by_suc (λ x. (k : Place) → Stands src c k → Ended rest (list_nodes node) src 1 ys e 0 zs f 1 g (rest x k)) (8 * left c + 1) (omega arith)
          (λ x l k s.
          let b = it k s in
          let p = (saw h at b.at b.stands).1 in
          record {
            value = b.value ∷ [];
            at = b.at;
            is = ap (then _) b.is ∙ next_is_not p comma_sign _ _ i;
            stands = p.stands;
            wrote = b.wrote;
            counts = refl;
          })

  -- the whole list, with the mark m after it
  module _ (m : Mark) where
    pub list_refused : {c : Cursor} {w : ℕ} → Refuses src rest (8 * left c + 1) c w → Refuses src (closed src m item) (8 * left c + 1) c w
    list_refused z n l k s = ap (then _) (z n l k s)

    module _ {kind u n end : ℕ} {xs zs ws : List ℕ} {c g : Cursor}
        (all : (n' : ℕ) → 8 * left c + 1 ≤ n' → (k : Place) → Stands src c k → Ended rest (list_nodes node) src 1 xs (u + 4) 0 zs end n g (rest n' k))
        (above : u + 4 ≤ end) (fewer : left g ≤ left c) (room : end + 12 * left g ≤ u + 4 + 12 * left c) (place : Place) (stands : Stands src c place) where
      pub list_ended : (r : Answer) → Ends src m u kind n end zs ws g r → (nk : NodeKind) → kind ≡ node_no nk → Reads (λ l. only (branch nk 0 (list_nodes node l))) src xs u ws (closed src m item) (8 * left c + 1) 8 0 c r
      unfolding Closing Safe Means
      list_ended (Node e d) h nk q =
          let z = h.ended in
          let one = all (8 * left c + 1) (omega arith) place stands in
          let t = z.1.1 one.at one.stands in
          record {
            safe = record { above = omega (arith, z.0); fewer = omega (arith, t.fewer); room = omega (arith, z.0, t.fewer) };
            means = λ x l k s.
                let b = all x l k s in
                let w = z.1.1 b.at b.stands in
                record {
                  value = b.value;
                  at = past src b.at;
                  is = ap (then _) b.is ∙ ap (then _) w.wants;
                  stands = w.stands;
                  wrote = rw z.0 (z.1.0.sealed xs nk (list_nodes node b.value) q (omega (arith, b.counts)) b.wrote);
                };
          }
      list_ended (Nothing d) h nk q = absurd h.ended
      list_ended (Refused w) h nk q = refused (λ x l k s. let b = all x l k s in ap (then _) b.is ∙ ap (then _) (h.ended b.at b.stands))

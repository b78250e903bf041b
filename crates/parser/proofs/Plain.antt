-- Statements that hold no statement.
use Rattle.std.specs.Prelude.{Ok, Err}
use mathlib.Core.Path.{◌≡◌, refl, sym, ap, subst, ◌∙◌}
use mathlib.Core.List.{List, []}
use mathlib.Core.Option.{Option, some}
use Prim.Native.Nat.{ℕ, suc, ◌+◌, ◌*◌, ◌≤◌}
use native.Mathlib.Omega.{arith}
use Rattle.numbers.specs.Limits.{tree_share}
use Rattle.numbers.specs.declared.refusal.Refusal.{Refusal}
use Rattle.numbers.specs.Refusals.{number_of}
use Rattle.lexer.specs.Marks.{Mark, open_sign, close_sign, becomes_sign}
use Rattle.lexer.specs.Tokens.{Name}
use Rattle.lexer.specs.Cursor.{Cursor as Place, Ans, got, refuse, Reader}
use Rattle.lexer.specs.Spelling.{token_of}
use Rattle.lexer.specs.Stands.{Stands, taken, past, left}
use Rattle.lexer.specs.declared.cursor.Cursor.{Cursor}
use Rattle.tree.specs.Tree.{Stmt, assign, call, read_s, write_s}
use Rattle.tree.specs.Layout.{Nodes, member, node_no, assign_kind, call_kind, count}
use Rattle.tree.specs.Nodes.{name_node, exp_nodes, list_nodes, stmt_node}
use Rattle.tree.specs.Writing.{join}
use Rattle.parser.specs.Answer.{Answer, Node, Nothing, Refused}
use Rattle.grammar.specs.Reader.{then, want, want_name, commas}
use Rattle.grammar.specs.Grammar.{exp}
use Rattle.parser.specs.Parts.{only, operand}
use Rattle.parser.specs.Pieces.{statement, assigned, called, reading, writing}
use Rattle.parser.specs.Lists.{closed, Ended as Closing, Ends}
use Rattle.parser.specs.Arguments.{Argues}
use Rattle.parser.specs.Written.{Wrote, Seals}
use Rattle.parser.specs.See.{Seen, Sees, Wants}
use Rattle.parser.specs.Meets.{Room, Safe, Means, Reads, Tries}
use Rattle.parser.proofs.Seeing.{saw, no_look, took, no_mark, next_is, next_is_not}
use Rattle.parser.proofs.Writing.{wrote_more}
use Rattle.parser.proofs.Answers.{Refuses, refused, grew, made, Moved}
use Rattle.parser.proofs.Choices.{then_then, then_same, next_refused}
use Rattle.parser.proofs.Loops.{Ended}
use Rattle.tree.specs.Writing.{count_join}

module _ (src : List ℕ) (o : ℕ) (x : Name) {c : Cursor} {v : Seen} (w : Wants src becomes_sign c v) where
  pub assigned_stop : {n : Refusal} → v ≡ Err n → Refuses src (λ n. assigned src x n o) (8 * left c + 3) c (number_of n)
  unfolding assigned
  assigned_stop e n l k s = ap (then _) (no_mark w e k s)

  module _ {t : Cursor} (at : v ≡ Ok t) where
    pub assigned_in : {m : ℕ} → Refuses src (λ n. exp src n o) (8 * left t + 3) t m → Refuses src (λ n. assigned src x n o) (8 * left c + 3) c m
    unfolding assigned
    assigned_in z n l k s = let y = took w at k s in ap (then _) y.wants ∙ ap (then _) (z n (omega (arith, y.fewer)) (past src k) y.stands)

    pub assigned_done : (u : ℕ) {xs ys zs ws : List ℕ} {i end : ℕ} {d : Cursor} {r : Answer} → Wrote xs (u + 4) ys i (only (name_node x)) → i ≡ u + 8 → suc (left t) ≡ left c
        → Reads (operand 0) src ys i zs (λ n. exp src n o) (8 * left t + 3) 0 0 t r → r ≡ Node end d → Seals u (node_no assign_kind) 0 2 end zs ws
        → Tries statement src xs u ws (λ n. assigned src x n o) (8 * left c + 3) 4 0 c (Node end d)
    unfolding assigned Safe Means stmt_node join count
    assigned_done u {xs} named is fw h q z =
        let g = grew h q in
        record {
          safe = record { above = omega (arith, g.above); fewer = omega (arith, g.fewer); room = omega (arith, g.room) };
          means = λ n l k s.
              let y = took w at k s in
              let b = made h q n (omega arith) (past src k) y.stands in
              record {
                value = assign x b.value;
                at = b.at;
                is = ap (then _) y.wants ∙ ap (then _) b.is;
                stands = b.stands;
                wrote = z.sealed xs assign_kind (member (name_node x) (operand 0 b.value)) refl refl (wrote_more named b.wrote);
              };
        }

-- what is read is the whole of a statement
pub mapped : {A : Type 0} {nodes : A → Nodes} {src xs : List ℕ} {u : ℕ} {ys : List ℕ} {f : ℕ → Reader A} {f' : ℕ → Reader (Option Stmt)} {m m' spare spare' debt debt' : ℕ} {c c' : Cursor} {v s : ℕ} {zs : List ℕ}
    → Room src zs v s c → (g : A → Stmt) → ((a : A) → nodes a ≡ statement (g a)) → (r : Answer) → left c ≤ left c' → spare' + debt + tree_share * left c ≤ spare + debt' + tree_share * left c'
    → ((n : ℕ) → m' ≤ n → (k : Place) → Stands src c' k → Moved src (λ n k. then (λ a k. got (some (g a)) k) (f n k)) m c (f' n k))
    → Reads nodes src xs u ys f m spare debt c r → Tries statement src xs u ys f' m' spare' debt' c' r
unfolding Safe Means
mapped {src = src} {xs = xs} {u = u} {ys = ys} {m = m} p g e (Node end d) l a t h = record {
  safe = let w = grew h refl in record { above = w.above; fewer = omega (arith, w.fewer); room = omega (arith, w.room) };
  means = λ n b k s.
      let o = t n b k s in
      let x = made h refl o.fuel o.enough o.at o.stands in
      record { value = g x.value; at = x.at; is = o.is ∙ ap (then _) x.is; stands = x.stands; wrote = subst (λ (ns : Nodes). Wrote xs u ys end ns) (e x.value) x.wrote };
}
mapped {m = m} p g e (Nothing d) l a t h = absurd (h.means m (omega arith) p.place p.stands).empty
mapped p g e (Refused w) l a t h = refused (λ n b k s. let o = t n b k s in o.is ∙ ap (then _) (h.means o.fuel o.enough o.at o.stands))

-- a list and the mark after it, and then the value
closing : {A B : Type 0} (src : List ℕ) (m : Mark) (g : A → B) (a : Ans A)
    → then (λ l k. then (λ u k. got (g l) k) (want src m k)) a ≡ then (λ l k. got (g l) k) (then (λ l k. then (λ u k. got l k) (want src m k)) a)
closing src m g a = sym (then_then _ _ a ∙ then_same _ _ (λ l k. then_then _ _ (want src m k)) a)

module _ (src : List ℕ) (o : ℕ) where
  -- `read` and `write`
  module _ {c : Cursor} {v : Seen} (w : Wants src open_sign c v) where
    pub reading_stop : {n : Refusal} → v ≡ Err n → Refuses src (λ n. reading src n o) (8 * left c + 3) c (number_of n)
    unfolding reading
    reading_stop e n l k s = ap (then _) (no_mark w e k s)

    pub writing_stop : {n : Refusal} → v ≡ Err n → Refuses src (λ n. writing src n o) (8 * left c + 3) c (number_of n)
    unfolding writing
    writing_stop e n l k s = ap (then _) (no_mark w e k s)

    module _ {t : Cursor} (at : v ≡ Ok t) where
      pub reading_moved : (n : ℕ) → 8 * left c + 3 ≤ n → (k : Place) → Stands src c k → Moved src (λ n k. then (λ a k. got (some (read_s a)) k) (closed src close_sign (want_name src) n k)) (8 * left t + 1) t (reading src n o k)
      unfolding reading
      reading_moved n l k s =
          let y = took w at k s in
          record { fuel = n; enough = omega (arith, y.fewer); at = past src k; stands = y.stands; is = ap (then _) y.wants ∙ closing src close_sign (λ a. some (read_s a)) (commas src n (want_name src) (past src k)) }

      pub writing_moved : (n : ℕ) → 8 * left c + 3 ≤ n → (k : Place) → Stands src c k → Moved src (λ n k. then (λ a k. got (some (write_s a)) k) (closed src close_sign (exp src n o) n k)) (8 * left t + 3) t (writing src n o k)
      unfolding writing
      writing_moved n l k s =
          let y = took w at k s in
          record { fuel = n; enough = omega (arith, y.fewer); at = past src k; stands = y.stands; is = ap (then _) y.wants ∙ closing src close_sign (λ a. some (write_s a)) (commas src n (exp src n o) (past src k)) }

  -- `call`
  pub called_refused : {c : Cursor} {m : ℕ} → Refuses src (λ n. want_name src) 0 c m → Refuses src (λ n. called src n o) (8 * left c + 3) c m
  unfolding called
  called_refused z n l k s = ap (then _) (z n (omega arith) k s)

  module _ (u : ℕ) {xs ys : List ℕ} {i : ℕ} {c d : Cursor} {r : Answer} (h : Reads (λ n. only (name_node n)) src xs (u + 4) ys (λ n. want_name src) 0 8 0 c r) (q : r ≡ Node i d) {v : Seen} (w : Wants src open_sign d v) where
    pub called_stop : {n : Refusal} → v ≡ Err n → Refuses src (λ n. called src n o) (8 * left c + 3) c (number_of n)
    unfolding called
    called_stop e n l k s = let b = made h q n (omega arith) k s in ap (then _) b.is ∙ ap (then _) (no_mark w e b.at b.stands)

    module _ {t : Cursor} (at : v ≡ Ok t) {v' : Seen} (y : Sees src t v') where
      pub called_look : {n : Refusal} → v' ≡ Err n → Refuses src (λ n. called src n o) (8 * left c + 3) c (number_of n)
      unfolding called
      called_look e n l k s =
          let b = made h q n (omega arith) k s in
          let x = took w at b.at b.stands in
          ap (then _) b.is ∙ ap (then _) x.wants ∙ next_refused src close_sign _ _ (past src b.at) (no_look y e (past src b.at) x.stands)

      module _ {e : Cursor} (at' : v' ≡ Ok e) (fw : suc (left t) ≡ left d) where
        -- no arguments
        pub called_none : e.token ≡ token_of close_sign → {f : Cursor} → f ≡ taken e → suc (left f) ≡ left t → {zs : List ℕ} → Seals u (node_no call_kind) 0 1 i ys zs
            → Tries statement src xs u zs (λ n. called src n o) (8 * left c + 3) 8 0 c (Node i f)
        unfolding called Safe Means stmt_node list_nodes count
        called_none is {f} tk fw' z =
            let g = grew h q in
            record {
              safe = record { above = omega (arith, g.above); fewer = omega (arith, g.fewer); room = omega (arith, g.room) };
              means = λ n l k s.
                  let b = made h q n (omega arith) k s in
                  let x = took w at b.at b.stands in
                  let p = (saw y at' (past src b.at) x.stands).1 in
                  record {
                    value = call b.value [];
                    at = past src (past src b.at);
                    is = ap (then _) b.is ∙ ap (then _) x.wants ∙ next_is p close_sign _ _ is;
                    stands = rw tk p.beyond;
                    wrote = z.sealed xs call_kind (only (name_node b.value)) refl refl b.wrote;
                  };
            }

        -- arguments
        pub called_some : (e.token ≡ token_of close_sign → ⊥) → left e ≡ left t → {v₀ s₀ : ℕ} {zs₀ : List ℕ} → Room src zs₀ v₀ s₀ c → {zs : List ℕ} (r' : Answer) → Argues src o u (node_no call_kind) 1 i ys zs e r'
            → Tries statement src xs u zs (λ n. called src n o) (8 * left c + 3) 8 0 c r'
        unfolding called Safe Means stmt_node join count
        called_some is-not same p₀ {zs} (Node j f) a =
            let g = grew h q in
            let b₀ = made h q 0 (omega arith) p₀.place p₀.stands in
            let g' = grew (a.argues call_kind refl xs (only (name_node b₀.value)) refl b₀.wrote) refl in
            record {
              safe = record { above = g'.above; fewer = omega (arith, g.fewer, g'.fewer); room = omega (arith, g.room, g.above, g'.room) };
              means = λ n l k s.
                  let b = made h q n (omega arith) k s in
                  let x = took w at b.at b.stands in
                  let p = (saw y at' (past src b.at) x.stands).1 in
                  let m = made (a.argues call_kind refl xs (only (name_node b.value)) refl b.wrote) refl n (omega (arith, g.fewer)) (past src b.at) p.stands in
                  record {
                    value = call b.value m.value;
                    at = m.at;
                    is = ap (then _) b.is ∙ ap (then _) x.wants ∙ next_is_not p close_sign _ _ is-not ∙ closing src close_sign (λ a. some (call b.value a)) (commas src n (exp src n o) (past src b.at)) ∙ ap (then _) m.is;
                    stands = m.stands;
                    wrote = m.wrote;
                  };
            }
        called_some is-not same p₀ {zs} (Nothing f) a =
            let b₀ = made h q 0 (omega arith) p₀.place p₀.stands in
            let x = took w at b₀.at b₀.stands in
            let p = (saw y at' (past src b₀.at) x.stands).1 in
            absurd ((a.argues call_kind refl xs (only (name_node b₀.value)) refl b₀.wrote).means (8 * left e + 3) (omega arith) (past src b₀.at) p.stands).empty
        called_some is-not same p₀ {zs} (Refused j) a =
            refused
            (λ n l k s.
            let g = grew h q in
            let b = made h q n (omega arith) k s in
            let x = took w at b.at b.stands in
            let p = (saw y at' (past src b.at) x.stands).1 in
            let m = (a.argues call_kind refl xs (only (name_node b.value)) refl b.wrote).means n (omega (arith, g.fewer)) (past src b.at) p.stands in
            ap (then _) b.is ∙ ap (then _) x.wants ∙ next_is_not p close_sign _ _ is-not ∙ closing src close_sign (λ a. some (call b.value a)) (commas src n (exp src n o) (past src b.at)) ∙ ap (then _) m)

  -- the end of a list of expressions
  module _ {u kind before from total end : ℕ} {ys zs ws : List ℕ} {c g : Cursor}
      (all : (n : ℕ) → 8 * left c + 3 ≤ n → (k : Place) → Stands src c k → Ended (λ m. commas src m (exp src n o)) exp_nodes src 1 ys from before zs end total g (commas src n (exp src n o) k))
      (start : u + 4 ≤ from) (above : from ≤ end) (fewer : left g ≤ left c) (room : end + tree_share * left g ≤ from + tree_share * left c) (place : Place) (stands : Stands src c place) where
    pub argues_ended : (r : Answer) → Ends src close_sign u kind total end zs ws g r → Argues src o u kind before from ys ws c r
    unfolding Closing Safe Means
    argues_ended (Node e d) h = record {
      argues = λ nk q xs ms n w.
          let z = h.ended in
          let one = all (8 * left c + 3) (omega arith) place stands in
          let t = z.1.1 one.at one.stands in
          record {
            safe = record { above = omega (arith, z.0); fewer = omega (arith, t.fewer); room = omega (arith, z.0, t.fewer) };
            means = λ x l k s.
                let b = all x l k s in
                let y = z.1.1 b.at b.stands in
                record {
                  value = b.value;
                  at = past src b.at;
                  is = ap (then _) b.is ∙ ap (then _) y.wants;
                  stands = y.stands;
                  wrote = rw z.0 (z.1.0.sealed xs nk (join ms (exp_nodes b.value)) q (omega (arith, b.counts, count_join ms (exp_nodes b.value))) (wrote_more w b.wrote));
                };
          };
    }
    argues_ended (Nothing d) h = absurd h.ended
    argues_ended (Refused w) h = record { argues = λ nk q xs ms n y. refused (λ x l k s. let b = all x l k s in ap (then _) b.is ∙ ap (then _) (h.ended b.at b.stands)) }

  -- a refusal in it
  pub argues_refused : {u kind before from m : ℕ} {ys zs : List ℕ} {c : Cursor} → ((n : ℕ) → 8 * left c + 3 ≤ n → (k : Place) → Stands src c k → commas src n (exp src n o) k ≡ refuse m) → Argues src o u kind before from ys zs c (Refused m)
  argues_refused z = record { argues = λ nk q xs ms n w. refused (λ x l k s. ap (then _) (z x l k s)) }

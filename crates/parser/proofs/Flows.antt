-- Statements that hold statements, and bodies.
use Rattle.std.specs.Prelude.{Ok, Err, Option as Perhaps}
use mathlib.Core.Path.{◌≡◌, refl, sym, ap, ◌∙◌}
use mathlib.Core.List.{List}
use mathlib.Core.Option.{Option, none, some}
use Prim.Native.Nat.{ℕ, suc, ◌+◌, ◌*◌, ◌≤◌}
use native.Mathlib.Omega.{arith}
use Rattle.numbers.specs.declared.refusal.Refusal.{Refusal}
use Rattle.numbers.specs.Refusals.{number_of}
use Rattle.lexer.specs.Marks.{then_word, else_word, do_word}
use Rattle.lexer.specs.Cursor.{Cursor as Place, got}
use Rattle.lexer.specs.Spelling.{token_of}
use Rattle.lexer.specs.Stands.{Stands, taken, past, left}
use Rattle.lexer.specs.declared.cursor.Cursor.{Cursor}
use Rattle.tree.specs.Tree.{Cond, Stmt, if_then, if_else, while}
use Rattle.tree.specs.Layout.{member, node_no, if_kind, while_kind, count}
use Rattle.tree.specs.Nodes.{cond_node, stmt_node}
use Rattle.tree.specs.Writing.{join}
use Rattle.parser.specs.Answer.{Answer, Node, Nothing, try_of}
use Rattle.grammar.specs.Reader.{then, if_next}
use Rattle.grammar.specs.Grammar.{cond, stmt, if_node, map_o}
use Rattle.parser.specs.Parts.{condition}
use Rattle.parser.specs.Pieces.{statement, looped, conditional, else_part}
use Rattle.parser.specs.Written.{Wrote, Seals}
use Rattle.parser.specs.See.{Seen, Sees, Wants}
use Rattle.parser.specs.Meets.{Room, Safe, Means, Reads, Tries}
use Rattle.parser.proofs.Seeing.{saw, no_look, took, no_mark, next_is, next_is_not}
use Rattle.parser.proofs.Writing.{wrote_none, wrote_more, wrote_kept}
use Rattle.parser.proofs.Answers.{Refuses, grew, made, Moved}
use Rattle.parser.proofs.Tries.{quiet, quiet_left, try_left, went, Quietly, nothing}
use Rattle.parser.proofs.Choices.{then_same, next_refused, next_then}

-- nothing stays nothing
still_none : {A B : Type 0} (g : A → B) (v : Option A) → v ≡ none → map_o g v ≡ none
unfolding map_o
still_none g v e = rw e

module _ (src : List ℕ) (o : ℕ) where
  -- `while`
  pub looped_refused : {w : ℕ} {c : Cursor} → Refuses src (λ n. cond src n o) (8 * left c + 3) c w → Refuses src (λ n. looped src n o) (8 * left c + 3) c w
  unfolding looped
  looped_refused z n l k s = ap (then _) (z n l k s)

  module _ (u : ℕ) {xs ys : List ℕ} {i : ℕ} {c d : Cursor} {r : Answer} (h : Reads condition src xs (u + 4) ys (λ n. cond src n o) (8 * left c + 3) 8 0 c r) (q : r ≡ Node i d) {v : Seen} where
    module _ (w : Wants src do_word d v) where
      pub looped_stop : {n : Refusal} → v ≡ Err n → Refuses src (λ n. looped src n o) (8 * left c + 3) c (number_of n)
      unfolding looped
      looped_stop e n l k s = let b = made h q n l k s in ap (then _) b.is ∙ ap (then _) (no_mark w e b.at b.stands)

      module _ {t : Cursor} (at : v ≡ Ok t) (less : suc (left t) ≡ left d) where
        pub looped_in : {x : ℕ} → Refuses src (λ n. stmt src n o) (8 * left t + 3) t x → Refuses src (λ n. looped src n o) (8 * left c + 3) c x
        unfolding looped
        looped_in z n l k s =
            let b = made h q n l k s in
            let y = took w at b.at b.stands in
            ap (then _) b.is ∙ ap (then _) y.wants ∙ ap (then _) (z n (omega (arith, (grew h q).fewer)) (past src b.at) y.stands)

        pub looped_quiet : {zs : List ℕ} (e : Cursor) → Quietly some (λ v. v ≡ none) statement src ys i zs (λ n. stmt src n o) (8 * left t + 3) t e
            → Quietly some (λ v. v ≡ none) statement src xs u zs (λ n. looped src n o) (8 * left c + 3) c e
        unfolding looped
        looped_quiet e z n l k s =
            let b = made h q n l k s in
            let y = took w at b.at b.stands in
            let x = z n (omega (arith, (grew h q).fewer)) (past src b.at) y.stands in
            record {
              value = map_o (while b.value) x.value;
              empty = still_none (while b.value) x.value x.empty;
              at = x.at;
              is = ap (then _) b.is ∙ ap (then _) y.wants ∙ ap (then _) x.is;
              stands = x.stands;
              wrote = wrote_kept u (omega arith) (wrote_more b.wrote x.wrote);
            }

        pub looped_done : {zs ws : List ℕ} {end : ℕ} {e : Cursor} {r' : Answer} → Tries statement src ys i zs (λ n. stmt src n o) (8 * left t + 3) 8 0 t r' → r' ≡ Node end e → Seals u (node_no while_kind) 0 2 end zs ws
            → Tries statement src xs u ws (λ n. looped src n o) (8 * left c + 3) 8 0 c (Node end e)
        unfolding looped Safe Means stmt_node join count map_o
        looped_done {zs} {ws} {end} {e} h' q' z =
            let g = grew h q in
            let g' = grew h' q' in
            record {
              safe = record { above = omega (arith, g.above, g'.above); fewer = omega (arith, g.fewer, g'.fewer); room = omega (arith, g.room, g'.room) };
              means = λ n l k s.
                  let b = made h q n l k s in
                  let y = took w at b.at b.stands in
                  let x = made h' q' n (omega (arith, g.fewer)) (past src b.at) y.stands in
                  record {
                    value = while b.value x.value;
                    at = x.at;
                    is = ap (then _) b.is ∙ ap (then _) y.wants ∙ ap (then _) x.is;
                    stands = x.stands;
                    wrote = z.sealed xs while_kind (member (cond_node b.value) (statement x.value)) refl refl (wrote_more b.wrote x.wrote);
                  };
            }

  -- [`else` st]
  pub else_refused : {c : Cursor} {v : Seen} {n : Refusal} → Sees src c v → v ≡ Err n → Refuses src (λ n. else_part src n o) (8 * left c + 3) c (number_of n)
  unfolding else_part
  else_refused h e n l k s = next_refused src else_word _ _ k (no_look h e k s)

  module _ {c d : Cursor} {v : Seen} (h : Sees src c v) (at : v ≡ Ok d) where
    pub else_absent : (d.token ≡ token_of else_word → ⊥) → {xs : List ℕ} {u : ℕ} → Room src xs u 0 c → Tries statement src xs u xs (λ n. else_part src n o) (8 * left c + 3) 8 0 c (Nothing d)
    unfolding else_part
    else_absent i p =
        nothing (omega (arith, (saw h at p.place p.stands).1.same))
        (λ n l k s. let y = (saw h at k s).1 in record { value = none; empty = refl; at = k; is = next_is_not y else_word _ _ i; stands = y.stands; wrote = wrote_none (omega (arith, p.room)) })

    pub else_there : {t : Cursor} → t ≡ taken d → d.token ≡ token_of else_word → (n : ℕ) → 8 * left c + 3 ≤ n → (k : Place) → Stands src c k → Moved src (λ n. stmt src n o) (8 * left t + 3) t (else_part src n o k)
    unfolding else_part
    else_there {t} e i n l k s =
        let p = (saw h at k s).1 in
        let f : suc (left t) ≡ left c = rw e p.fewer in
        record { fuel = n; enough = omega arith; at = past src k; stands = rw e p.beyond; is = next_is p else_word _ _ i }

  -- `if`: the else part by its own reader
  else_is : (n : ℕ) (c : Cond) (s : Option Stmt) (k : Place)
      → if_next src else_word (λ k. then (λ e k. got (if_node c s e) k) (stmt src n o k)) (λ k. got (if_node c s none) k) k ≡ then (λ e k. got (if_node c s e) k) (else_part src n o k)
  unfolding else_part
  else_is n c s k = sym (next_then src else_word (λ e k. got (if_node c s e) k) (stmt src n o) (λ k. got none k) k)

  pub if_refused : {w : ℕ} {c : Cursor} → Refuses src (λ n. cond src n o) (8 * left c + 3) c w → Refuses src (λ n. conditional src n o) (8 * left c + 3) c w
  unfolding conditional
  if_refused z n l k s = ap (then _) (z n l k s)

  module _ (u : ℕ) {xs ys : List ℕ} {i : ℕ} {c d : Cursor} {r : Answer} (h : Reads condition src xs (u + 4) ys (λ n. cond src n o) (8 * left c + 3) 8 0 c r) (q : r ≡ Node i d) {v : Seen} (w : Wants src then_word d v) where
    pub if_stop : {n : Refusal} → v ≡ Err n → Refuses src (λ n. conditional src n o) (8 * left c + 3) c (number_of n)
    unfolding conditional
    if_stop e n l k s = let b = made h q n l k s in ap (then _) b.is ∙ ap (then _) (no_mark w e b.at b.stands)

    module _ {t : Cursor} (at : v ≡ Ok t) (less : suc (left t) ≡ left d) where
      -- after `then`
      record Then (n : ℕ) (k : Place) : Type 0 where
        pub test : Cond
        pub place : Place
        pub stands : Stands src t place
        pub enough : 8 * left t + 3 ≤ n
        pub wrote : Wrote xs (u + 4) ys i (condition test)
        pub is : conditional src n o k ≡ then (λ s k. then (λ e k. got (if_node test s e) k) (else_part src n o k)) (stmt src n o place)

      then_at : (n : ℕ) → 8 * left c + 3 ≤ n → (k : Place) → Stands src c k → Then n k
      unfolding conditional
      then_at n l k s =
          let b = made h q n l k s in
          let y = took w at b.at b.stands in
          record {
            test = b.value;
            place = past src b.at;
            stands = y.stands;
            enough = omega (arith, (grew h q).fewer);
            wrote = b.wrote;
            is = ap (then _) b.is ∙ ap (then _) y.wants ∙ then_same _ _ (λ s k. else_is n b.value s k) (stmt src n o (past src b.at));
          }

      pub if_in : {x : ℕ} → Refuses src (λ n. stmt src n o) (8 * left t + 3) t x → Refuses src (λ n. conditional src n o) (8 * left c + 3) c x
      if_in z n l k s = let b = then_at n l k s in b.is ∙ ap (then _) (z n b.enough b.place b.stands)

      module _ {zs : List ℕ} {p : Answer} (hs : Tries statement src ys i zs (λ n. stmt src n o) (8 * left t + 3) 8 0 t p) where
        -- the then part yields nothing: so does the whole, and the else part is read
        module _ {e : Cursor} (z : p ≡ Nothing e) where
          pub if_quiet_in : {x : ℕ} → Refuses src (λ n. else_part src n o) (8 * left e + 3) e x → Refuses src (λ n. conditional src n o) (8 * left c + 3) c x
          if_quiet_in y n l k s =
              let b = then_at n l k s in
              let x = quiet hs z n b.enough b.place b.stands in
              b.is ∙ ap (then _) x.is ∙ ap (then _) (y n (omega (arith, b.enough, quiet_left hs z)) x.at x.stands)

          pub if_quiet : {ws : List ℕ} (j : Perhaps ℕ) {f : Cursor} → Tries statement src zs i ws (λ n. else_part src n o) (8 * left e + 3) 8 0 e (try_of (Ok (j, f)))
              → Tries statement src xs u ws (λ n. conditional src n o) (8 * left c + 3) 8 0 c (Nothing f)
          unfolding if_node
          if_quiet j {f} he =
              nothing (omega (arith, try_left j f he, quiet_left hs z, (grew h q).fewer))
              (λ n l k s.
              let b = then_at n l k s in
              let x = quiet hs z n b.enough b.place b.stands in
              let y = went j he n (omega (arith, b.enough, quiet_left hs z)) x.at x.stands in
              record {
                value = if_node b.test x.value y.value;
                empty = ap (λ (a : Option Stmt). if_node b.test a y.value) x.empty;
                at = y.at;
                is = b.is ∙ ap (then _) x.is ∙ ap (then _) y.is;
                stands = y.stands;
                wrote = wrote_kept u (omega arith) (wrote_more b.wrote (wrote_more x.wrote y.wrote));
              })

        -- the then part is there
        module _ {j : ℕ} {e : Cursor} (z : p ≡ Node j e) where
          pub if_else_in : {x : ℕ} → Refuses src (λ n. else_part src n o) (8 * left e + 3) e x → Refuses src (λ n. conditional src n o) (8 * left c + 3) c x
          if_else_in y n l k s =
              let b = then_at n l k s in
              let x = made hs z n b.enough b.place b.stands in
              b.is ∙ ap (then _) x.is ∙ ap (then _) (y n (omega (arith, b.enough, (grew hs z).fewer)) x.at x.stands)

          module _ {ws vs : List ℕ} {r' : Answer} (he : Tries statement src zs j ws (λ n. else_part src n o) (8 * left e + 3) 8 0 e r') where
            -- no else part
            pub if_short : {f : Cursor} → r' ≡ Nothing f → Seals u (node_no if_kind) 0 2 j ws vs → Tries statement src xs u vs (λ n. conditional src n o) (8 * left c + 3) 8 0 c (Node j f)
            unfolding Safe Means if_node stmt_node join count
            if_short {f} y y' =
                let g = grew h q in
                let g' = grew hs z in
                record {
                  safe = record { above = omega (arith, g.above, g'.above); fewer = omega (arith, g.fewer, g'.fewer, quiet_left he y); room = omega (arith, g.room, g'.room, quiet_left he y) };
                  means = λ n l k s.
                      let b = then_at n l k s in
                      let x = made hs z n b.enough b.place b.stands in
                      let v = quiet he y n (omega (arith, b.enough, g'.fewer)) x.at x.stands in
                      record {
                        value = if_then b.test x.value;
                        at = v.at;
                        is = b.is ∙ ap (then _) x.is ∙ ap (then _) v.is ∙ ap (λ (a : Option Stmt). got (if_node b.test (some x.value) a) v.at) v.empty;
                        stands = v.stands;
                        wrote = y'.sealed xs if_kind (member (cond_node b.test) (statement x.value)) refl refl (wrote_more b.wrote (wrote_more x.wrote v.wrote));
                      };
                }

            -- an else part
            pub if_long : {end : ℕ} {f : Cursor} → r' ≡ Node end f → Seals u (node_no if_kind) 0 3 end ws vs → Tries statement src xs u vs (λ n. conditional src n o) (8 * left c + 3) 8 0 c (Node end f)
            unfolding Safe Means if_node stmt_node join count
            if_long {end} {f} y y' =
                let g = grew h q in
                let g' = grew hs z in
                let g'' = grew he y in
                record {
                  safe = record { above = omega (arith, g.above, g'.above, g''.above); fewer = omega (arith, g.fewer, g'.fewer, g''.fewer); room = omega (arith, g.room, g'.room, g''.room) };
                  means = λ n l k s.
                      let b = then_at n l k s in
                      let x = made hs z n b.enough b.place b.stands in
                      let v = made he y n (omega (arith, b.enough, g'.fewer)) x.at x.stands in
                      record {
                        value = if_else b.test x.value v.value;
                        at = v.at;
                        is = b.is ∙ ap (then _) x.is ∙ ap (then _) v.is;
                        stands = v.stands;
                        wrote = y'.sealed xs if_kind (member (cond_node b.test) (member (stmt_node x.value) (statement v.value))) refl refl (wrote_more b.wrote (wrote_more x.wrote v.wrote));
                      };
                }

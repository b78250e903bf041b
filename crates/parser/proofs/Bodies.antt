-- A statement place by its token, bodies, and the list of a body's statements.
use Rattle.std.specs.Prelude.{Ok, Err}
use mathlib.Core.Path.{◌≡◌, refl, sym, ap, ◌∙◌}
use mathlib.Core.List.{List}
use mathlib.Core.Option.{Option, none, some}
use Prim.Native.Nat.{ℕ, suc, ◌+◌, ◌*◌, ◌≤◌, ◌<◌}
use native.Mathlib.Omega.{arith}
use Rattle.numbers.specs.Panel.{too_many_open}
use Rattle.numbers.specs.Limits.{max_open}
use Rattle.numbers.specs.declared.refusal.Refusal.{Refusal}
use Rattle.numbers.specs.Refusals.{number_of}
use Rattle.lexer.specs.Marks.{if_word, then_word, else_word, while_word, do_word, const_word, var_word, procedure_word, program_word, begin_word, end_word, call_word, read_word, write_word, odd_word, plus_sign, minus_sign, times_sign, divide_sign, equal_sign, less_sign, greater_sign, at_most_sign, at_least_sign, unequal_sign, becomes_sign, open_sign, close_sign, semicolon_sign, comma_sign, place_of, same, listed}
use Rattle.lexer.specs.Tokens.{Token as Word, mark, name, number, token}
use Rattle.lexer.specs.Cursor.{Cursor as Place, got, refuse, Reader, look, take}
use Rattle.lexer.specs.Meaning.{sees, meaning, name_at}
use Rattle.lexer.specs.Stands.{Stands, taken, past, left}
use Rattle.lexer.specs.declared.token.Token.{Token}
use Rattle.lexer.specs.declared.token.Token.TheVariants.{If, While, Call, Begin, Read, Write, Identifier}
use Rattle.lexer.specs.declared.cursor.Cursor.{Cursor}
use Rattle.tree.specs.Tree.{Stmt, body, Stmts}
use Rattle.tree.specs.Nodes.{stmt_node}
use Rattle.parser.specs.Answer.{Answer, Node, Nothing, Refused}
use Rattle.grammar.specs.Reader.{then}
use Rattle.grammar.specs.Grammar.{Start, assign_start, if_start, while_start, call_start, body_start, read_start, write_start, starts, start_of, stmt, statement, body_of, stmts, map_o}
use Rattle.parser.specs.Pieces as P
use Rattle.parser.specs.See.{Seen, Sees, Wants}
use Rattle.parser.specs.Meets.{Room, Safe, Made, Quiet, Means, Tries}
use Rattle.parser.proofs.Tokens.{kind_in, known, plain, no_identifier, no_plain}
use Rattle.parser.proofs.Seeing.{saw, no_look, took, no_mark, enters, enters_not}
use Rattle.parser.proofs.Writing.{wrote_none}
use Rattle.parser.proofs.Leaves.{looked_at}
use Rattle.parser.proofs.Answers.{Refuses, by_suc, refused, grew, made, Moved}
use Rattle.parser.proofs.Tries.{quiet, Quietly, nothing}

-- a word that starts no statement
no_start_lem : (w : Word) → (kind_in w ≡ 30 → ⊥) → (kind_in w ≡ 0 → ⊥) → (kind_in w ≡ 3 → ⊥) → (kind_in w ≡ 11 → ⊥) → (kind_in w ≡ 9 → ⊥) → (kind_in w ≡ 12 → ⊥) → (kind_in w ≡ 13 → ⊥) → start_of w ≡ none
unfolding kind_in start_of listed starts same place_of
no_start_lem (mark if_word) a b c e f g h = absurd (b refl)
no_start_lem (mark then_word) a b c e f g h = refl
no_start_lem (mark else_word) a b c e f g h = refl
no_start_lem (mark while_word) a b c e f g h = absurd (c refl)
no_start_lem (mark do_word) a b c e f g h = refl
no_start_lem (mark const_word) a b c e f g h = refl
no_start_lem (mark var_word) a b c e f g h = refl
no_start_lem (mark procedure_word) a b c e f g h = refl
no_start_lem (mark program_word) a b c e f g h = refl
no_start_lem (mark begin_word) a b c e f g h = absurd (f refl)
no_start_lem (mark end_word) a b c e f g h = refl
no_start_lem (mark call_word) a b c e f g h = absurd (e refl)
no_start_lem (mark read_word) a b c e f g h = absurd (g refl)
no_start_lem (mark write_word) a b c e f g h = absurd (h refl)
no_start_lem (mark odd_word) a b c e f g h = refl
no_start_lem (mark plus_sign) a b c e f g h = refl
no_start_lem (mark minus_sign) a b c e f g h = refl
no_start_lem (mark times_sign) a b c e f g h = refl
no_start_lem (mark divide_sign) a b c e f g h = refl
no_start_lem (mark equal_sign) a b c e f g h = refl
no_start_lem (mark less_sign) a b c e f g h = refl
no_start_lem (mark greater_sign) a b c e f g h = refl
no_start_lem (mark at_most_sign) a b c e f g h = refl
no_start_lem (mark at_least_sign) a b c e f g h = refl
no_start_lem (mark unequal_sign) a b c e f g h = refl
no_start_lem (mark becomes_sign) a b c e f g h = refl
no_start_lem (mark open_sign) a b c e f g h = refl
no_start_lem (mark close_sign) a b c e f g h = refl
no_start_lem (mark semicolon_sign) a b c e f g h = refl
no_start_lem (mark comma_sign) a b c e f g h = refl
no_start_lem (name n) a b c e f g h = absurd (a refl)
no_start_lem (number v) a b c e f g h = refl

-- a choice by what a word starts
unfoldable begun : (src : List ℕ) (n o : ℕ) → Option Start → Reader (Option Stmt)
begun src n o x = elim x [ none ↦ (λ k. got none k) | some s ↦ statement src n o s ]

module _ (src : List ℕ) (o : ℕ) where
  -- once a statement was entered and its token looked at
  stmt_by : (n : ℕ) (k : Place) (w : Word) (x : Option Start) → o < max_open → look src k ≡ got w k → start_of w ≡ x → stmt src (suc n) o k ≡ begun src n (suc o) x k
  unfolding stmt begun
  stmt_by n k w x h e q = ap (then _) (enters o k h) ∙ ap (then _) e ∙ ap (λ (y : Option Start). begun src n (suc o) y k) q

  pub stmt_deep : {c : Cursor} → max_open ≤ o → Refuses src (λ n. stmt src n o) (8 * left c + 3) c too_many_open
  unfolding stmt
  stmt_deep {c} h = by_suc (λ n. (k : Place) → Stands src c k → stmt src n o k ≡ refuse too_many_open) (8 * left c + 3) (omega arith) (λ n l k s. ap (then _) (enters_not o k h))

  module _ (under : o < max_open) where
    pub stmt_refused : {c : Cursor} {v : Seen} {w : Refusal} → Sees src c v → v ≡ Err w → Refuses src (λ n. stmt src n o) (8 * left c + 3) c (number_of w)
    unfolding stmt
    stmt_refused {c} {v} {w} h e =
        by_suc (λ n. (k : Place) → Stands src c k → stmt src n o k ≡ refuse (number_of w)) (8 * left c + 3) (omega arith) (λ n l k s. ap (then _) (enters o k under) ∙ ap (then _) (no_look h e k s))

    module _ {c d : Cursor} {v : Seen} (h : Sees src c v) (at : v ≡ Ok d) where
      -- a token that starts no statement
      pub stmt_none : ((a n : ℕ) → d.token ≡ Identifier a n → ⊥) → (d.token ≡ If → ⊥) → (d.token ≡ While → ⊥) → (d.token ≡ Call → ⊥) → (d.token ≡ Begin → ⊥) → (d.token ≡ Read → ⊥) → (d.token ≡ Write → ⊥) → {xs : List ℕ} {u : ℕ} → Room src xs u 4 c → Tries P.statement src xs u xs (λ n. stmt src n o) (8 * left c + 3) 8 0 c (Nothing d)
      unfolding begun
      stmt_none no_id no_if no_while no_call no_begin no_read no_write {xs} {u} p =
          nothing (omega (arith, (saw h at p.place p.stands).1.same))
          (by_suc (λ n. (k : Place) → Stands src c k → Quiet some (λ v. v ≡ none) P.statement src xs u xs d (stmt src n o k)) (8 * left c + 3) (omega arith)
          (λ n l k s.
          let y = saw h at k s in
          let q = (known src d.token y.0 y.1.means) in
          let off : (n : ℕ) → (n ≡ 30 → ⊥) → (n ≡ 31 → ⊥) → (d.token ≡ plain n → ⊥) → kind_in y.0 ≡ n → ⊥ = λ n a b e z. no_plain d.token n a b e (q ∙ z) in
          let z = no_start_lem y.0 (λ e. no_identifier d.token no_id (q ∙ e)) (off 0 (λ q. omega (arith, q)) (λ q. omega (arith, q)) no_if) (off 3 (λ q. omega (arith, q)) (λ q. omega (arith, q)) no_while) (off 11 (λ q. omega (arith, q)) (λ q. omega (arith, q)) no_call) (off 9 (λ q. omega (arith, q)) (λ q. omega (arith, q)) no_begin) (off 12 (λ q. omega (arith, q)) (λ q. omega (arith, q)) no_read) (off 13 (λ q. omega (arith, q)) (λ q. omega (arith, q)) no_write) in
          record { value = none; empty = refl; at = k; is = stmt_by n k y.0 none under y.1.looks z; stands = y.1.stands; wrote = wrote_none (omega (arith, p.room)) }))

      -- one that starts the statement st
      module _ (t : Token) (w : Word) (st : Start) (told : d.token ≡ t) (says : meaning src t ≡ sees (token w)) (start : start_of w ≡ some st) where
        record Begun (n : ℕ) (k : Place) : Type 0 where
          pub fuel : ℕ
          pub enough : 8 * left c + 1 ≤ fuel
          pub is : stmt src n o k ≡ statement src (suc fuel) (suc o) st k

        begins : (n : ℕ) → 8 * left c + 3 ≤ n → (k : Place) → Stands src c k → Begun n k
        unfolding begun
        begins =
            by_suc (λ n. (k : Place) → Stands src c k → Begun n k) (8 * left c + 3) (omega arith)
            (λ n l.
            by_suc (λ n. (k : Place) → Stands src c k → Begun (suc n) k) (8 * left c + 2) (omega arith)
            (λ n l k s. record { fuel = n; enough = omega arith; is = stmt_by (suc n) k w (some st) under (looked_at (saw h at k s).1 t w told says) start })
            n (omega arith))

        -- and is taken
        pub stmt_moved : (f : ℕ → ℕ → Reader (Option Stmt)) → ((n : ℕ) (k : Place) → statement src (suc n) (suc o) st k ≡ f n (suc o) (past src k))
            → {e : Cursor} → e ≡ taken d → (o' : ℕ) → o' ≡ suc o → (n : ℕ) → 8 * left c + 3 ≤ n → (k : Place) → Stands src c k → Moved src (λ n. f n o') (8 * left e + 3) e (stmt src n o k)
        stmt_moved f eqn {e} q o' eq n l k s =
            let b = begins n l k s in
            let p = (saw h at k s).1 in
            let z : suc (left e) ≡ left c = rw q p.fewer in
            record {
              fuel = b.fuel;
              enough = omega (arith, b.enough);
              at = past src k;
              stands = rw q p.beyond;
              is = b.is ∙ eqn b.fuel k ∙ ap (λ (y : ℕ). f b.fuel y (past src k)) (sym eq);
            }

        -- or is a body's, and is left
        pub stmt_body : ((n : ℕ) (k : Place) → statement src (suc n) (suc o) st k ≡ then (λ b k. got (map_o body b) k) (body_of src n (suc o) k)) → (o' : ℕ) → o' ≡ suc o → left d ≡ left c
            → {xs ys : List ℕ} {u : ℕ} (r : Answer) → Tries P.body src xs u ys (λ n. body_of src n o') (8 * left d + 1) 8 0 d r → Tries P.statement src xs u ys (λ n. stmt src n o) (8 * left c + 3) 8 0 c r
        unfolding Safe Means map_o stmt_node
        stmt_body eqn o' eq as_many (Node e f) b = record {
          safe = let g = grew b refl in record { above = g.above; fewer = omega (arith, g.fewer); room = omega (arith, g.room) };
          means = λ n l k s.
              let a = begins n l k s in
              let x = made b refl a.fuel (omega (arith, a.enough)) k (saw h at k s).1.stands in
              record {
                value = body x.value;
                at = x.at;
                is = a.is ∙ eqn a.fuel k ∙ ap (λ (y : ℕ). then (λ b k. got (map_o body b) k) (body_of src a.fuel y k)) (sym eq) ∙ ap (then _) x.is;
                stands = x.stands;
                wrote = x.wrote;
              };
        }
        stmt_body eqn o' eq as_many (Nothing f) b =
            nothing (omega (arith, b.safe))
            (λ n l k s.
            let a = begins n l k s in
            let x = quiet b refl a.fuel (omega (arith, a.enough)) k (saw h at k s).1.stands in
            record {
              value = map_o body x.value;
              empty = ap (map_o body) x.empty;
              at = x.at;
              is = a.is ∙ eqn a.fuel k ∙ ap (λ (y : ℕ). then (λ b k. got (map_o body b) k) (body_of src a.fuel y k)) (sym eq) ∙ ap (then _) x.is;
              stands = x.stands;
              wrote = x.wrote;
            })
        stmt_body eqn o' eq as_many (Refused m) b =
            refused
            (λ n l k s.
            let a = begins n l k s in
            a.is ∙ eqn a.fuel k ∙ ap (λ (y : ℕ). then (λ b k. got (map_o body b) k) (body_of src a.fuel y k)) (sym eq) ∙ ap (then _) (b.means a.fuel (omega (arith, a.enough)) k (saw h at k s).1.stands))

    -- each statement by its first token
    module _ {c d : Cursor} {v : Seen} (h : Sees src c v) (at : v ≡ Ok d) where
      pub assign_arm : (a l : ℕ) → d.token ≡ Identifier a l → {e : Cursor} → e ≡ taken d → (o' : ℕ) → o' ≡ suc o → (n : ℕ) → 8 * left c + 3 ≤ n → (k : Place) → Stands src c k
          → Moved src (λ n. P.assigned src (name_at src a l) n o') (8 * left e + 3) e (stmt src n o k)
      unfolding statement P.assigned take start_of
      assign_arm a l i = stmt_moved h at (Identifier a l) (name (name_at src a l)) (assign_start (name_at src a l)) i refl refl (P.assigned src (name_at src a l)) (λ n k. refl)

      pub if_arm : d.token ≡ If → {e : Cursor} → e ≡ taken d → (o' : ℕ) → o' ≡ suc o → (n : ℕ) → 8 * left c + 3 ≤ n → (k : Place) → Stands src c k → Moved src (λ n. P.conditional src n o') (8 * left e + 3) e (stmt src n o k)
      unfolding statement P.conditional take start_of listed starts same place_of
      if_arm i = stmt_moved h at If (mark if_word) if_start i refl refl (P.conditional src) (λ n k. refl)

      pub while_arm : d.token ≡ While → {e : Cursor} → e ≡ taken d → (o' : ℕ) → o' ≡ suc o → (n : ℕ) → 8 * left c + 3 ≤ n → (k : Place) → Stands src c k → Moved src (λ n. P.looped src n o') (8 * left e + 3) e (stmt src n o k)
      unfolding statement P.looped take start_of listed starts same place_of
      while_arm i = stmt_moved h at While (mark while_word) while_start i refl refl (P.looped src) (λ n k. refl)

      pub call_arm : d.token ≡ Call → {e : Cursor} → e ≡ taken d → (o' : ℕ) → o' ≡ suc o → (n : ℕ) → 8 * left c + 3 ≤ n → (k : Place) → Stands src c k → Moved src (λ n. P.called src n o') (8 * left e + 3) e (stmt src n o k)
      unfolding statement P.called take start_of listed starts same place_of
      call_arm i = stmt_moved h at Call (mark call_word) call_start i refl refl (P.called src) (λ n k. refl)

      pub read_arm : d.token ≡ Read → {e : Cursor} → e ≡ taken d → (o' : ℕ) → o' ≡ suc o → (n : ℕ) → 8 * left c + 3 ≤ n → (k : Place) → Stands src c k → Moved src (λ n. P.reading src n o') (8 * left e + 3) e (stmt src n o k)
      unfolding statement P.reading take start_of listed starts same place_of
      read_arm i = stmt_moved h at Read (mark read_word) read_start i refl refl (P.reading src) (λ n k. refl)

      pub write_arm : d.token ≡ Write → {e : Cursor} → e ≡ taken d → (o' : ℕ) → o' ≡ suc o → (n : ℕ) → 8 * left c + 3 ≤ n → (k : Place) → Stands src c k → Moved src (λ n. P.writing src n o') (8 * left e + 3) e (stmt src n o k)
      unfolding statement P.writing take start_of listed starts same place_of
      write_arm i = stmt_moved h at Write (mark write_word) write_start i refl refl (P.writing src) (λ n k. refl)

      pub body_arm : d.token ≡ Begin → (o' : ℕ) → o' ≡ suc o → left d ≡ left c → {xs ys : List ℕ} {u : ℕ} (r : Answer) → Tries P.body src xs u ys (λ n. body_of src n o') (8 * left d + 1) 8 0 d r
          → Tries P.statement src xs u ys (λ n. stmt src n o) (8 * left c + 3) 8 0 c r
      unfolding statement start_of listed starts same place_of
      body_arm i = stmt_body h at Begin (mark begin_word) body_start i refl refl (λ n k. refl)

  -- `begin` statements `end`
  module _ {c : Cursor} {v : Seen} (w : Wants src begin_word c v) where
    pub body_stop : {x : Refusal} → v ≡ Err x → Refuses src (λ n. body_of src n o) (8 * left c + 1) c (number_of x)
    unfolding body_of
    body_stop {x} e = by_suc (λ n. (k : Place) → Stands src c k → body_of src n o k ≡ refuse (number_of x)) (8 * left c + 1) (omega arith) (λ n l k s. ap (then _) (no_mark w e k s))

    module _ {t : Cursor} (at : v ≡ Ok t) where
      pub body_in : {x : ℕ} → Refuses src (λ n. stmts src n o) (8 * left t + 4) t x → Refuses src (λ n. body_of src n o) (8 * left c + 1) c x
      unfolding body_of
      body_in {x} z =
          by_suc (λ n. (k : Place) → Stands src c k → body_of src n o k ≡ refuse x) (8 * left c + 1) (omega arith)
          (λ n l k s. let y = took w at k s in ap (then _) y.wants ∙ ap (then _) (z n (omega (arith, y.fewer)) (past src k) y.stands))

      pub body_quiet : {xs zs : List ℕ} {u : ℕ} (e : Cursor) → Quietly some (λ v. v ≡ none) P.body src xs u zs (λ n. stmts src n o) (8 * left t + 4) t e
          → Quietly some (λ v. v ≡ none) P.body src xs u zs (λ n. body_of src n o) (8 * left c + 1) c e
      unfolding body_of
      body_quiet {xs} {zs} {u} e z =
          by_suc (λ n. (k : Place) → Stands src c k → Quiet some (λ v. v ≡ none) P.body src xs u zs e (body_of src n o k)) (8 * left c + 1) (omega arith)
          (λ n l k s.
          let y = took w at k s in
          let x = z n (omega (arith, y.fewer)) (past src k) y.stands in
          let g : stmts src n o (past src k) ≡ got none x.at = x.is ∙ ap (λ (a : Option Stmts). got a x.at) x.empty in
          record { value = none; empty = refl; at = x.at; is = ap (then _) y.wants ∙ ap (then _) g; stands = x.stands; wrote = x.wrote })

      module _ {xs ys : List ℕ} {u end : ℕ} {d : Cursor} {r : Answer} (h : Tries P.body src xs u ys (λ n. stmts src n o) (8 * left t + 4) 0 0 t r) (q : r ≡ Node end d) {v' : Seen} (w' : Wants src end_word d v') where
        pub body_open : {x : Refusal} → v' ≡ Err x → Refuses src (λ n. body_of src n o) (8 * left c + 1) c (number_of x)
        unfolding body_of
        body_open {x} e =
            by_suc (λ n. (k : Place) → Stands src c k → body_of src n o k ≡ refuse (number_of x)) (8 * left c + 1) (omega arith)
            (λ n l k s.
            let y = took w at k s in
            let b = made h q n (omega (arith, y.fewer)) (past src k) y.stands in
            ap (then _) y.wants ∙ ap (then _) b.is ∙ ap (then _) (no_mark w' e b.at b.stands))

        pub body_done : {e : Cursor} → v' ≡ Ok e → suc (left t) ≡ left c → suc (left e) ≡ left d → Tries P.body src xs u ys (λ n. body_of src n o) (8 * left c + 1) 8 0 c (Node end e)
        unfolding body_of Safe Means
        body_done {e} at' fw fw' =
            let g = grew h q in
            record {
              safe = record { above = g.above; fewer = omega (arith, g.fewer); room = omega (arith, g.room) };
              means = by_suc (λ n. (k : Place) → Stands src c k → Made some (λ v. v ≡ none) P.body src xs u ys end e (body_of src n o k)) (8 * left c + 1) (omega arith)
                  (λ n l k s.
                  let y = took w at k s in
                  let b = made h q n (omega (arith, y.fewer)) (past src k) y.stands in
                  let y' = took w' at' b.at b.stands in
                  record {
                    value = b.value;
                    at = past src b.at;
                    is = ap (then _) y.wants ∙ ap (then _) b.is ∙ ap (then _) y'.wants;
                    stands = y'.stands;
                    wrote = b.wrote;
                  });
            }

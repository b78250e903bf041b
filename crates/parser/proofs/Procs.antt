-- Procedures and blocks: their definitions by the readers' parts, and what each part's answer comes to.
use Rattle.std.specs.Prelude.{Ok, Err, Option as Perhaps}
use mathlib.Core.Path.{◌≡◌, refl, sym, ap, ◌∙◌}
use mathlib.Core.Bool.{Bool}
use mathlib.Core.List.{List, [], ◌∷◌, ◌++◌}
use mathlib.Core.Option.{Option, none, some}
use Prim.Native.Nat.{ℕ, suc, ◌+◌, ◌*◌, ◌≤◌, ◌<◌}
use native.Mathlib.Omega.{arith}
use lib.ListN.{length, take as up_to}
use Rattle.numbers.specs.Panel.{too_many_open}
use Rattle.numbers.specs.Limits.{max_open}
use Rattle.numbers.specs.declared.refusal.Refusal.{Refusal}
use Rattle.numbers.specs.Refusals.{number_of}
use Rattle.lexer.specs.Marks.{procedure_word, program_word, open_sign, semicolon_sign}
use Rattle.lexer.specs.Tokens.{Name}
use Rattle.lexer.specs.Cursor.{Cursor as Place, Ans, got, refuse, Reader}
use Rattle.lexer.specs.Spelling.{token_of}
use Rattle.lexer.specs.Stands.{Stands, taken, past, left}
use Rattle.lexer.specs.declared.cursor.Cursor.{Cursor}
use Rattle.tree.specs.Tree.{Const, Stmts, Procs, no_procs, proc, Block}
use Rattle.tree.specs.Layout.{Nodes, node_no, no_procedures_kind, procedure_kind, block_kind, count}
use Rattle.tree.specs.Nodes.{name_node, names_node, procs_node, body_node, block_node}
use Rattle.tree.specs.Writing.{join}
use Rattle.tree.specs.Reading.{sizes_least}
use Rattle.parser.specs.Answer.{Answer, Node, Nothing, Refused, try_of}
use Rattle.grammar.specs.Reader.{then, pure, enter, is_mark, want, want_name}
use Rattle.grammar.specs.Grammar.{both, map_o, or_absent, const_part, var_part, arg_part, body_of, proc_of, inner_of, later_of, program}
use Rattle.parser.specs.Parts.{only}
use Rattle.parser.specs.Blocks.{Decls, Head, Front, decls, decls_nodes, head, head_nodes, front, front_nodes, block}
use Rattle.parser.specs.See.{Seen, Sees, Wants}
use Rattle.parser.specs.Written.{Wrote, Seals}
use Rattle.parser.specs.Meets.{Safe, Made, Quiet, Means, Meets, Reads, Tries}
use Rattle.parser.proofs.Seeing.{choose, saw, no_look, took, no_mark, it_is, it_is_not, next_is, next_is_not, enters, enters_not}
use Rattle.parser.proofs.Writing.{wrote_more, wrote_kept}
use Rattle.parser.proofs.Answers.{Refuses, by_suc, grew, made, Moved}
use Rattle.parser.proofs.Choices.{then_then, then_same, next_refused}
use Rattle.parser.proofs.Tries.{quiet, quiet_left, try_left, went, Quietly, nothing}
use Rattle.parser.proofs.Sequences.{Sequence, Joins}
use Rattle.parser.proofs.Declared.{wrote_empty}

-- what follows a reader goes into what the reader ends with
under : {A B D : Type 0} (g : B → Reader D) (f : A → Reader B) (h : A → Reader D) → ((x : A) (k : Place) → then g (f x k) ≡ h x k) → (a : Ans A) → then g (then f a) ≡ then h a
under g f h e a = then_then g f a ∙ then_same (λ x k. then g (f x k)) h e a

module _ (src : List ℕ) where
  -- the head of a procedure
  module _ {c : Cursor} {v : Seen} (wants : Wants src procedure_word c v) where
    pub head_stop : {m : ℕ} {n : Refusal} → v ≡ Err n → Refuses src (λ n. head src n) m c (number_of n)
    unfolding head
    head_stop e n l k s = ap (then _) (no_mark wants e k s)

    module _ {t : Cursor} (at : v ≡ Ok t) where
      pub head_name : {w m : ℕ} → Refuses src (λ n. want_name src) 0 t w → Refuses src (λ n. head src n) m c w
      unfolding head
      head_name z n l k s = let p = took wants at k s in ap (then _) p.wants ∙ ap (then _) (z 0 (omega arith) (past src k) p.stands)

      module _ {xs ys : List ℕ} {u e : ℕ} {d : Cursor} {r : Answer} (nm : Reads (λ n. only (name_node n)) src xs u ys (λ n. want_name src) 0 8 0 t r) (q : r ≡ Node e d) {v' : Seen} (opens : Wants src open_sign d v') where
        pub head_open : {m : ℕ} {n : Refusal} → v' ≡ Err n → Refuses src (λ n. head src n) m c (number_of n)
        unfolding head
        head_open i n l k s =
            let p = took wants at k s in
            let b = made nm q 0 (omega arith) (past src k) p.stands in
            ap (then _) p.wants ∙ ap (then _) b.is ∙ ap (then _) (no_mark opens i b.at b.stands)

        module _ {t' : Cursor} (at' : v' ≡ Ok t') (some : left t' < left c) where
          pub head_args : {w : ℕ} → Refuses src (λ n. arg_part src n) (8 * left t' + 1) t' w → Refuses src (λ n. head src n) (8 * left c) c w
          unfolding head
          head_args z n l k s =
              let p = took wants at k s in
              let b = made nm q 0 (omega arith) (past src k) p.stands in
              let o = took opens at' b.at b.stands in
              ap (then _) p.wants ∙ ap (then _) b.is ∙ ap (then _) o.wants ∙ ap (then _) (z n (omega arith) (past src b.at) o.stands)

          module _ {zs : List ℕ} {f : ℕ} {d' : Cursor} {r' : Answer} (ar : Reads (λ ns. only (names_node ns)) src ys e zs (λ n. arg_part src n) (8 * left t' + 1) 8 0 t' r') (q' : r' ≡ Node f d') {v'' : Seen} (ends : Wants src semicolon_sign d' v'') where
            pub head_end : {n : Refusal} → v'' ≡ Err n → Refuses src (λ n. head src n) (8 * left c) c (number_of n)
            unfolding head
            head_end i n l k s =
                let p = took wants at k s in
                let b = made nm q 0 (omega arith) (past src k) p.stands in
                let o = took opens at' b.at b.stands in
                let a = made ar q' n (omega arith) (past src b.at) o.stands in
                ap (then _) p.wants ∙ ap (then _) b.is ∙ ap (then _) o.wants ∙ ap (then _) a.is ∙ ap (then _) (no_mark ends i a.at a.stands)

            pub head_done : {g : Cursor} → v'' ≡ Ok g → suc (left t) ≡ left c → suc (left t') ≡ left d → suc (left g) ≡ left d' → Reads head_nodes src xs u zs (λ n. head src n) (8 * left c) 40 0 c (Node f g)
            unfolding head head_nodes join Safe Means
            head_done {g} at'' f1 f2 f3 =
                let x = grew nm q in
                let y = grew ar q' in
                record {
                  safe = record { above = omega (arith, x.above, y.above); fewer = omega (arith, x.fewer, y.fewer); room = omega (arith, x.room, y.room) };
                  means = λ n l k s.
                      let p = took wants at k s in
                      let b = made nm q 0 (omega arith) (past src k) p.stands in
                      let o = took opens at' b.at b.stands in
                      let a = made ar q' n (omega arith) (past src b.at) o.stands in
                      let z = took ends at'' a.at a.stands in
                      record {
                        value = record { id = b.value; args = a.value };
                        at = past src a.at;
                        is = ap (then _) p.wants ∙ ap (then _) b.is ∙ ap (then _) o.wants ∙ ap (then _) a.is ∙ ap (then _) z.wants;
                        stands = z.stands;
                        wrote = wrote_more b.wrote a.wrote;
                      };
                }

  -- the definitions of procedures and blocks by their parts
  module _ {D : Type 0} (n : ℕ) where
    -- a head, and what is read after it
    module _ (h : Name → List Name → Reader D) where
      ended : Name → List Name → Reader D
      ended x a k = then (λ _. h x a) (want src semicolon_sign k)

      opened : Name → Unit {0} → Reader D
      opened x _ k = then (ended x) (arg_part src n k)

      given : Name → Reader D
      given x k = then (opened x) (want src open_sign k)

      begun : Unit {0} → Reader D
      begun _ k = then given (want_name src k)

      head_then : Reader D
      head_then k = then begun (want src procedure_word k)

  head_is : (n : ℕ) (k : Place) → head src n k ≡ head_then {D = Head} n (λ x a. got (record { id = x; args = a })) k
  unfolding head head_then begun given opened ended
  head_is n k = refl

  module _ {D : Type 0} (n : ℕ) (g : Head → Reader D) where
    after_head_lem : (k : Place) → then g (head src n k) ≡ head_then n (λ x a. g (record { id = x; args = a })) k
    unfolding head_then begun given opened ended
    after_head_lem k =
        let h : Name → List Name → Reader D = λ x a. g (record { id = x; args = a }) in
        let o : Name → List Name → Reader Head = λ x a. got (record { id = x; args = a }) in
        ap (then g) (head_is n k)
        ∙ under g (begun n o) (begun n h) (λ _ k. under g (given n o) (given n h) (λ x k. under g (opened n o x) (opened n h x) (λ _ k. under g (ended n o x) (ended n h x) (λ a k. under g (λ _. o x a) (λ _. h x a) (λ _ k. refl) (want src semicolon_sign k)) (arg_part src n k)) (want src open_sign k)) (want_name src k)) (want src procedure_word k)

  -- constants, variables and inner procedures, and what is read after them
  module _ {D : Type 0} (n o : ℕ) where
    module _ (h : Front → Reader D) where
      listed : Decls → Reader D
      listed d k = then (λ ps. h (record { consts = d.consts; vars = d.vars; procs = ps })) (inner_of src n o k)

    module _ (h : Decls → Reader D) where
      valued : List Const → Reader D
      valued cs k = then (λ vs. h (record { consts = cs; vars = vs })) (var_part src n k)

    after_front_lem : (g : Front → Reader D) (k : Place) → then g (front src n o k) ≡ then (valued (listed g)) (const_part src n k)
    unfolding front decls listed valued
    after_front_lem g k =
        under g (λ d k. then (λ ps k. got (record { consts = d.consts; vars = d.vars; procs = ps }) k) (inner_of src n o k)) (listed g)
        (λ d k. under g (λ ps k. got (record { consts = d.consts; vars = d.vars; procs = ps }) k) (λ ps. g (record { consts = d.consts; vars = d.vars; procs = ps })) (λ ps k. refl) (inner_of src n o k)) (decls src n k)
        ∙ under (listed g) (λ cs k. then (λ vs k. got (record { consts = cs; vars = vs }) k) (var_part src n k)) (valued (listed g))
        (λ cs k. under (listed g) (λ vs k. got (record { consts = cs; vars = vs }) k) (λ vs. listed g (record { consts = cs; vars = vs })) (λ vs k. refl) (var_part src n k)) (const_part src n k)

  -- a procedure of that head and front, by what its body and the later ones yield
  abbrev made_of : Head → Front → Option Stmts → Option Procs → Option Procs
  made_of h f b l = both (λ x y. proc h.id h.args f.consts f.vars f.procs x y) b l

  after_front : ℕ → ℕ → Head → Front → Reader (Option Procs)
  after_front n o h f k = then (λ b k. then (λ l k. got (made_of h f b l) k) (later_of src n (suc o) k)) (body_of src n (suc o) k)

  after_head : ℕ → ℕ → Head → Reader (Option Procs)
  after_head n o h k = then (after_front n o h) (front src n (suc o) k)

  head_same : {D : Type 0} (n : ℕ) (h h' : Name → List Name → Reader D) → ((x : Name) (a : List Name) (k : Place) → h x a k ≡ h' x a k) → (k : Place) → head_then n h k ≡ head_then n h' k
  unfolding head_then begun given opened ended
  head_same n h h' e k =
      then_same (begun n h) (begun n h')
      (λ _ k. then_same (given n h) (given n h')
      (λ x k. then_same (opened n h x) (opened n h' x)
      (λ _ k. then_same (ended n h x) (ended n h' x) (λ a k. then_same (λ _. h x a) (λ _. h' x a) (λ _ k. e x a k) (want src semicolon_sign k)) (arg_part src n k)) (want src open_sign k)) (want_name src k)) (want src procedure_word k)

  proc_whole : (n o : ℕ) (k : Place)
      → proc_of src (suc n) o k ≡ then (λ _ k. then (after_head n o) (head src n k)) (enter o k)
  unfolding proc_of head_then begun given opened ended listed valued after_head after_front
  proc_whole n o k = sym (then_same (λ _ k. then (after_head n o) (head src n k)) (λ _. head_then n (λ x a. λ k. then (valued n (suc o) (listed n (suc o) (after_front n o (record { id = x; args = a })))) (const_part src n k))) (λ _ k. whole k) (enter o k))
    where
      whole : (k : Place) → then (after_head n o) (head src n k) ≡ head_then n (λ x a. λ k. then (valued n (suc o) (listed n (suc o) (after_front n o (record { id = x; args = a })))) (const_part src n k)) k
      whole k = after_head_lem n (after_head n o) k ∙ head_same n _ _ (λ x a k. after_front_lem n (suc o) (after_front n o (record { id = x; args = a })) k) k

  -- a procedure
  module _ (o o' : ℕ) (deeper : o' ≡ suc o) where
    pub proc_deep : {c : Cursor} → max_open ≤ o → Refuses src (λ n. proc_of src n o) (8 * left c + 1) c too_many_open
    proc_deep {c} h = by_suc (λ x. (k : Place) → Stands src c k → proc_of src x o k ≡ refuse too_many_open) (8 * left c + 1) (omega arith) (λ x l k s. proc_whole x o k ∙ ap (then _) (enters_not o k h))

    module _ (room : o < max_open) where
      pub proc_head : {c : Cursor} {w : ℕ} → Refuses src (λ n. head src n) (8 * left c) c w → Refuses src (λ n. proc_of src n o) (8 * left c + 1) c w
      proc_head {c} {w} z =
          by_suc (λ x. (k : Place) → Stands src c k → proc_of src x o k ≡ refuse w) (8 * left c + 1) (omega arith)
          (λ x l k s. proc_whole x o k ∙ ap (then _) (enters o k room) ∙ ap (then _) (z x (omega arith) k s))

      module _ (u : ℕ) {xs ys : List ℕ} {e : ℕ} {c d : Cursor} {r : Answer} (h : Reads head_nodes src xs (u + 4) ys (λ n. head src n) (8 * left c) 40 0 c r) (q : r ≡ Node e d) where
        fewer : left d + 1 ≤ left c
        fewer = let g = grew h q in omega (arith, g.above, g.room)

        -- after the head
        record Headed (n : ℕ) (k : Place) : Type 0 where
          value : Head
          at : Place
          stands : Stands src d at
          wrote : Wrote xs (u + 4) ys e (head_nodes value)
          is : proc_of src (suc n) o k ≡ then (λ f k. then (λ b k. then (λ l k. got (made_of value f b l) k) (later_of src n o' k)) (body_of src n o' k)) (front src n o' at)

        headed : (n : ℕ) → 8 * left c ≤ n → (k : Place) → Stands src c k → Headed n k
        unfolding after_head after_front
        headed n l k s =
            let b = made h q n l k s in
            record { value = b.value; at = b.at; stands = b.stands; wrote = b.wrote; is = rw deeper (proc_whole n o k ∙ ap (then _) (enters o k room) ∙ ap (then _) b.is) }

        pub proc_front : {w : ℕ} → Refuses src (λ n. front src n o') (8 * left d + 2) d w → Refuses src (λ n. proc_of src n o) (8 * left c + 1) c w
        proc_front {w} z =
            by_suc (λ x. (k : Place) → Stands src c k → proc_of src x o k ≡ refuse w) (8 * left c + 1) (omega arith)
            (λ x l k s. let b = headed x (omega arith) k s in b.is ∙ ap (then _) (z x (omega (arith, fewer)) b.at b.stands))

        module _ {zs : List ℕ} {f : ℕ} {d2 : Cursor} {r2 : Answer} (h2 : Reads front_nodes src ys e zs (λ n. front src n o') (8 * left d + 2) 0 12 d r2) (q2 : r2 ≡ Node f d2) where
          -- after the front
          record Fronted (n : ℕ) (k : Place) : Type 0 where
            head : Head
            front : Front
            at : Place
            stands : Stands src d2 at
            wrote : Wrote xs (u + 4) zs f (join (head_nodes head) (front_nodes front))
            is : proc_of src (suc n) o k ≡ then (λ b k. then (λ l k. got (made_of head front b l) k) (later_of src n o' k)) (body_of src n o' at)

          fronted : (n : ℕ) → 8 * left c ≤ n → (k : Place) → Stands src c k → Fronted n k
          fronted n l k s =
              let a = headed n l k s in
              let b = made h2 q2 n (omega (arith, fewer)) a.at a.stands in
              record { head = a.value; front = b.value; at = b.at; stands = b.stands; wrote = wrote_more a.wrote b.wrote; is = a.is ∙ ap (then _) b.is }

          fewer2 : left d2 + 1 ≤ left c
          fewer2 = omega (arith, fewer, (grew h2 q2).fewer)

          pub proc_body : {w : ℕ} → Refuses src (λ n. body_of src n o') (8 * left d2 + 1) d2 w → Refuses src (λ n. proc_of src n o) (8 * left c + 1) c w
          proc_body {w} z =
              by_suc (λ x. (k : Place) → Stands src c k → proc_of src x o k ≡ refuse w) (8 * left c + 1) (omega arith)
              (λ x l k s. let b = fronted x (omega arith) k s in b.is ∙ ap (then _) (z x (omega (arith, fewer2)) b.at b.stands))

          module _ {ts : List ℕ} {d3 : Cursor} {r3 : Answer} (h3 : Tries (λ b. only (body_node b)) src zs f ts (λ n. body_of src n o') (8 * left d2 + 1) 8 0 d2 r3) where
            -- the body yields nothing: so does the whole, and the later ones are read
            module _ (z : r3 ≡ Nothing d3) where
              pub proc_quiet_later : {w : ℕ} → Refuses src (λ n. later_of src n o') (8 * left d3 + 1) d3 w → Refuses src (λ n. proc_of src n o) (8 * left c + 1) c w
              proc_quiet_later {w} y =
                  by_suc (λ x. (k : Place) → Stands src c k → proc_of src x o k ≡ refuse w) (8 * left c + 1) (omega arith)
                  (λ x l k s.
                  let a = fronted x (omega arith) k s in
                  let b = quiet h3 z x (omega (arith, fewer2)) a.at a.stands in
                  a.is ∙ ap (then _) b.is ∙ ap (then _) (y x (omega (arith, fewer2, quiet_left h3 z)) b.at b.stands))

              pub proc_quiet : {ws : List ℕ} (j : Perhaps ℕ) {t : Cursor} → Tries (λ p. only (procs_node p)) src ts f ws (λ n. later_of src n o') (8 * left d3 + 1) 0 4 d3 (try_of (Ok (j, t)))
                  → Tries (λ p. only (procs_node p)) src xs u ws (λ n. proc_of src n o) (8 * left c + 1) 0 0 c (Nothing t)
              unfolding both
              proc_quiet {ws} j {t} h4 =
                  nothing (omega (arith, try_left j t h4, quiet_left h3 z, fewer2))
                  (by_suc (λ x. (k : Place) → Stands src c k → Quiet some (λ v. v ≡ none) (λ p. only (procs_node p)) src xs u ws t (proc_of src x o k)) (8 * left c + 1) (omega arith)
                  (λ x l k s.
                  let a = fronted x (omega arith) k s in
                  let b = quiet h3 z x (omega (arith, fewer2)) a.at a.stands in
                  let y = went j h4 x (omega (arith, fewer2, quiet_left h3 z)) b.at b.stands in
                  record {
                    value = none;
                    empty = refl;
                    at = y.at;
                    is = a.is ∙ ap (then _) (b.is ∙ ap (λ v. got v b.at) b.empty) ∙ ap (then _) y.is;
                    stands = y.stands;
                    wrote = wrote_kept u (omega arith) (wrote_more (wrote_more a.wrote b.wrote) y.wrote);
                  }))

            module _ {i : ℕ} (q3 : r3 ≡ Node i d3) where
              fewer3 : left d3 + 1 ≤ left c
              fewer3 = omega (arith, fewer2, (grew h3 q3).fewer)

              -- the later ones are refused, or yield nothing
              pub proc_later : {w : ℕ} → Refuses src (λ n. later_of src n o') (8 * left d3 + 1) d3 w → Refuses src (λ n. proc_of src n o) (8 * left c + 1) c w
              proc_later {w} z =
                  by_suc (λ x. (k : Place) → Stands src c k → proc_of src x o k ≡ refuse w) (8 * left c + 1) (omega arith)
                  (λ x l k s.
                  let a = fronted x (omega arith) k s in
                  let b = made h3 q3 x (omega (arith, fewer2)) a.at a.stands in
                  a.is ∙ ap (then _) b.is ∙ ap (then _) (z x (omega (arith, fewer3)) b.at b.stands))

              pub proc_none : {ws : List ℕ} (t : Cursor) → ((n : ℕ) → 8 * left d3 + 1 ≤ n → (k : Place) → Stands src d3 k → Quiet some (λ v. v ≡ none) (λ p. only (procs_node p)) src ts i ws t (later_of src n o' k))
                  → (n : ℕ) → 8 * left c + 1 ≤ n → (k : Place) → Stands src c k → Quiet some (λ v. v ≡ none) (λ p. only (procs_node p)) src xs u ws t (proc_of src n o k)
              unfolding both
              proc_none {ws} t z =
                  by_suc (λ x. (k : Place) → Stands src c k → Quiet some (λ v. v ≡ none) (λ p. only (procs_node p)) src xs u ws t (proc_of src x o k)) (8 * left c + 1) (omega arith)
                  (λ x l k s.
                  let a = fronted x (omega arith) k s in
                  let b = made h3 q3 x (omega (arith, fewer2)) a.at a.stands in
                  let y = z x (omega (arith, fewer3)) b.at b.stands in
                  record {
                    value = none;
                    empty = refl;
                    at = y.at;
                    is = a.is ∙ ap (then _) b.is ∙ ap (then _) (y.is ∙ ap (λ v. got v y.at) y.empty);
                    stands = y.stands;
                    wrote = wrote_kept u (omega arith) (wrote_more (wrote_more a.wrote b.wrote) y.wrote);
                  })

              -- all is there
              pub proc_done : {vs ws : List ℕ} {end : ℕ} {t : Cursor} {r4 : Answer} → Tries (λ p. only (procs_node p)) src ts i vs (λ n. later_of src n o') (8 * left d3 + 1) 0 4 d3 r4 → r4 ≡ Node end t
                  → Seals u (node_no procedure_kind) 0 7 end vs ws → Tries (λ p. only (procs_node p)) src xs u ws (λ n. proc_of src n o) (8 * left c + 1) 0 0 c (Node end t)
              unfolding Safe Means both procs_node head_nodes front_nodes join count
              proc_done {vs} {ws} {end} {t} {r4} h4 q4 z =
                  let g1 = grew h q in
                  let g2 = grew h2 q2 in
                  let g3 = grew h3 q3 in
                  let g4 = grew h4 q4 in
                  record {
                    safe = record {
                      above = omega (arith, g1.above, g2.above, g3.above, g4.above);
                      fewer = omega (arith, fewer3, g4.fewer);
                      room = omega (arith, g1.room, g2.room, g3.room, g4.room);
                    };
                    means = by_suc (λ x. (k : Place) → Stands src c k → Made some (λ v. v ≡ none) (λ p. only (procs_node p)) src xs u ws end t (proc_of src x o k)) (8 * left c + 1) (omega arith)
                        (λ x l k s.
                        let a = fronted x (omega arith) k s in
                        let b = made h3 q3 x (omega (arith, fewer2)) a.at a.stands in
                        let y = made h4 q4 x (omega (arith, fewer3)) b.at b.stands in
                        record {
                          value = proc a.head.id a.head.args a.front.consts a.front.vars a.front.procs b.value y.value;
                          at = y.at;
                          is = a.is ∙ ap (then _) b.is ∙ ap (then _) y.is;
                          stands = y.stands;
                          wrote = z.sealed xs procedure_kind _ refl refl (wrote_more (wrote_more a.wrote b.wrote) y.wrote);
                        });
                  }

  -- {`;` procedure}
  module _ (o : ℕ) where
    module _ {c : Cursor} {v : Seen} (h : Sees src c v) where
      pub later_stop : {n : Refusal} → v ≡ Err n → Refuses src (λ n. later_of src n o) (8 * left c + 1) c (number_of n)
      unfolding later_of
      later_stop {n} e =
          by_suc (λ x. (k : Place) → Stands src c k → later_of src x o k ≡ refuse (number_of n)) (8 * left c + 1) (omega arith) (λ x l k s. next_refused src semicolon_sign _ _ k (no_look h e k s))

      module _ {d : Cursor} (at : v ≡ Ok d) where
        pub later_there : {t : Cursor} → t ≡ taken d → d.token ≡ token_of semicolon_sign → (n : ℕ) → 8 * left c + 1 ≤ n → (k : Place) → Stands src c k → Moved src (λ n. proc_of src n o) (8 * left t + 1) t (later_of src n o k)
        unfolding later_of
        later_there {t} e i =
            by_suc (λ x. (k : Place) → Stands src c k → Moved src (λ n. proc_of src n o) (8 * left t + 1) t (later_of src x o k)) (8 * left c + 1) (omega arith)
            (λ x l k s.
            let p = (saw h at k s).1 in
            let f : suc (left t) ≡ left c = rw e p.fewer in
            record { fuel = x; enough = omega arith; at = past src k; stands = rw e p.beyond; is = next_is p semicolon_sign _ _ i })

        pub later_none : {xs ys : List ℕ} {u e : ℕ} → (d.token ≡ token_of semicolon_sign → ⊥) → left d ≡ left c → u ≤ length xs → e ≡ u + 4 → up_to (u + 4) ys ≡ up_to u xs ++ (node_no no_procedures_kind ∷ 0 ∷ 0 ∷ 0 ∷ [])
            → Tries (λ p. only (procs_node p)) src xs u ys (λ n. later_of src n o) (8 * left c + 1) 0 4 c (Node e d)
        unfolding later_of Safe Means procs_node
        later_none {xs} {ys} {u} {e} i f fits q l = record {
          safe = record { above = omega arith; fewer = omega arith; room = omega arith };
          means = by_suc (λ x. (k : Place) → Stands src c k → Made some (λ v. v ≡ none) (λ p. only (procs_node p)) src xs u ys e d (later_of src x o k)) (8 * left c + 1) (omega arith)
              (λ x b k s.
              let p = (saw h at k s).1 in
              record { value = no_procs; at = k; is = next_is_not p semicolon_sign _ _ i; stands = p.stands; wrote = wrote_empty no_procedures_kind fits q l });
        }

    -- a block's [procedure]
    module _ {c : Cursor} {v : Seen} (h : Sees src c v) where
      pub inner_stop : {n : Refusal} → v ≡ Err n → Refuses src (λ n. inner_of src n o) (8 * left c + 2) c (number_of n)
      unfolding inner_of
      inner_stop {n} e = by_suc (λ x. (k : Place) → Stands src c k → inner_of src x o k ≡ refuse (number_of n)) (8 * left c + 2) (omega arith) (λ x l k s. ap (then _) (no_look h e k s))

      module _ {d : Cursor} (at : v ≡ Ok d) where
        absent : ℕ → Reader Procs
        absent n k = then (λ p k. got (or_absent p) k) (proc_of src n o k)

        inner_is : (n : ℕ) (k : Place) (s : Stands src c k) → inner_of src (suc n) o k ≡ choose (is_mark procedure_word (saw h at k s).0) (absent n) (pure no_procs) k
        unfolding inner_of choose absent
        inner_is n k s = ap (then (λ t. choose (is_mark procedure_word t) (absent n) (pure no_procs))) (saw h at k s).1.looks

        inner_there : d.token ≡ token_of procedure_word → (n : ℕ) (k : Place) → Stands src c k → inner_of src (suc n) o k ≡ then (λ p k. got (or_absent p) k) (proc_of src n o k)
        unfolding choose absent
        inner_there i n k s = inner_is n k s ∙ ap (λ (b : Bool). choose b (absent n) (pure no_procs) k) (it_is (saw h at k s).1 procedure_word i)

        pub inner_none : {xs ys : List ℕ} {u e : ℕ} → (d.token ≡ token_of procedure_word → ⊥) → left d ≡ left c → u ≤ length xs → e ≡ u + 4 → up_to (u + 4) ys ≡ up_to u xs ++ (node_no no_procedures_kind ∷ 0 ∷ 0 ∷ 0 ∷ [])
            → Reads (λ p. only (procs_node p)) src xs u ys (λ n. inner_of src n o) (8 * left c + 2) 0 4 c (Node e d)
        unfolding choose Safe Means procs_node
        inner_none {xs} {ys} {u} {e} i f fits q l = record {
          safe = record { above = omega arith; fewer = omega arith; room = omega arith };
          means = by_suc (λ x. (k : Place) → Stands src c k → Made (λ a. a) (λ v. ⊥) (λ p. only (procs_node p)) src xs u ys e d (inner_of src x o k)) (8 * left c + 2) (omega arith)
              (λ x b k s.
              let p = (saw h at k s).1 in
              record { value = no_procs; at = k; is = inner_is x k s ∙ ap (λ (b : Bool). choose b (absent x) (pure no_procs) k) (it_is_not p procedure_word i); stands = p.stands; wrote = wrote_empty no_procedures_kind fits q l });
        }

        -- a refusal
        pub inner_in : d.token ≡ token_of procedure_word → {w : ℕ} → Refuses src (λ n. proc_of src n o) (8 * left d + 1) d w → left d ≡ left c → Refuses src (λ n. inner_of src n o) (8 * left c + 2) c w
        inner_in i {w} z f =
            by_suc (λ x. (k : Place) → Stands src c k → inner_of src x o k ≡ refuse w) (8 * left c + 2) (omega arith)
            (λ x l k s. inner_there i x k s ∙ ap (then _) (z x (omega arith) k (saw h at k s).1.stands))

        module _ (i : d.token ≡ token_of procedure_word) (f : left d ≡ left c) {xs ys : List ℕ} {u : ℕ} where
          -- a procedure
          pub inner_up : {r : Answer} {e : ℕ} {t : Cursor} → Tries (λ p. only (procs_node p)) src xs u ys (λ n. proc_of src n o) (8 * left d + 1) 0 0 d r → r ≡ Node e t
              → Reads (λ p. only (procs_node p)) src xs u ys (λ n. inner_of src n o) (8 * left c + 2) 0 4 c (Node e t)
          unfolding Safe Means or_absent
          inner_up {r} {e} {t} z q =
              let g = grew z q in
              record {
                safe = record { above = g.above; fewer = omega (arith, g.fewer); room = omega (arith, g.room) };
                means = by_suc (λ x. (k : Place) → Stands src c k → Made (λ a. a) (λ v. ⊥) (λ p. only (procs_node p)) src xs u ys e t (inner_of src x o k)) (8 * left c + 2) (omega arith)
                    (λ x l k s.
                    let b = made z q x (omega arith) k (saw h at k s).1.stands in
                    record { value = b.value; at = b.at; is = inner_there i x k s ∙ ap (then _) b.is; stands = b.stands; wrote = b.wrote });
              }

          -- one that yields nothing is absent
          pub inner_absent : {zs : List ℕ} {e : ℕ} {r : Answer} {t : Cursor} → Tries (λ p. only (procs_node p)) src xs u ys (λ n. proc_of src n o) (8 * left d + 1) 0 0 d r → r ≡ Nothing t
              → u ≤ length ys → e ≡ u + 4 → up_to (u + 4) zs ≡ up_to u ys ++ (node_no no_procedures_kind ∷ 0 ∷ 0 ∷ 0 ∷ []) → Reads (λ p. only (procs_node p)) src xs u zs (λ n. inner_of src n o) (8 * left c + 2) 0 4 c (Node e t)
          unfolding Safe Means or_absent procs_node join
          inner_absent {zs} {e} {r} {t} z q fits en l = record {
            safe = record { above = omega arith; fewer = omega (arith, quiet_left z q); room = omega (arith, quiet_left z q) };
            means = by_suc (λ x. (k : Place) → Stands src c k → Made (λ a. a) (λ v. ⊥) (λ p. only (procs_node p)) src xs u zs e t (inner_of src x o k)) (8 * left c + 2) (omega arith)
                (λ x b k s.
                let y = quiet z q x (omega arith) k (saw h at k s).1.stands in
                record {
                  value = no_procs;
                  at = y.at;
                  is = inner_there i x k s ∙ ap (then _) (y.is ∙ ap (λ v. got v y.at) y.empty);
                  stands = y.stands;
                  wrote = wrote_more y.wrote (wrote_empty no_procedures_kind fits en l);
                });
          }

  -- what stands before a body
  pub front_whole : (o : ℕ) → Sequence (λ n. decls src n) (λ n. inner_of src n o) (λ n. front src n o) (λ d ps. record { consts = d.consts; vars = d.vars; procs = ps })
  unfolding front
  front_whole o = record { whole = λ n k. refl }

pub front_join : Joins decls_nodes (λ p. only (procs_node p)) front_nodes (λ d ps. record { consts = d.consts; vars = d.vars; procs = ps })
unfolding decls_nodes front_nodes join
front_join = record { joins = λ d ps. refl }

-- a head takes two nodes' room
pub head_large : {src xs ys : List ℕ} {u e m : ℕ} {c d : Cursor} {r : Answer} → Reads head_nodes src xs u ys (λ n. head src n) m 40 0 c r → r ≡ Node e d → (k : Place) → Stands src c k → u + 8 ≤ e
unfolding head_nodes count
head_large {src} {xs} {ys} {u} {e} {m} h q k s = let b = made h q m (omega arith) k s in omega (arith, b.wrote.ends, sizes_least (head_nodes b.value))

-- the main block
module _ (src : List ℕ) where
  pub block_front : {c : Cursor} {w : ℕ} → Refuses src (λ n. front src n 0) (8 * left c + 2) c w → Refuses src (λ n. block src n) (8 * left c + 2) c w
  unfolding block
  block_front z n l k s = ap (then _) (z n l k s)

  module _ (u : ℕ) {xs ys : List ℕ} {e : ℕ} {c d : Cursor} {r : Answer} (h : Reads front_nodes src xs (u + 4) ys (λ n. front src n 0) (8 * left c + 2) 0 12 c r) (q : r ≡ Node e d) where
    pub block_body : {w : ℕ} → Refuses src (λ n. body_of src n 0) (8 * left d + 1) d w → Refuses src (λ n. block src n) (8 * left c + 2) c w
    unfolding block
    block_body z n l k s = let b = made h q n l k s in ap (then _) b.is ∙ ap (then _) (z n (omega (arith, (grew h q).fewer)) b.at b.stands)

    pub block_quiet : {zs : List ℕ} (t : Cursor) → Quietly some (λ v. v ≡ none) (λ b. only (body_node b)) src ys e zs (λ n. body_of src n 0) (8 * left d + 1) d t
        → Quietly some (λ v. v ≡ none) (λ b. only (block_node b)) src xs u zs (λ n. block src n) (8 * left c + 2) c t
    unfolding block map_o
    block_quiet t z n l k s =
        let a = made h q n l k s in
        let b = z n (omega (arith, (grew h q).fewer)) a.at a.stands in
        record {
          value = none;
          empty = refl;
          at = b.at;
          is = ap (then _) a.is ∙ ap (then _) (b.is ∙ ap (λ v. got v b.at) b.empty);
          stands = b.stands;
          wrote = wrote_kept u (omega arith) (wrote_more a.wrote b.wrote);
        }

    pub block_done : {zs ws : List ℕ} {end : ℕ} {t : Cursor} {r3 : Answer} → Tries (λ b. only (body_node b)) src ys e zs (λ n. body_of src n 0) (8 * left d + 1) 8 0 d r3 → r3 ≡ Node end t
        → Seals u (node_no block_kind) 0 4 end zs ws → Tries (λ b. only (block_node b)) src xs u ws (λ n. block src n) (8 * left c + 2) 0 16 c (Node end t)
    unfolding block map_o Safe Means block_node front_nodes join count
    block_done h3 q3 z =
        let g = grew h q in
        let g3 = grew h3 q3 in
        record {
          safe = record { above = omega (arith, g.above, g3.above); fewer = omega (arith, g.fewer, g3.fewer); room = omega (arith, g.room, g3.room) };
          means = λ n l k s.
              let a = made h q n l k s in
              let b = made h3 q3 n (omega (arith, g.fewer)) a.at a.stands in
              record {
                value = record { consts = a.value.consts; vars = a.value.vars; procs = a.value.procs; main = b.value };
                at = b.at;
                is = ap (then _) a.is ∙ ap (then _) b.is;
                stands = b.stands;
                wrote = z.sealed xs block_kind _ refl refl (wrote_more a.wrote b.wrote);
              };
        }

-- a program
module _ (src : List ℕ) where
  programmed : (n : ℕ) (k : Place) → program src n k ≡ then (λ _ k. then (λ x k. then (λ _. block src n) (want src semicolon_sign k)) (want_name src k)) (want src program_word k)
  unfolding program block listed valued
  programmed n k =
      then_same (λ _ k. then named (want_name src k)) (λ _ k. then (λ x k. then (λ _. block src n) (want src semicolon_sign k)) (want_name src k))
      (λ _ k. then_same named (λ x k. then (λ _. block src n) (want src semicolon_sign k)) (λ x k. then_same (λ _. whole) (λ _. block src n) (λ _ k. sym (after_front_lem src n 0 main k)) (want src semicolon_sign k)) (want_name src k)) (want src program_word k)
    where
      main : Front → Reader (Option Block)
      main f k = then (λ b k. got (map_o (λ s. record { consts = f.consts; vars = f.vars; procs = f.procs; main = s }) b) k) (body_of src n 0 k)

      whole : Reader (Option Block)
      whole k = then (valued src n 0 (listed src n 0 main)) (const_part src n k)

      named : Name → Reader (Option Block)
      named x k = then (λ _. whole) (want src semicolon_sign k)

  module _ {c : Cursor} {v : Seen} (wants : Wants src program_word c v) where
    pub program_stop : {m : ℕ} {n : Refusal} → v ≡ Err n → Refuses src (λ n. program src n) m c (number_of n)
    program_stop e n l k s = programmed n k ∙ ap (then _) (no_mark wants e k s)

    module _ {t : Cursor} (at : v ≡ Ok t) where
      pub program_name : {w m : ℕ} → Refuses src (λ n. want_name src) 0 t w → Refuses src (λ n. program src n) m c w
      program_name z n l k s = let p = took wants at k s in programmed n k ∙ ap (then _) p.wants ∙ ap (then _) (z 0 (omega arith) (past src k) p.stands)

      module _ {xs ys : List ℕ} {e : ℕ} {d : Cursor} {r : Answer} (nm : Reads (λ n. only (name_node n)) src xs 0 ys (λ n. want_name src) 0 8 0 t r) (q : r ≡ Node e d) {v' : Seen} (ends : Wants src semicolon_sign d v') where
        pub program_end : {m : ℕ} {n : Refusal} → v' ≡ Err n → Refuses src (λ n. program src n) m c (number_of n)
        program_end i n l k s =
            let p = took wants at k s in
            let b = made nm q 0 (omega arith) (past src k) p.stands in
            programmed n k ∙ ap (then _) p.wants ∙ ap (then _) b.is ∙ ap (then _) (no_mark ends i b.at b.stands)

        -- and then its block
        pub program_block : {t' : Cursor} → v' ≡ Ok t' → (n : ℕ) → 8 * left t' + 2 ≤ n → (k : Place) → Stands src c k → Moved src (λ n. block src n) (8 * left t' + 2) t' (program src n k)
        program_block at' n l k s =
            let p = took wants at k s in
            let b = made nm q 0 (omega arith) (past src k) p.stands in
            let o = took ends at' b.at b.stands in
            record { fuel = n; enough = l; at = past src b.at; stands = o.stands; is = programmed n k ∙ ap (then _) p.wants ∙ ap (then _) b.is ∙ ap (then _) o.wants }

-- what was written from the first place on stands whatever was there before
pub from_start : {A B : Type 0} {yes : A → B} {no : B → Type 0} {nodes : A → Nodes} {src xs ys zs : List ℕ} {f : ℕ → Reader B} {m spare debt : ℕ} {c : Cursor} (r : Answer)
    → Meets yes no nodes src ys 0 zs f m spare debt c r → Meets yes no nodes src xs 0 zs f m spare debt c r
unfolding Safe Means
from_start (Node e d) h = record {
  safe = h.safe;
  means = λ n l k s.
      let b = h.means n l k s in
      record { value = b.value; at = b.at; is = b.is; stands = b.stands; wrote = record { lies = b.wrote.lies; ends = b.wrote.ends; start = omega arith } };
}
from_start (Nothing d) h = record {
  safe = h.safe;
  means = λ n l k s.
      let b = h.means n l k s in
      record { value = b.value; empty = b.empty; at = b.at; is = b.is; stands = b.stands; wrote = record { lies = b.wrote.lies; ends = b.wrote.ends; start = omega arith } };
}
from_start (Refused w) h = record { safe = h.safe; means = h.means }

-- The list of a body's statements: the loop that reads it, and how it is read on after a member that yields nothing.
use Rattle.std.specs.Prelude.{Ok, Err, Option as Perhaps}
use mathlib.Core.Path.{◌≡◌, refl, sym, ap, subst, ◌∙◌}
use mathlib.Core.List.{List}
use mathlib.Core.Option.{Option, none, some}
use Prim.Native.Nat.{ℕ, suc, ◌+◌, ◌*◌, ◌≤◌}
use native.Mathlib.Omega.{arith}
use lib.ListN.{length}
use Rattle.numbers.specs.Limits.{tree_share}
use Rattle.numbers.specs.declared.refusal.Refusal.{Refusal}
use Rattle.numbers.specs.Refusals.{number_of}
use Rattle.lexer.specs.Marks.{semicolon_sign}
use Rattle.lexer.specs.Cursor.{Cursor as Place, Ans, got, refuse}
use Rattle.lexer.specs.Spelling.{token_of}
use Rattle.lexer.specs.Stands.{Stands, taken, past, left}
use Rattle.lexer.specs.declared.cursor.Cursor.{Cursor}
use Rattle.tree.specs.Tree.{Stmt, Stmts, last, more}
use Rattle.tree.specs.Layout.{Nodes, no_more, node_no, body_kind, count}
use Rattle.tree.specs.Nodes.{stmt_nodes}
use Rattle.tree.specs.Reading.{sizes_least}
use Rattle.tree.specs.Writing.{join, join_join, count_join}
use Rattle.parser.specs.Answer.{Answer, Node, Nothing, Refused, try_of}
use Rattle.grammar.specs.Reader.{then, if_next}
use Rattle.grammar.specs.Grammar.{stmt, stmts, both, map_o}
use Rattle.parser.specs.Pieces as P
use Rattle.parser.specs.Pieces.{quiet_rest, Quiets}
use Rattle.parser.specs.Written.{Wrote, Seals}
use Rattle.parser.specs.See.{Seen, Sees}
use Rattle.parser.specs.Meets.{Room, Safe, Made, Quiet, Means, Tries}
use Rattle.parser.proofs.Seeing.{saw, no_look, next_is, next_is_not}
use Rattle.parser.proofs.Writing.{wrote_none, wrote_more, wrote_kept}
use Rattle.parser.proofs.Answers.{Refuses, by_suc, refused, grew, made}
use Rattle.parser.proofs.Tries.{quiet, quiet_left, try_left, went, Quietly, nothing}
use Rattle.parser.proofs.Choices.{then_same, then_then, next_refused, next_then, next_same}

-- the list with what came before it; nothing stays nothing
abbrev after : (Stmts → Stmts) → Ans (Option Stmts) → Ans (Option Stmts)
after g a = then (λ l k. got (map_o g l) k) a

maps : (g h : Stmts → Stmts) (v : Option Stmts) → map_o g (map_o h v) ≡ map_o (λ l. g (h l)) v
unfolding map_o
maps g h none = refl
maps g h (some l) = refl

after_after : (g h : Stmts → Stmts) (a : Ans (Option Stmts)) → after g (after h a) ≡ after (λ l. g (h l)) a
after_after g h (got v k) = ap (λ (x : Option Stmts). got x k) (maps g h v)
after_after g h (refuse n) = refl

whole : (a : Ans (Option Stmts)) → a ≡ after (λ l. l) a
unfolding map_o
whole (got none k) = refl
whole (got (some l) k) = refl
whole (refuse n) = refl

-- a statement before the others
both_some : (s : Stmt) (v : Option Stmts) → both more (some s) v ≡ map_o (more s) v
unfolding both map_o
both_some s none = refl
both_some s (some l) = refl

module _ (src : List ℕ) (o : ℕ) where
  -- the answer a of the definition is that of the list from the cursor c on, after the members that were written from u up to e
  pub record On (xs : List ℕ) (u : ℕ) (ys : List ℕ) (e total : ℕ) (c : Cursor) (a : Ans (Option Stmts)) : Type 0 where
    pub fuel : ℕ
    pub enough : 8 * left c + 4 ≤ fuel
    pub at : Place
    pub stands : Stands src c at
    pub before : Stmts → Stmts
    pub ms : Nodes
    pub is : a ≡ after before (stmts src fuel o at)
    pub joins : (l : Stmts) → stmt_nodes (before l) ≡ join ms (stmt_nodes l)
    pub wrote : Wrote xs u ys e ms
    pub counts : count ms ≡ total

  pub record Going (xs : List ℕ) (u : ℕ) (c₀ : Cursor) (ys : List ℕ) (e total : ℕ) (c : Cursor) : Type 0 where
    pub above : u ≤ e
    pub few : total ≤ e
    pub fewer : left c ≤ left c₀
    pub room : e + tree_share * left c ≤ u + tree_share * left c₀
    pub same : length ys ≡ length xs
    pub on : (n : ℕ) → 8 * left c₀ + 4 ≤ n → (k : Place) → Stands src c₀ k → On xs u ys e total c (stmts src n o k)

  pub members_start : (xs : List ℕ) (u : ℕ) (c : Cursor) → u ≤ length xs → Going xs u c xs u 0 c
  unfolding join count
  members_start xs u c h = record {
    above = omega arith;
    few = omega arith;
    fewer = omega arith;
    room = omega arith;
    same = refl;
    on = λ n l k s. record { fuel = n; enough = l; at = k; stands = s; before = λ x. x; ms = no_more; is = whole (stmts src n o k); joins = λ x. refl; wrote = wrote_none h; counts = refl };
  }

  -- a member, and what follows it
  member_is : (n : ℕ) (k : Place) (s : Option Stmt) (k₁ : Place) → stmt src n o k ≡ got s k₁
      → stmts src (suc n) o k ≡ if_next src semicolon_sign (λ k. then (λ r k. got (both more s r) k) (stmts src n o k)) (λ k. got (map_o last s) k) k₁
  unfolding stmts
  member_is n k s k₁ e = ap (then _) e

  module _ {xs : List ℕ} {u : ℕ} {c₀ : Cursor} {ys : List ℕ} {e total : ℕ} {c : Cursor} (g : Going xs u c₀ ys e total c) where
    pub members_room : {s : ℕ} → Room src xs u s c₀ → Room src ys e s c
    members_room p =
        let a = g.on (8 * left c₀ + 4) (omega arith) p.place p.stands in
        record { place = a.at; stands = a.stands; short = p.short; small = omega (arith, g.same, p.small); room = omega (arith, g.same, g.room, p.room) }

    pub members_refused : {w : ℕ} → Refuses src (λ n. stmts src n o) (8 * left c + 4) c w → Refuses src (λ n. stmts src n o) (8 * left c₀ + 4) c₀ w
    members_refused h n l k s = let a = g.on n l k s in a.is ∙ ap (then _) (h a.fuel a.enough a.at a.stands)

    pub members_quiet : {zs : List ℕ} (d : Cursor) → Quietly some (λ v. v ≡ none) P.body src ys e zs (λ n. stmts src n o) (8 * left c + 4) c d → (v : ℕ) → v ≤ u
        → Quietly some (λ v. v ≡ none) P.body src xs v zs (λ n. stmts src n o) (8 * left c₀ + 4) c₀ d
    unfolding map_o
    members_quiet d z v i n l k s =
        let a = g.on n l k s in
        let x = z a.fuel a.enough a.at a.stands in
        record {
          value = map_o a.before x.value;
          empty = ap (map_o a.before) x.empty;
          at = x.at;
          is = a.is ∙ ap (then _) x.is;
          stands = x.stands;
          wrote = wrote_kept v i (wrote_more a.wrote x.wrote);
        }

    -- one member more is still few
    pub members_few : {zs : List ℕ} {f : ℕ} {d : Cursor} {r : Answer} → Tries P.statement src ys e zs (λ n. stmt src n o) (8 * left c + 3) 8 0 c r → r ≡ Node f d → {s : ℕ} → Room src xs u s c₀ → total + 1 ≤ f
    unfolding count
    members_few h q p =
        let b = members_room p in
        let x = made h q (8 * left c + 3) (omega arith) b.place b.stands in
        omega (arith, g.few, x.wrote.ends, sizes_least (P.statement x.value))

    module _ {zs : List ℕ} {f : ℕ} {d : Cursor} {r : Answer} (h : Tries P.statement src ys e zs (λ n. stmt src n o) (8 * left c + 3) 8 0 c r) (q : r ≡ Node f d) {v : Seen} (y : Sees src d v) {t : Cursor} (at : v ≡ Ok t) where
      -- `;`: the loop goes on
      pub members_more : t.token ≡ token_of semicolon_sign → {t' : Cursor} → t' ≡ taken t → suc (left t') ≡ left d → length zs ≡ length ys → {s : ℕ} → Room src xs u s c₀ → Going xs u c₀ zs f (total + 1) t'
      unfolding stmt_nodes join count
      members_more i {t'} z fw q' p =
          let w = grew h q in
          let b = members_room p in
          let x = made h q (8 * left c + 3) (omega arith) b.place b.stands in
          let big : e + 1 ≤ f = omega (arith, x.wrote.ends, sizes_least (P.statement x.value)) in
          record {
            above = omega (arith, g.above);
            few = omega (arith, g.few);
            fewer = omega (arith, g.fewer, w.fewer);
            room = omega (arith, g.room, w.room);
            same = q' ∙ g.same;
            on = λ n l k s.
                let a = g.on n l k s in
                by_suc (λ m. stmts src n o k ≡ after a.before (stmts src m o a.at) → On xs u zs f (total + 1) t' (stmts src n o k)) (8 * left c + 4) (omega arith)
                (λ m l' is.
                let x = made h q m (omega arith) a.at a.stands in
                let p = (saw y at x.at x.stands).1 in
                record {
                  fuel = m;
                  enough = omega (arith, w.fewer);
                  at = past src x.at;
                  stands = rw z p.beyond;
                  before = λ l. a.before (more x.value l);
                  ms = join a.ms (P.statement x.value);
                  is = is
                      ∙ ap (after a.before) (member_is m a.at (some x.value) x.at x.is ∙ next_is p semicolon_sign _ _ i ∙ then_same _ (λ l k. got (map_o (more x.value) l) k) (λ r k. ap (λ (v : Option Stmts). got v k) (both_some x.value r)) (stmts src m o (past src x.at)))
                      ∙ after_after a.before (more x.value) (stmts src m o (past src x.at));
                  joins = λ l. a.joins (more x.value l) ∙ sym (join_join a.ms (P.statement x.value) (stmt_nodes l));
                  wrote = wrote_more a.wrote x.wrote;
                  counts = omega (arith, count_join a.ms (P.statement x.value), a.counts);
                })
                a.fuel a.enough a.is;
          }

      -- no `;`: that was the last
      pub members_done : (t.token ≡ token_of semicolon_sign → ⊥) → left t ≡ left d → (w : ℕ) → u ≡ w + 4 → {ws : List ℕ} → Seals w (node_no body_kind) 0 (total + 1) f zs ws
          → Tries P.body src xs w ws (λ n. stmts src n o) (8 * left c₀ + 4) 0 0 c₀ (Node f t)
      unfolding Safe Means stmt_nodes join count map_o
      members_done i same w eq {ws} z =
          let m = grew h q in
          record {
            safe = record { above = omega (arith, g.above, m.above); fewer = omega (arith, g.fewer, m.fewer); room = omega (arith, g.room, m.room) };
            means = λ n l k s.
                let a = g.on n l k s in
                by_suc (λ m. stmts src n o k ≡ after a.before (stmts src m o a.at) → Made some (λ v. v ≡ none) P.body src xs w ws f t (stmts src n o k)) (8 * left c + 4) (omega arith)
                (λ m l' is.
                let x = made h q m (omega arith) a.at a.stands in
                let p = (saw y at x.at x.stands).1 in
                let lies : Wrote xs (w + 4) zs f (stmt_nodes (a.before (last x.value))) = subst (λ (y : ℕ). Wrote xs y zs f (stmt_nodes (a.before (last x.value)))) eq (rw (a.joins (last x.value)) (wrote_more a.wrote x.wrote)) in
                record {
                  value = a.before (last x.value);
                  at = x.at;
                  is = is ∙ ap (after a.before) (member_is m a.at (some x.value) x.at x.is ∙ next_is_not p semicolon_sign _ _ i);
                  stands = p.stands;
                  wrote = z.sealed xs body_kind (stmt_nodes (a.before (last x.value))) refl (rw (a.joins (last x.value)) (omega (arith, count_join a.ms (P.statement x.value), a.counts))) lies;
                })
                a.fuel a.enough a.is;
          }

  -- the member at c is refused, or the token after it is
  pub member_refused : {c : Cursor} {w : ℕ} → Refuses src (λ n. stmt src n o) (8 * left c + 3) c w → Refuses src (λ n. stmts src n o) (8 * left c + 4) c w
  unfolding stmts
  member_refused {c} {w} z = by_suc (λ n. (k : Place) → Stands src c k → stmts src n o k ≡ refuse w) (8 * left c + 4) (omega arith) (λ n l k s. ap (then _) (z n (omega arith) k s))

  pub member_stop : {c d : Cursor} {ys zs : List ℕ} {e f : ℕ} {r : Answer} → Tries P.statement src ys e zs (λ n. stmt src n o) (8 * left c + 3) 8 0 c r → r ≡ Node f d → {v : Seen} → Sees src d v → {w : Refusal} → v ≡ Err w
      → Refuses src (λ n. stmts src n o) (8 * left c + 4) c (number_of w)
  member_stop {c} h q y {w} e =
      by_suc (λ n. (k : Place) → Stands src c k → stmts src n o k ≡ refuse (number_of w)) (8 * left c + 4) (omega arith)
      (λ n l k s.
      let x = made h q n (omega arith) k s in
      member_is n k (some x.value) x.at x.is ∙ next_refused src semicolon_sign _ _ x.at (no_look y e x.at x.stands))

  -- the member at c yields nothing: the list is read on from d
  pub member_quiet : {c d : Cursor} {ys zs ws : List ℕ} {e : ℕ} {r : Answer} → Tries P.statement src ys e zs (λ n. stmt src n o) (8 * left c + 3) 8 0 c r → r ≡ Nothing d
      → {s : ℕ} → Room src ys e s c → (r' : Answer) → Quiets src zs e ws (λ n. quiet_rest src n o) (8 * left d + 1) d r' → Tries P.body src ys e ws (λ n. stmts src n o) (8 * left c + 4) 0 0 c r'
  unfolding quiet_rest Safe Means both map_o join
  member_quiet {c} {d} {ys} {zs} {ws} {e} h q p (Node j f) b =
      absurd (let x = quiet h q (8 * left c + 3) (omega arith) p.place p.stands in (b.means (8 * left d + 1) (omega arith) x.at x.stands).value)
  member_quiet {c} {d} {ys} {zs} {ws} {e} h q p (Nothing f) b =
      nothing (omega (arith, b.safe, quiet_left h q))
      (by_suc (λ n. (k : Place) → Stands src c k → Quiet some (λ v. v ≡ none) P.body src ys e ws f (stmts src n o k)) (8 * left c + 4) (omega arith)
      (λ n l k s.
      let x = quiet h q n (omega arith) k s in
      let y = b.means n (omega (arith, quiet_left h q)) x.at x.stands in
      record {
        value = y.value;
        empty = y.empty;
        at = y.at;
        is = member_is n k none x.at (x.is ∙ ap (λ (v : Option Stmt). got v x.at) x.empty) ∙ y.is;
        stands = y.stands;
        wrote = wrote_more x.wrote y.wrote;
      }))
  member_quiet {c} {d} {ys} {zs} {ws} {e} h q p (Refused m) b =
      refused
      (by_suc (λ n. (k : Place) → Stands src c k → stmts src n o k ≡ refuse m) (8 * left c + 4) (omega arith)
      (λ n l k s.
      let x = quiet h q n (omega arith) k s in
      member_is n k none x.at (x.is ∙ ap (λ (v : Option Stmt). got v x.at) x.empty) ∙ b.means n (omega (arith, quiet_left h q)) x.at x.stands))

  -- and so does the whole list
  pub members_read_on : {xs : List ℕ} {u : ℕ} {c₀ : Cursor} {ys : List ℕ} {e total : ℕ} {c : Cursor} → Going xs u c₀ ys e total c → {d : Cursor} {zs ws : List ℕ} {r : Answer}
      → Tries P.statement src ys e zs (λ n. stmt src n o) (8 * left c + 3) 8 0 c r → r ≡ Nothing d → {s : ℕ} → Room src xs u s c₀ → (w : ℕ) → w ≤ u
      → (r' : Answer) → Quiets src zs e ws (λ n. quiet_rest src n o) (8 * left d + 1) d r' → Tries P.body src xs w ws (λ n. stmts src n o) (8 * left c₀ + 4) 0 0 c₀ r'
  unfolding Safe Means
  members_read_on {xs} {u} {c₀} {ys} {e} {total} {c} g {d} h q p w i (Node j f) b =
      absurd (let a = members_room g p in let x = quiet h q (8 * left c + 3) (omega arith) a.place a.stands in (b.means (8 * left d + 1) (omega arith) x.at x.stands).value)
  members_read_on {xs} {u} {c₀} {ys} {e} {total} {c} g {d} h q p w i (Nothing f) b =
      nothing (omega (arith, b.safe, quiet_left h q, g.fewer)) (members_quiet g f (member_quiet h q (members_room g p) (Nothing f) b).means w i)
  members_read_on {xs} {u} {c₀} {ys} {e} {total} {c} g {d} h q p w i (Refused m) b = refused (members_refused g (member_quiet h q (members_room g p) (Refused m) b).means)

  -- whatever a member is, the list is read on after it
  quiet_again : (n : ℕ) (k : Place) (s : Option Stmt) (k₁ : Place) → stmt src n o k ≡ got s k₁ → then (λ r k. got none k) (stmts src (suc n) o k) ≡ quiet_rest src n o k₁
  unfolding quiet_rest
  quiet_again n k s k₁ e =
      ap (then (λ r k. got none k)) (member_is n k s k₁ e)
      ∙ next_then src semicolon_sign (λ r k. got none k) (λ k. then (λ r k. got (both more s r) k) (stmts src n o k)) (λ k. got (map_o last s) k) k₁
      ∙ next_same src semicolon_sign _ _ (λ k. then (λ r k. got none k) (stmts src n o k)) (λ k. got none k) (λ k. then_then (λ r k. got none k) (λ r k. got (both more s r) k) (stmts src n o k)) (λ k. refl) k₁

  -- the definition at the loop's start is that at its head
  pub record At' (c : Cursor) (a : Ans (Option Stmts)) : Type 0 where
    pub fuel : ℕ
    pub enough : 8 * left c + 1 ≤ fuel
    pub at : Place
    pub stands : Stands src c at
    pub is : a ≡ quiet_rest src fuel o at

  pub record Reading (xs : List ℕ) (u : ℕ) (c₀ : Cursor) (ys : List ℕ) (c : Cursor) : Type 0 where
    pub fewer : left c ≤ left c₀
    pub same : length ys ≡ length xs
    pub kept : Wrote xs u ys u no_more
    pub on : (n : ℕ) → 8 * left c₀ + 1 ≤ n → (k : Place) → Stands src c₀ k → At' c (quiet_rest src n o k)

  pub reading_start : (xs : List ℕ) (u : ℕ) (c : Cursor) → u ≤ length xs → Reading xs u c xs c
  reading_start xs u c h = record { fewer = omega arith; same = refl; kept = wrote_none h; on = λ n l k s. record { fuel = n; enough = l; at = k; stands = s; is = refl } }

  module _ {xs : List ℕ} {u : ℕ} {c₀ : Cursor} {ys : List ℕ} {c : Cursor} (g : Reading xs u c₀ ys c) where
    pub reading_room : {s : ℕ} → Room src xs u s c₀ → Room src ys u s c
    reading_room p =
        let a = g.on (8 * left c₀ + 1) (omega arith) p.place p.stands in
        record { place = a.at; stands = a.stands; short = p.short; small = omega (arith, g.same, p.small); room = omega (arith, g.same, g.fewer, p.room) }

    module _ {v : Seen} (y : Sees src c v) where
      pub reading_stop : {n : Refusal} → v ≡ Err n → Refuses src (λ n. quiet_rest src n o) (8 * left c₀ + 1) c₀ (number_of n)
      unfolding quiet_rest
      reading_stop e n l k s = let a = g.on n l k s in a.is ∙ next_refused src semicolon_sign _ _ a.at (no_look y e a.at a.stands)

      module _ {d : Cursor} (at : v ≡ Ok d) where
        pub reading_end : (d.token ≡ token_of semicolon_sign → ⊥) → left d ≡ left c → Quiets src xs u ys (λ n. quiet_rest src n o) (8 * left c₀ + 1) c₀ (Nothing d)
        unfolding quiet_rest
        reading_end i m =
            nothing (omega (arith, g.fewer))
            (λ n l k s.
            let a = g.on n l k s in
            let p = (saw y at a.at a.stands).1 in
            record { value = none; empty = refl; at = a.at; is = a.is ∙ next_is_not p semicolon_sign _ _ i; stands = p.stands; wrote = g.kept })

        module _ (i : d.token ≡ token_of semicolon_sign) {t : Cursor} (e : t ≡ taken d) (fw : suc (left t) ≡ left c) where
          -- at a `;`
          at_semicolon : (n : ℕ) → 8 * left c₀ + 1 ≤ n → (k : Place) → Stands src c₀ k → (P : Ans (Option Stmts) → Type 0)
              → ((m : ℕ) → 8 * left c ≤ m → (k₁ : Place) → Stands src t k₁ → P (then (λ r k. got none k) (stmts src (suc m) o k₁))) → P (quiet_rest src n o k)
          unfolding quiet_rest
          at_semicolon n l k s P f =
              let a = g.on n l k s in
              let p = (saw y at a.at a.stands).1 in
              by_suc (λ x. quiet_rest src n o k ≡ quiet_rest src x o a.at → P (quiet_rest src n o k)) (8 * left c + 1) (omega arith)
              (λ m l' is. subst P (sym (is ∙ next_is p semicolon_sign _ _ i)) (f m (omega arith) (past src a.at) (rw e p.beyond)))
              a.fuel a.enough a.is

          pub reading_more : {zs : List ℕ} {s' : ℕ} → Room src ys u s' t → (j : Perhaps ℕ) {t' : Cursor} → Tries P.statement src ys u zs (λ n. stmt src n o) (8 * left t + 3) 8 0 t (try_of (Ok (j, t'))) → length zs ≡ length ys → Reading xs u c₀ zs t'
          unfolding join
          reading_more rm j {t'} h len = record {
            fewer = omega (arith, g.fewer, try_left j t' h);
            same = len ∙ g.same;
            kept = wrote_more g.kept (went j h (8 * left t + 3) (omega arith) rm.place rm.stands).wrote;
            on = λ n l k s. at_semicolon n l k s (At' t')
                (λ m l' k₁ s₁.
                let x = went j h m (omega arith) k₁ s₁ in
                record { fuel = m; enough = omega (arith, try_left j t' h); at = x.at; stands = x.stands; is = quiet_again m k₁ x.value x.at x.is });
          }

          pub reading_refused : {w : ℕ} → Refuses src (λ n. stmt src n o) (8 * left t + 3) t w → Refuses src (λ n. quiet_rest src n o) (8 * left c₀ + 1) c₀ w
          unfolding stmts
          reading_refused {w} z n l k s = at_semicolon n l k s (λ a. a ≡ refuse w) (λ x l' k₁ s₁. ap (then _) (ap (then _) (z x (omega arith) k₁ s₁)))

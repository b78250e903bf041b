-- Laws of procedures, one for each way that their translation returns.
use mathlib.Core.Path.{◌≡◌, refl, sym, ap, ◌∙◌}
use mathlib.Core.Bool.{Bool, true, false}
use mathlib.Core.List.{List, [], ◌∷◌, ◌++◌}
use Prim.Native.Nat.{ℕ, suc, ◌+◌, ◌*◌, ◌≤◌, ◌<◌}
use native.Mathlib.Omega.{arith}
use native.Mathlib.Numerals.{add-one}
use lib.IntN.{ℤ, pos}
use lib.Dec.{ltb}
use lib.ListN.{length, get_or, take, set, length-append}
use borrow.Author.Tests.{lt-ltb, ltb-false}
use Rattle.std.specs.Prelude.{Result, Ok, Err}
use Rattle.numbers.specs.Limits.{max_code, row_share, draft_places, draft_share}
use Rattle.numbers.specs.Panel.{too_many_instructions}
use Rattle.numbers.specs.declared.refusal.Refusal.{Refusal}
use Rattle.numbers.specs.Refusals.{number_of}
use Rattle.numbers.specs.Stack.{links}
use Rattle.lexer.specs.Tokens.{Name}
use Rattle.tree.specs.Tree.{Const, Stmts, Procs, no_procs, proc}
use Rattle.tree.specs.Layout.{no_procedures_kind, procedure_kind, Nodes, half, no_more, member, node_no}
use Rattle.tree.specs.Nodes.{consts_node, names_node, procs_node, body_node}
use Rattle.tree.specs.Named.{NamedProcs}
use Rattle.tree.specs.Reading.{Two, two_at, next_at, After}
use Rattle.tree.specs.Heads.{node_head, ProcsIs, is_none, is_proc, procs_is, procs_head_lem}
use Rattle.tree.specs.Parts.{name_first}
use Rattle.pcode.specs.Code.{Op, JMP, Instr, ins}
use Rattle.symbols.specs.Symbols.{Scope, Row}
use Rattle.symbols.specs.Table.{rows_in, scope_at, Sound, Seen, Kept, Became, with_value}
use Rattle.symbols.specs.Chains.{scope_kept}
use Rattle.symbols.specs.Kept.{rows_length, scoped_kept, kept_on}
use Rattle.emission.specs.declared.Env.{Env as CodeEnv}
use Rattle.translator.specs.declared.declarations.Frame.{Frame}
use Rattle.translator.specs.declared.procedures.Place.{Place}
use Rattle.emission.specs.Pieces.{Out, made, refuse, emit, jump_over}
use Rattle.emission.specs.Statements.{Env}
use Rattle.translator.specs.Translate.{Done, finished, failed, with_done, entry_at, procs_code}
use Rattle.emission.specs.Draft.{drafted, Wrote, Emits, wrote, refused}
use Rattle.emission.specs.Meets.{here_of, Known}
use Rattle.translator.specs.Rows.{HeadingAt, Head, Headed, headed, unheaded}
use Rattle.translator.specs.Blocks.{inside_code, end_code, Start, Through, Means, through, not, ProcsAt, HasProcs, InsideAt, BodyAt}
use Rattle.emission.specs.Drafting.{wrote_at, lies_on, append_nil}
use Rattle.emission.specs.Jumps.{One, one, jump_made}
use Rattle.translator.proofs.Rowing.{head_numbers}
use Rattle.translator.proofs.Blocks.{within, so_far, head_refused, no_place, inside_refused, end_refused, end_made}
use Rattle.translator.proofs.Insides.{rest_at, procs_at, procs_fit}

-- no procedures
pub none_here : {s tr xs ds : List ℕ} {i : ℕ} (p : Place) → get_or tr i 0 ≡ node_no no_procedures_kind → Start s xs ds p → (sc : Scope) → (t : Procs) → ProcsAt s tr i t → Means (procs_code t p.frame.level sc p.frame.address (rows_in s xs p.used) p.n) s xs p.used ds p.n xs ds (Ok p)
unfolding procs_code drafted
none_here {s} {tr} {xs} {ds} {i} p k g sc t a = of (procs_is (node_head no_procedures_kind) tr i t k a.stands)
  where
    of : {u : Procs} → ProcsIs (node_head no_procedures_kind) u → Means (procs_code u p.frame.level sc p.frame.address (rows_in s xs p.used) p.n) s xs p.used ds p.n xs ds (Ok p)
    of is_none = through {q = p} (record {
      code = [];
      is = refl;
      sound = g.sound;
      above = omega arith;
      kept = record { lasts = refl; at = λ i f h l. refl };
      low = g.low;
      ends = omega arith;
      lies = append_nil (take (draft_share * p.n) ds);
      most = g.most;
    })

-- a procedure, where there are some
pub record Nested (s tr : List ℕ) (i : ℕ) (n : Name) (ar : List Name) (cs : List Const) (vs : List Name) (inner : Procs) (b : Stmts) (later : Procs) : Type 0 where
  pub heading : HeadingAt s tr i n ar
  pub inside : {j : ℕ} → After tr (i + 8) j → InsideAt s tr j cs vs inner
  pub body : {j j₁ j₂ j₃ : ℕ} → After tr (i + 8) j → After tr j j₁ → After tr j₁ j₂ → After tr j₂ j₃ → BodyAt s tr j₃ b
  pub later_at : {j j₁ j₂ j₃ j₄ : ℕ} → After tr (i + 8) j → After tr j j₁ → After tr j₁ j₂ → After tr j₂ j₃ → After tr j₃ j₄ → ProcsAt s tr j₄ later
  pub inside_fits : {j : ℕ} → After tr (i + 8) j → (i + 12 ≤ j) × (j + 4 ≤ length tr)
  pub later_fits : {j j₁ j₂ j₃ j₄ : ℕ} → After tr (i + 8) j → After tr j j₁ → After tr j₁ j₂ → After tr j₂ j₃ → After tr j₃ j₄ → (i + 12 ≤ j₄) × (j₄ + 4 ≤ length tr)

module _ {s tr : List ℕ} {i : ℕ} {n : Name} {ar : List Name} {cs : List Const} {vs : List Name} {inner : Procs} {b : Stmts} {later : Procs} (a : ProcsAt s tr i (proc n ar cs vs inner b later)) where
  abbrev ends : Nodes
  ends = member (body_node b) (member (procs_node later) no_more)

  abbrev lists : Nodes
  lists = member (consts_node cs) (member (names_node vs) (member (procs_node inner) ends))

  args : Two tr (i + 8) (names_node ar) lists
  unfolding procs_node
  args = two_at tr (i + 8) (names_node ar) lists (name_first tr i procedure_kind n (member (names_node ar) lists) a.stands).others

  head : HeadingAt s tr i n ar
  unfolding procs_node NamedProcs
  head = record { others = lists; stands = a.stands; named = a.named.0; args_named = a.named.1.0 }

  within_at : {j : ℕ} → After tr (i + 8) j → InsideAt s tr j cs vs inner
  unfolding NamedProcs
  within_at g = record { others = ends; stands = rw (g (names_node ar) args.one) args.others; consts_named = a.named.1.1.0; vars_named = a.named.1.1.1.0; procs_named = a.named.1.1.1.1.0 }

  consts : {j : ℕ} → After tr (i + 8) j → Two tr j (consts_node cs) (member (names_node vs) (member (procs_node inner) ends))
  consts {j} g = next_at tr (i + 8) j (names_node ar) (consts_node cs) (member (names_node vs) (member (procs_node inner) ends)) g args

  module _ {j j₁ j₂ j₃ : ℕ} (g : After tr (i + 8) j) (g₁ : After tr j j₁) (g₂ : After tr j₁ j₂) (g₃ : After tr j₂ j₃) where
    main : Two tr j₃ (body_node b) (member (procs_node later) no_more)
    unfolding within_at
    main = rest_at (within_at g) g₁ g₂ g₃ (body_node b) (member (procs_node later) no_more) refl

    others : {j₄ : ℕ} → After tr j₃ j₄ → Two tr j₄ (procs_node later) no_more
    others {j₄} g₄ = next_at tr j₃ j₄ (body_node b) (procs_node later) no_more g₄ main

    body_here : BodyAt s tr j₃ b
    unfolding NamedProcs
    body_here = record { stands = main.one; named = a.named.1.1.1.1.1.0 }

    later_here : {j₄ : ℕ} → After tr j₃ j₄ → ProcsAt s tr j₄ later
    unfolding NamedProcs
    later_here g₄ = record { stands = (others g₄).one; named = a.named.1.1.1.1.1.1 }

    later_there : {j₄ : ℕ} → After tr j₃ j₄ → (i + 12 ≤ j₄) × (j₄ + 4 ≤ length tr)
    later_there {j₄} g₄ = (
      omega (arith, g (names_node ar) args.one, args.least, (procs_fit (within_at g) g₁ g₂).0, g₃ (procs_node inner) (procs_at (within_at g) g₁ g₂).stands, g₄ (body_node b) main.one),
      omega (arith, (others g₄).fits, (others g₄).least),
    )

  pub nested : Nested s tr i n ar cs vs inner b later
  nested = record {
    heading = head;
    inside = within_at;
    body = body_here;
    later_at = λ g g₁ g₂ g₃ g₄. later_here g g₁ g₂ g₃ g₄;
    inside_fits = λ g. (omega (arith, g (names_node ar) args.one, args.least), omega (arith, (consts g).fits, (consts g).least));
    later_fits = λ g g₁ g₂ g₃ g₄. later_there g g₁ g₂ g₃ g₄;
  }

-- what is not none is one
is_proc_lem : {s tr : List ℕ} {i : ℕ} → (get_or tr i 0 ≡ node_no no_procedures_kind → ⊥) → (t : Procs) → ProcsAt s tr i t → ProcsIs (node_head procedure_kind) t
is_proc_lem {s} {tr} {i} k no_procs a = absurd (k (procs_head_lem tr i no_procs a.stands).kind)
is_proc_lem k (proc n ar cs vs inner b later) a = is_proc n ar cs vs inner b later

-- whatever the procedure is, if it holds of each
pub of_proc : {s tr : List ℕ} {i : ℕ} (P : Procs → Type 0) → (get_or tr i 0 ≡ node_no no_procedures_kind → ⊥)
    → ((n : Name) (ar : List Name) (cs : List Const) (vs : List Name) (inner : Procs) (b : Stmts) (later : Procs) → Nested s tr i n ar cs vs inner b later → P (proc n ar cs vs inner b later))
    → (t : Procs) → ProcsAt s tr i t → P t
of_proc {s} {tr} {i} P k h t a = of (is_proc_lem k t a) a
  where
    of : {u : Procs} → ProcsIs (node_head procedure_kind) u → ProcsAt s tr i u → P u
    of (is_proc n ar cs vs inner b later) x = h n ar cs vs inner b later (nested x)

-- the procedure that stands there
pub record HasNested (s tr : List ℕ) (i : ℕ) : Type 0 where
  pub name : Name
  pub args : List Name
  pub consts : List Const
  pub vars : List Name
  pub inner : Procs
  pub stmts : Stmts
  pub later : Procs
  pub at : Nested s tr i name args consts vars inner stmts later

pub has_nested : {s tr : List ℕ} {i : ℕ} → (get_or tr i 0 ≡ node_no no_procedures_kind → ⊥) → HasProcs s tr i → HasNested s tr i
has_nested {s} {tr} {i} k h = of_proc (λ (t : Procs). HasNested s tr i) k (λ n ar cs vs inner b later x. record { name = n; args = ar; consts = cs; vars = vs; inner = inner; stmts = b; later = later; at = x }) h.procs h.at

-- an instruction that was refused
no_room : (o : Op) (l : ℕ) (a : ℤ) (n e : ℕ) (b : Bool) → ltb n max_code ≡ b → ◌≡◌ {A = Out} (elim b [ true ↦ made (ins o l a ∷ []) | false ↦ refuse too_many_instructions ]) (refuse e) → (max_code ≤ n) × (e ≡ too_many_instructions)
no_room o l a n e true q h = let z : ◌≡◌ {A = ℕ} 0 1 = cc in absurd (omega arith)
no_room o l a n e false q h = (ltb-false n max_code q, cc)

pub emit_refused : (o : Op) (l : ℕ) (a : ℤ) (n e : ℕ) → emit o l a n ≡ refuse e → (max_code ≤ n) × (e ≡ too_many_instructions)
unfolding emit
emit_refused o l a n e h = no_room o l a n e (ltb n max_code) refl h

headed_at : {m : Name} {ar : List Name} {s xs ys : List ℕ} {k : ℕ} {f : Frame} {u : ℕ} → Headed m ar s xs k f ys (Ok u) → Head m ar s xs k f ys u
headed_at (headed w) = w

pub through_at : {o : Done} {s xs : List ℕ} {k : ℕ} {ds : List ℕ} {n : ℕ} {ys es : List ℕ} {q : Place} → Means o s xs k ds n ys es (Ok q) → Through o s xs k ds n ys es q
through_at (through t) = t

made_same : (c d : List Instr) → made c ≡ made d → c ≡ d
made_same c d e = cc

-- a jump over code that is known, pointed k places past it
pub jump_lies : (k n m : ℕ) {ds es : List ℕ} (c : List Instr) → One JMP 0 (pos 0) n m ds es → (fs : List ℕ) (q v : ℕ) → q ≡ m + length c → q ≤ max_code → v ≡ q + k → v < half → draft_places ≤ length ds
    → take (draft_share * q) fs ≡ take (draft_share * m) es ++ drafted c → take (draft_share * q) (set fs (draft_share * n + 2) v) ≡ take (draft_share * n) ds ++ drafted (ins JMP 0 (pos v) ∷ c)
unfolding jump_over
jump_lies k n m {ds} {es} c w fs q v e b ev small room l =
    let j = wrote_at (jump_made JMP k n m (λ z. made c) w v ev small room (wrote {m = q} (record { code = c; is = refl; ends = e; lies = l; most = b }))) in
    let is : jump_over JMP k (λ z. made c) n ≡ made (ins JMP 0 (pos (suc n + length c + k)) ∷ c) = rw (lt-ltb n max_code w.below, jump_over) in
    let ve : suc n + length c + k ≡ v = omega (arith, w.ends) in
    j.lies ∙ ap (λ (x : List Instr). take (draft_share * n) ds ++ drafted x) (made_same j.code (ins JMP 0 (pos (suc n + length c + k)) ∷ c) (sym j.is ∙ is) ∙ ap (λ (x : ℕ). ins JMP 0 (pos x) ∷ c) ve)

-- what is refused on the way refuses the whole
pub refused_code : {o : Done} {x : Out} {s xs : List ℕ} {k : ℕ} {ds : List ℕ} {n : ℕ} {ys es : List ℕ} {n' : ℕ} {vs ws : List ℕ} {e : Refusal} → ((k : ℕ) → x ≡ refuse k → o ≡ failed k) → Emits x n' vs ws (Err e) → Means o s xs k ds n ys es (Err e)
refused_code {e} f (refused h) = not {e = e} (f (number_of e) h)

-- the context of a body: with the text s and the table xs of k rows, in a scope at a level
pub record Around (s xs : List ℕ) (k p l : ℕ) (e : CodeEnv) : Type 0 where
  pub text : e.text.now ≡ s
  pub table : e.table.now ≡ xs
  pub used : e.used ≡ k
  pub scope : e.scope ≡ p
  pub level : e.level ≡ l

module _ {s xs : List ℕ} {k p l : ℕ} {e : CodeEnv} (w : Around s xs k p l e) where
  pub around_known : Sound s xs k → Seen xs k p → Known e
  around_known g v = record { sound = rw (w.text, w.table, w.used) g; seen = rw (w.table, w.used, w.scope) v }

  pub around_is : here_of e ≡ record { rows = rows_in s xs k; level = l; scope = scope_at s xs p }
  unfolding here_of
  around_is = rw (w.text, w.table, w.used, w.scope, w.level)

module _ (s tr xs ds : List ℕ) (i : ℕ) (p : Place) (G : Start s xs ds p) {n : Name} {ar : List Name} {cs : List Const} {vs : List Name} {inner : Procs} {b : Stmts} {later : Procs} (x : Nested s tr i n ar cs vs inner b later) where
  abbrev sc : Scope
  sc = scope_at s xs p.frame.scope

  abbrev rs : List Row
  rs = rows_in s xs p.used

  abbrev whole : Done
  whole = procs_code (proc n ar cs vs inner b later) p.frame.level sc p.frame.address rs p.n

  abbrev size : ℕ
  size = get_or tr (i + 10) 0

  size_is : size ≡ length ar
  size_is = (head_numbers x.heading).size_is

  module _ {ys : List ℕ} where
    pub head_stop : {e : Refusal} → Headed n ar s xs p.used p.frame ys (Err e) → {ys' es : List ℕ} → Means whole s xs p.used ds p.n ys' es (Err e)
    head_stop {e} (unheaded w) = not {e = e} (head_refused n ar cs vs inner b later p.frame.level sc p.frame.address rs p.n w)

    module _ {u : ℕ} (hh : Headed n ar s xs p.used p.frame ys (Ok u)) where
      H : Head n ar s xs p.used p.frame ys u
      H = headed_at hh

      pub inner_low : 3 + size ≤ u + links
      inner_low = omega (arith, H.more, size_is)

      pub size_small : size ≤ max_code
      size_small = omega (arith, H.more, size_is, H.rowed.sound.linked.most)

      module _ {es : List ℕ} where
        pub jump_stop : {e : Refusal} → Emits (emit JMP 0 (pos 0) p.n) p.n ds es (Err e) → {ys' es' : List ℕ} → Means whole s xs p.used ds p.n ys' es' (Err e)
        jump_stop hj = refused_code (λ k w. let v = emit_refused JMP 0 (pos 0) p.n k w in no_place n ar cs vs inner b later p.frame.level sc p.frame.address rs p.n (rows_in s ys u) H.rowed.is v.0 ∙ ap failed (sym v.1)) hj

        module _ {m : ℕ} (hj : Emits (emit JMP 0 (pos 0) p.n) p.n ds es (Ok m)) where
          J : One JMP 0 (pos 0) p.n m ds es
          J = one hj

          pub inner_start : length es ≡ length ds → Start s ys es (record { frame = record { scope = p.used + 1; level = p.frame.level + 1; address = 3 + size }; used = u; n = m })
          inner_start e = record {
            sound = H.rowed.sound;
            scoped = H.inner;
            level = omega (arith, G.level, H.more);
            low = inner_low;
            room = omega (arith, G.room);
            most = omega (arith, J.below, J.ends);
          }

          inside_is : inside_code cs vs inner (suc p.frame.level) (n.text ∷ sc) (links + length ar) (rows_in s ys u) (p.n + 1) ≡ inside_code cs vs inner (p.frame.level + 1) (scope_at s ys (p.used + 1)) (3 + size) (rows_in s ys u) m
          inside_is =
              ap (λ (l : ℕ). inside_code cs vs inner l (n.text ∷ sc) (links + length ar) (rows_in s ys u) (p.n + 1)) (sym (add-one p.frame.level))
              ∙ ap (λ (c : Scope). inside_code cs vs inner (p.frame.level + 1) c (links + length ar) (rows_in s ys u) (p.n + 1)) (sym H.inner_is)
              ∙ ap (λ (a : ℕ). inside_code cs vs inner (p.frame.level + 1) (scope_at s ys (p.used + 1)) (links + a) (rows_in s ys u) (p.n + 1)) (sym size_is)
              ∙ ap (inside_code cs vs inner (p.frame.level + 1) (scope_at s ys (p.used + 1)) (3 + size) (rows_in s ys u)) (sym J.ends)

          module _ {ys₂ es₂ : List ℕ} where
            pub inside_stop : {e : Refusal} → Means (inside_code cs vs inner (p.frame.level + 1) (scope_at s ys (p.used + 1)) (3 + size) (rows_in s ys u) m) s ys u es m ys₂ es₂ (Err e) → {ys' es' : List ℕ} → Means whole s xs p.used ds p.n ys' es' (Err e)
            inside_stop {e} (not w) = not {e = e} (inside_refused n ar cs vs inner b later p.frame.level sc p.frame.address rs p.n (rows_in s ys u) H.rowed.is J.below (inside_is ∙ w))

            module _ {q : Place} (hd : Means (inside_code cs vs inner (p.frame.level + 1) (scope_at s ys (p.used + 1)) (3 + size) (rows_in s ys u) m) s ys u es m ys₂ es₂ (Ok q)) where
              T : Through (inside_code cs vs inner (p.frame.level + 1) (scope_at s ys (p.used + 1)) (3 + size) (rows_in s ys u) m) s ys u es m ys₂ es₂ q
              T = through_at hd

              entry_is : q.n ≡ p.n + 1 + length T.code
              entry_is = omega (arith, T.ends, J.ends)

              pub entered : (p.used < q.used) × (q.used ≤ 512) × (q.n ≤ max_code) × Sound s ys₂ q.used × (p.n < max_code)
              entered = (omega (arith, T.above, H.more), T.sound.linked.most, T.most, T.sound, J.below)

              module _ {ys₃ ys₄ : List ℕ} (he : Became 9 s ys₂ q.used (with_value (rows_in s ys₂ q.used) p.used q.n) ys₃) (hs : Became 11 s ys₃ q.used (rows_in s ys₃ q.used) ys₄) where
                rows₄ : rows_in s ys₄ q.used ≡ entry_at (rows_in s ys₂ q.used) (length rs) (p.n + 1 + length T.code)
                rows₄ = hs.rows_are ∙ he.rows_are ∙ ap (λ (v : ℕ). with_value (rows_in s ys₂ q.used) p.used v) entry_is ∙ ap (λ (k : ℕ). with_value (rows_in s ys₂ q.used) k (p.n + 1 + length T.code)) (sym (rows_length s xs p.used))

                kept₄ : Kept 9 q.used ys₂ ys₄
                kept₄ = kept_on 9 q.used 9 11 q.used ys₂ ys₃ ys₄ (omega arith) (omega arith) (omega arith) he.kept hs.kept

                kept_all : Kept 9 p.used xs ys₄
                kept_all =
                    kept_on 9 p.used 9 9 q.used xs ys₂ ys₄ (omega arith) (omega arith) (omega (arith, entered.0))
                    (kept_on 9 p.used row_share 9 u xs ys ys₂ (omega arith) (omega arith) (omega (arith, H.more)) H.rowed.kept T.kept) kept₄

                scope₄ : scope_at s ys₄ (p.used + 1) ≡ n.text ∷ sc
                scope₄ =
                    scope_kept 9 q.used s ys₂ ys₄ (omega arith) T.sound.linked kept₄ (p.used + 1) (omega (arith, entered.0))
                    ∙ scope_kept 9 u s ys ys₂ (omega arith) H.rowed.sound.linked T.kept (p.used + 1) (omega (arith, H.more))
                    ∙ H.inner_is

                outer₄ : scope_at s ys₄ p.frame.scope ≡ sc
                outer₄ = scope_kept 9 p.used s xs ys₄ (omega arith) G.sound.linked kept_all p.frame.scope G.scoped.known

                module _ (e : CodeEnv) (we : Around s ys₄ q.used (p.used + 1) (p.frame.level + 1) e) where
                  pub env_known : Seen ys₄ q.used (p.used + 1) → Known e
                  env_known v = around_known we hs.sound v

                  here_is : here_of e ≡ within n ar cs vs inner b later p.frame.level sc p.frame.address rs p.n T.code (rows_in s ys₂ q.used)
                  here_is = around_is we ∙ rw (rows₄, scope₄, add-one p.frame.level)

                  end_is : end_code (within n ar cs vs inner b later p.frame.level sc p.frame.address rs p.n T.code (rows_in s ys₂ q.used)) q.frame.address (length ar) b (p.n + 1 + length T.code) ≡ end_code (here_of e) q.frame.address size b q.n
                  end_is =
                      ap (λ (ρ : Env). end_code ρ q.frame.address (length ar) b (p.n + 1 + length T.code)) (sym here_is)
                      ∙ ap (λ (k : ℕ). end_code (here_of e) q.frame.address k b (p.n + 1 + length T.code)) (sym size_is)
                      ∙ ap (end_code (here_of e) q.frame.address size b) (sym entry_is)

                  module _ {es₃ es₄ : List ℕ} (hf : es₃ ≡ set es₂ (draft_share * p.n + 2) (q.n + size)) where
                    pub end_stop : {x : Refusal} → Emits (end_code (here_of e) q.frame.address size b q.n) q.n es₃ es₄ (Err x) → {ys' es' : List ℕ} → Means whole s xs p.used ds p.n ys' es' (Err x)
                    end_stop hb = refused_code (λ k w. end_refused n ar cs vs inner b later p.frame.level sc p.frame.address rs p.n (rows_in s ys u) H.rowed.is J.below T.code (rows_in s ys₂ q.used) q.frame.address (inside_is ∙ T.is) (end_is ∙ w)) hb

                    module _ {z : ℕ} (hb : Emits (end_code (here_of e) q.frame.address size b q.n) q.n es₃ es₄ (Ok z)) where
                      E : Wrote (end_code (here_of e) q.frame.address size b q.n) q.n es₃ es₄ z
                      E = wrote_at hb

                      pub later_start : length es₄ ≡ length ds → Start s ys₄ es₄ (record { frame = record { scope = p.frame.scope; level = p.frame.level; address = p.frame.address + 1 }; used = q.used; n = z })
                      later_start l = record {
                        sound = hs.sound;
                        scoped = scoped_kept 9 p.used q.used xs ys₄ p.frame.scope (omega arith) (omega (arith, entered.0)) kept_all G.scoped;
                        level = omega (arith, G.level, entered.0);
                        low = omega (arith, G.low, entered.0);
                        room = omega (arith, G.room);
                        most = E.most;
                      }

                      abbrev c : List Instr
                      c = so_far n ar cs vs inner b later p.frame.level sc p.frame.address rs p.n T.code E.code

                      length_c : p.n + length c ≡ z
                      length_c = omega (arith, E.ends, entry_is, length-append T.code E.code)

                      lies_c : take (draft_share * z) es₄ ≡ take (draft_share * p.n) ds ++ drafted c
                      lies_c =
                          let v : q.n + size ≡ p.n + 1 + length T.code + length ar = omega (arith, entry_is, size_is) in
                          lies_on (take (draft_share * p.n) ds) (ins JMP 0 (pos (p.n + 1 + length T.code + length ar)) ∷ T.code) E.code (take (draft_share * q.n) es₃) (take (draft_share * z) es₄)
                          (ap (take (draft_share * q.n)) hf
                          ∙ jump_lies size p.n m T.code J es₂ q.n (q.n + size) T.ends T.most refl (omega (arith, T.most, size_small)) G.room T.lies
                          ∙ ap (λ (k : ℕ). take (draft_share * p.n) ds ++ drafted (ins JMP 0 (pos k) ∷ T.code)) v)
                          E.lies

                      whole_is : whole ≡ with_done (procs_code later p.frame.level (scope_at s ys₄ p.frame.scope) (p.frame.address + 1) (rows_in s ys₄ q.used) z) (λ c3 r7 a3. finished (c ++ c3) r7 a3)
                      whole_is =
                          end_made n ar cs vs inner b later p.frame.level sc p.frame.address rs p.n (rows_in s ys u) H.rowed.is J.below T.code (rows_in s ys₂ q.used) q.frame.address (inside_is ∙ T.is) E.code (end_is ∙ E.is)
                          ∙ ap (λ (d : Done). with_done d λ c3 r7 a3. finished (c ++ c3) r7 a3)
                          (ap (λ (k : ℕ). procs_code later p.frame.level sc (suc p.frame.address) (entry_at (rows_in s ys₂ q.used) (length rs) (p.n + 1 + length T.code)) k) length_c
                          ∙ ap (λ (t : List Row). procs_code later p.frame.level sc (suc p.frame.address) t z) (sym rows₄)
                          ∙ ap (λ (t : ℕ). procs_code later p.frame.level sc t (rows_in s ys₄ q.used) z) (sym (add-one p.frame.address))
                          ∙ ap (λ (t : Scope). procs_code later p.frame.level t (p.frame.address + 1) (rows_in s ys₄ q.used) z) (sym outer₄))

                      pub later_made : {ys₅ es₅ : List ℕ} {r : Result Place Refusal} → Means (procs_code later p.frame.level (scope_at s ys₄ p.frame.scope) (p.frame.address + 1) (rows_in s ys₄ q.used) z) s ys₄ q.used es₄ z ys₅ es₅ r → Means whole s xs p.used ds p.n ys₅ es₅ r
                      later_made {ys₅} {es₅} (through {q = v} t) = through {q = v} (record {
                        code = c ++ t.code;
                        is = whole_is ∙ ap (λ (d : Done). with_done d λ c3 r7 a3. finished (c ++ c3) r7 a3) t.is;
                        sound = t.sound;
                        above = omega (arith, t.above, entered.0);
                        kept = kept_on 9 p.used 9 9 q.used xs ys₄ ys₅ (omega arith) (omega arith) (omega (arith, entered.0)) kept_all t.kept;
                        low = t.low;
                        ends = omega (arith, t.ends, length_c, length-append c t.code);
                        lies = lies_on (take (draft_share * p.n) ds) c t.code (take (draft_share * z) es₄) (take (draft_share * v.n) es₅) lies_c t.lies;
                        most = t.most;
                      })
                      later_made (not {e = k} w) = not {e = k} (whole_is ∙ ap (λ (d : Done). with_done d λ c3 r7 a3. finished (c ++ c3) r7 a3) w)

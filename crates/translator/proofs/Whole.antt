-- Laws of the main block.
use mathlib.Core.Path.{◌≡◌, refl, sym, ap, ◌∙◌}
use mathlib.Core.List.{List, [], ◌∷◌, ◌++◌}
use Prim.Native.Nat.{ℕ, ◌+◌, ◌*◌, ◌≤◌}
use native.Mathlib.Omega.{arith}
use lib.IntN.{pos}
use lib.ListN.{length, take, set, length-append}
use Rattle.std.specs.Prelude.{Ok, Err}
use Rattle.numbers.specs.Limits.{max_code, table_places, draft_places, draft_share}
use Rattle.numbers.specs.Stack.{links}
use Rattle.numbers.specs.declared.refusal.Refusal.{Refusal}
use Rattle.numbers.specs.Refusals.{number_of}
use Rattle.tree.specs.Tree.{Block}
use Rattle.tree.specs.Layout.{block_kind, no_more, member}
use Rattle.tree.specs.Nodes.{consts_node, names_node, procs_node, body_node, block_node}
use Rattle.tree.specs.Reading.{branch_at, After}
use Rattle.pcode.specs.Code.{JMP, ins}
use Rattle.symbols.specs.Symbols.{Scope, main_scope, Row}
use Rattle.symbols.specs.Table.{rows_in, scope_at, Sound, Seen, Became}
use Rattle.symbols.specs.Chains.{scope_main}
use Rattle.symbols.specs.Kept.{sound_start, scoped_main}
use Rattle.emission.specs.declared.Env.{Env as CodeEnv}
use Rattle.translator.specs.declared.procedures.Place.{Place}
use Rattle.translator.specs.Result.{Translates, code, refusal}
use Rattle.emission.specs.Pieces.{Out, made, refuse, emit}
use Rattle.emission.specs.Statements.{Env}
use Rattle.translator.specs.Translate.{body_code, Done, finished, with_done, with_code, block_code}
use Rattle.emission.specs.Draft.{drafted, Emits, refused}
use Rattle.emission.specs.Meets.{here_of, Known}
use Rattle.translator.specs.Blocks.{inside_code, Start, Through, Means, not, InsideAt, HasInside, BodyAt, HasBody, BlockAt, HasBlock}
use Rattle.emission.specs.Drafting.{wrote_at, lies_on}
use Rattle.emission.specs.Jumps.{One, one}
use Rattle.translator.proofs.Blocks.{closing, block_is}
use Rattle.translator.proofs.Insides.{rest_at}
use Rattle.translator.proofs.Nested.{emit_refused, through_at, jump_lies, Around, around_known, around_is}

module _ {s tr : List ℕ} {b : Block} (a : BlockAt s tr b) where
  pub block_inside : InsideAt s tr 4 b.consts b.vars b.procs
  unfolding block_node
  block_inside = record {
    others = member (body_node b.main) no_more;
    stands = (branch_at tr 0 block_kind 0 (member (consts_node b.consts) (member (names_node b.vars) (member (procs_node b.procs) (member (body_node b.main) no_more)))) a.stands).members;
    consts_named = a.named.consts;
    vars_named = a.named.vars;
    procs_named = a.named.procs;
  }

  pub block_body : {j j₂ j₃ : ℕ} → After tr 4 j → After tr j j₂ → After tr j₂ j₃ → BodyAt s tr j₃ b.main
  unfolding block_inside
  block_body f g h = record { stands = (rest_at block_inside f g h (body_node b.main) no_more refl).one; named = a.named.main }

pub has_inside : {s tr : List ℕ} → HasBlock s tr → HasInside s tr 4
has_inside h = record { consts = h.block.consts; vars = h.block.vars; procs = h.block.procs; at = block_inside h.at }

pub has_main : {s tr : List ℕ} {j j₂ j₃ : ℕ} → After tr 4 j → After tr j j₂ → After tr j₂ j₃ → HasBlock s tr → HasBody s tr j₃
has_main f g k h = record { stmts = h.block.main; at = block_body h.at f g k }

-- the first place is always there
pub never_full : {ds es : List ℕ} {e : Refusal} {A : Type 0} → Emits (emit JMP 0 (pos 0) 0) 0 ds es (Err e) → A
never_full (refused {e} w) = absurd (omega (arith, (emit_refused JMP 0 (pos 0) 0 (number_of e) w).0))

module _ (s tr xs ds : List ℕ) (room : table_places ≤ length xs) (draft : draft_places ≤ length ds) {es : List ℕ} {m : ℕ} (hj : Emits (emit JMP 0 (pos 0) 0) 0 ds es (Ok m)) where
  J : One JMP 0 (pos 0) 0 m ds es
  J = one hj

  pub block_start : length es ≡ length ds → Start s xs es (record { frame = record { scope = 0; level = 0; address = 3 }; used = 0; n = m })
  block_start e = record { sound = sound_start s xs room; scoped = scoped_main xs 0; level = omega arith; low = omega arith; room = omega arith; most = omega (arith, J.ends) }

  inside_is : (b : Block) → inside_code b.consts b.vars b.procs 0 main_scope links [] 1 ≡ inside_code b.consts b.vars b.procs 0 (scope_at s xs 0) 3 (rows_in s xs 0) m
  unfolding rows_in
  inside_is b =
      let e : 1 ≡ m = omega (arith, J.ends) in
      ap (λ (c : Scope). inside_code b.consts b.vars b.procs 0 c links [] 1) (sym (scope_main s xs)) ∙ ap (inside_code b.consts b.vars b.procs 0 (scope_at s xs 0) links []) e

  module _ {ys es₂ : List ℕ} (b : Block) where
    pub block_stop : {e : Refusal} → Means (inside_code b.consts b.vars b.procs 0 (scope_at s xs 0) 3 (rows_in s xs 0) m) s xs 0 es m ys es₂ (Err e) → {ys' es' : List ℕ} → Translates b s ys' es' (Err e)
    block_stop {e} (not w) = refusal {e = e} (block_is b ∙ ap (λ (x : Done). with_done x (closing b)) (inside_is b ∙ w))

    module _ {q : Place} (hd : Means (inside_code b.consts b.vars b.procs 0 (scope_at s xs 0) 3 (rows_in s xs 0) m) s xs 0 es m ys es₂ (Ok q)) where
      T : Through (inside_code b.consts b.vars b.procs 0 (scope_at s xs 0) 3 (rows_in s xs 0) m) s xs 0 es m ys es₂ q
      T = through_at hd

      pub entered : Sound s ys q.used × (q.n ≤ max_code)
      entered = (T.sound, T.most)

      entry_is : q.n ≡ 1 + length T.code
      entry_is = omega (arith, T.ends, J.ends)

      module _ {ys₂ es₃ : List ℕ} (hs : Became 11 s ys q.used (rows_in s ys q.used) ys₂) (hf : es₃ ≡ set es₂ (draft_share * 0 + 2) q.n) (e : CodeEnv) (we : Around s ys₂ q.used 0 0 e) where
        pub env_known : Seen ys₂ q.used 0 → Known e
        env_known v = around_known we hs.sound v

        here_is : here_of e ≡ record { rows = rows_in s ys q.used; level = 0; scope = main_scope }
        here_is = around_is we ∙ rw (hs.rows_are, scope_main s ys₂)

        body_is : body_code (record { rows = rows_in s ys q.used; level = 0; scope = main_scope }) q.frame.address b.main (1 + length T.code) ≡ body_code (here_of e) q.frame.address b.main q.n
        body_is = ap (λ (ρ : Env). body_code ρ q.frame.address b.main (1 + length T.code)) (sym here_is) ∙ ap (body_code (here_of e) q.frame.address b.main) (sym entry_is)

        on_body : (o : Out) → body_code (here_of e) q.frame.address b.main q.n ≡ o → block_code b ≡ with_code o (λ c2. finished (ins JMP 0 (pos (1 + length T.code)) ∷ T.code ++ c2) (rows_in s ys q.used) q.frame.address)
        on_body o w = block_is b ∙ ap (λ (x : Done). with_done x (closing b)) (inside_is b ∙ T.is) ∙ ap (λ (x : Out). with_code x λ c2. finished (ins JMP 0 (pos (1 + length T.code)) ∷ T.code ++ c2) (rows_in s ys q.used) q.frame.address) (body_is ∙ w)

        module _ {es₄ : List ℕ} where
          pub body_stop : {x : Refusal} → Emits (body_code (here_of e) q.frame.address b.main q.n) q.n es₃ es₄ (Err x) → {ys' es' : List ℕ} → Translates b s ys' es' (Err x)
          body_stop {x} (refused w) = refusal {e = x} (on_body (refuse (number_of x)) w)

          pub body_made : {z : ℕ} → Emits (body_code (here_of e) q.frame.address b.main q.n) q.n es₃ es₄ (Ok z) → Seen ys₂ q.used 0 → Translates b s ys₂ es₄ (Ok (record { code = z; rows = q.used }))
          unfolding drafted
          body_made {z} he seen =
              let w = wrote_at he in
              let c = ins JMP 0 (pos (1 + length T.code)) ∷ T.code in
              let l = jump_lies 0 0 m T.code J es₂ q.n q.n T.ends T.most (omega arith) (omega (arith, T.most)) draft T.lies in
              code {t = record { code = z; rows = q.used }}
              (record {
                code = c ++ w.code;
                address = q.frame.address;
                is = on_body (made w.code) w.is ∙ ap (λ (r : List Row). finished (c ++ w.code) r q.frame.address) (sym hs.rows_are);
                ends = omega (arith, w.ends, entry_is, length-append T.code w.code);
                lies = lies_on (take (draft_share * 0) ds) c w.code (take (draft_share * q.n) es₃) (take (draft_share * z) es₄) (ap (take (draft_share * q.n)) hf ∙ l ∙ ap (λ (k : ℕ). take (draft_share * 0) ds ++ drafted (ins JMP 0 (pos k) ∷ T.code)) entry_is) w.lies;
                most = w.most;
                sound = hs.sound;
                seen = seen;
              })

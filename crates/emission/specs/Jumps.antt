-- Laws of jumps: emitted with no target, and pointed past a piece once it is written.
use Rattle.std.specs.Prelude.{◌≡◌, refl, Bool, true, false, ℤ, pos, ltb, Ok, Err}
use Rattle.std.proofs.Common.{sym, ◌∙◌, lt-ltb, ltb-true}
use Rattle.std.proofs.Math.Path.{ap}
use mathlib.Core.List.{List, [], ◌∷◌, ◌++◌, append_assoc}
use Prim.Native.Nat.{ℕ, suc, ◌+◌, ◌*◌, ◌/◌, ◌%◌, ◌≤◌, ◌<◌}
use native.Mathlib.Omega.{arith}
use Rattle.std.proofs.Math.ListN.{length, take, set, length-append}
use Rattle.std.proofs.Math.Seq.{take-set-lt, set_at, length-take-le}
use Rattle.numbers.specs.Limits.{max_code, draft_places, draft_share}
use Rattle.numbers.specs.Panel.{too_many_instructions}
use Rattle.numbers.specs.declared.refusal.Refusal.{Refusal}
use Rattle.tree.specs.Layout.{half}
use Rattle.pcode.specs.Code.{Op, Instr, ins}
use Rattle.emission.specs.Pieces.{Out, made, refuse, Piece, nothing, emit, jump_past, jump_over}
use Rattle.emission.specs.Draft.{op_no, drafted, Emits, wrote}
use Rattle.emission.specs.Drafting.{wrote_at, refusal, so_start, so_done}

emit_inv : (o : Op) (l : ℕ) (a : ℤ) (p : ℕ) (c : List Instr) (b : Bool) → ltb p max_code ≡ b
    → ◌≡◌ {A = Out} (elim b [ true ↦ made (ins o l a ∷ []) | false ↦ refuse too_many_instructions ]) (made c) → (p < max_code) × (c ≡ ins o l a ∷ [])
emit_inv o l a p c true q e = (ltb-true p max_code q, cc)
emit_inv o l a p c false q e = let z : ◌≡◌ {A = ℕ} 0 1 = cc in absurd (omega arith)

-- what an instruction that was emitted says
pub record One (o : Op) (l : ℕ) (a : ℤ) (p m : ℕ) (ys zs : List ℕ) : Type 0 where
  pub below : p < max_code
  pub ends : m ≡ p + 1
  pub lies : take (draft_share * m) zs ≡ take (draft_share * p) ys ++ drafted (ins o l a ∷ [])

pub one : {o : Op} {l : ℕ} {a : ℤ} {p : ℕ} {ys zs : List ℕ} {m : ℕ} → Emits (emit o l a p) p ys zs (Ok m) → One o l a p m ys zs
unfolding emit
one {o} {l} {a} {p} {ys} h =
    let w = wrote_at h in
    let i = emit_inv o l a p w.code (ltb p max_code) refl w.is in
    record { below = i.0; ends = w.ends ∙ ap (λ (c : List Instr). p + length c) i.1; lies = w.lies ∙ ap (λ (c : List Instr). take (draft_share * p) ys ++ drafted c) i.1 }

-- no place for the jump
no_jump : (i : Instr) (e : ℕ) (x : Out) (b : Bool) → ◌≡◌ {A = Out} (elim b [ true ↦ made (i ∷ []) | false ↦ refuse too_many_instructions ]) (refuse e) → ◌≡◌ {A = Out} (elim b [ true ↦ x | false ↦ refuse too_many_instructions ]) (refuse e)
no_jump i e x true h = let z : ◌≡◌ {A = ℕ} 0 1 = cc in absurd (omega arith)
no_jump i e x false h = h

pub jump_full : (o : Op) (k p : ℕ) (g : Piece) {ys zs : List ℕ} (zs' : List ℕ) {e : Refusal} → Emits (emit o 0 (pos 0) p) p ys zs (Err e) → Emits (jump_over o k g p) p ys zs' (Err e)
unfolding emit jump_over
jump_full o k p g zs' h = refusal (λ e q. no_jump (ins o 0 (pos 0)) e (jump_past o k p (g (suc p))) (ltb p max_code) q) h

module _ (o : Op) (k p m : ℕ) (g : Piece) {ys zs : List ℕ} (w : One o 0 (pos 0) p m ys zs) where
  jump_is : (x : Out) → g m ≡ x → jump_over o k g p ≡ jump_past o k p x
  unfolding jump_over
  jump_is x q = let e : suc p ≡ m = omega (arith, w.ends) in rw (lt-ltb p max_code w.below, jump_over) (ap (jump_past o k p) (ap g e ∙ q))

  -- the piece is refused
  pub jump_stop : {ws : List ℕ} (ws' : List ℕ) {e : Refusal} → Emits (g m) m zs ws (Err e) → Emits (jump_over o k g p) p ys ws' (Err e)
  jump_stop ws' h = refusal (λ e q. jump_is (refuse e) q) h

  -- the piece is written, and the jump is pointed past it
  pub jump_made : {ws : List ℕ} {q : ℕ} (v : ℕ) → v ≡ q + k → v < half → draft_places ≤ length ys → Emits (g m) m zs ws (Ok q) → Emits (jump_over o k g p) p ys (set ws (draft_share * p + 2) v) (Ok q)
  unfolding drafted
  jump_made {ws} {q} v ev small room h =
      let x = wrote_at h in
      let a = take (draft_share * p) ys in
      let la : length a ≡ draft_share * p = length-take-le (draft_share * p) ys (omega (arith, w.below)) in
      let lb : length (a ++ (op_no o ∷ 0 ∷ [])) ≡ draft_share * p + 2 = omega (arith, length-append a (op_no o ∷ 0 ∷ [])) in
      let was : take (draft_share * q) ws ≡ (a ++ (op_no o ∷ 0 ∷ [])) ++ (0 ∷ 0 ∷ drafted x.code) = x.lies ∙ ap (λ (l : List ℕ). l ++ drafted x.code) w.lies ∙ simp append_assoc in
      let ve : v ≡ suc p + length x.code + k = omega (arith, w.ends, x.ends) in
      let el : v % half ≡ v = omega arith in
      let eh : v / half ≡ 0 = omega arith in
      wrote {m = q}
      (record {
        code = ins o 0 (pos v) ∷ x.code;
        is = jump_is (made x.code) x.is ∙ ap (λ (t : ℕ). made (ins o 0 (pos t) ∷ x.code)) (sym ve);
        ends = omega (arith, w.ends, x.ends);
        lies = take-set-lt (draft_share * q) ws (draft_share * p + 2) v (omega (arith, w.ends, x.ends))
            ∙ ap (λ (l : List ℕ). set l (draft_share * p + 2) v) was
            ∙ set_at (a ++ (op_no o ∷ 0 ∷ [])) 0 (0 ∷ drafted x.code) v (draft_share * p + 2) lb
            ∙ append_assoc a (op_no o ∷ 0 ∷ []) (v ∷ 0 ∷ drafted x.code)
            ∙ rw (el, eh);
        most = x.most;
      })

-- nothing is written at once
pub nothing_made : (m : ℕ) (ws : List ℕ) → m ≤ max_code → Emits (nothing m) m ws ws (Ok m)
unfolding nothing
nothing_made m ws b = so_done {g = nothing} refl (so_start nothing b)

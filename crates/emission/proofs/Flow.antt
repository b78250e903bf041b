-- Laws of `if` and `while`.
use mathlib.Core.Path.{◌≡◌, refl, ap, ◌∙◌}
use mathlib.Core.List.{List}
use mathlib.Core.Option.{Option, none, some}
use Prim.Native.Nat.{ℕ, ◌+◌, ◌*◌, ◌≤◌, ◌<◌}
use native.Mathlib.Omega.{arith}
use lib.IntN.{pos}
use lib.ListN.{length, get_or, set}
use Rattle.std.specs.Prelude.{Result, Ok, Err}
use Rattle.numbers.specs.Limits.{max_code, draft_places, draft_share}
use Rattle.numbers.specs.declared.refusal.Refusal.{Refusal}
use Rattle.tree.specs.Tree.{Cond, Stmt, assign, if_then, if_else, while, call, body, read_s, write_s}
use Rattle.tree.specs.Layout.{assign_kind, if_kind, while_kind, call_kind, body_kind, read_kind, write_kind, node_no}
use Rattle.tree.specs.Reading.{After}
use Rattle.tree.specs.declared.Kind.{Kind}
use Rattle.tree.specs.declared.Kind.TheVariants.{Assign, If, While, Call, Body, Read}
use Rattle.tree.specs.Kinds.{no_of, kind_is}
use Rattle.tree.specs.Heads.{node_head, StmtIs, is_while, stmt_no, stmt_head_lem}
use Rattle.tree.specs.Standing.{CondAt, HasCond, StmtAt, HasStmt, GuardAt, HasGuard, Further}
use Rattle.tree.specs.Parts.{stmt_by, guard_cond, guard_stmt, guard_further, while_guard, if_of, IfAt, if_at}
use Rattle.pcode.specs.Code.{JMP, JPC}
use Rattle.emission.specs.Pieces.{Piece, ◌⨾◌, nothing, emit, jump_over}
use Rattle.emission.specs.Statements.{Env, cond_code, stmt_code}
use Rattle.emission.specs.Draft.{Emits}
use Rattle.emission.specs.Drafting.{same, stop, then, wrote_at, seq_assoc}
use Rattle.emission.specs.Jumps.{one, jump_full, jump_stop, jump_made, nothing_made}

-- a condition, and the statement that it guards
abbrev pub guard_code : Env → Cond → Stmt → Piece
guard_code ρ c t = cond_code ρ c ⨾ jump_over JPC 1 (stmt_code ρ t)

module _ {s tr : List ℕ} {i : ℕ} where
  pub has_cond : HasGuard s tr i → HasCond s tr (i + 4)
  has_cond h = record { cond = h.cond; at = guard_cond h.at }

  pub has_inner : {j : ℕ} → After tr (i + 4) j → HasGuard s tr i → Further s tr i j
  has_inner f h = guard_further h.at f

  module _ (ρ : Env) {n : ℕ} {ys zs : List ℕ} where
    pub guard_stop : {e : Refusal} → ((c : Cond) → CondAt s tr (i + 4) c → Emits (cond_code ρ c n) n ys zs (Err e)) → (zs' : List ℕ) (c : Cond) (t : Stmt) → GuardAt s tr i c t → Emits (guard_code ρ c t n) n ys zs' (Err e)
    guard_stop ha zs' c t x = stop (cond_code ρ c) (jump_over JPC 1 (stmt_code ρ t)) (ha c (guard_cond x))

    module _ {p : ℕ} (ha : (c : Cond) → CondAt s tr (i + 4) c → Emits (cond_code ρ c n) n ys zs (Ok p)) (b : n ≤ max_code) where
      guard_on : (c : Cond) (t : Stmt) → GuardAt s tr i c t → {us : List ℕ} {r : Result ℕ Refusal} → Emits (jump_over JPC 1 (stmt_code ρ t) p) p zs us r → Emits (guard_code ρ c t n) n ys us r
      guard_on c t x w = then (cond_code ρ c) (jump_over JPC 1 (stmt_code ρ t)) b (ha c (guard_cond x)) w

      pub guard_full : {ws : List ℕ} {e : Refusal} → Emits (emit JPC 0 (pos 0) p) p zs ws (Err e) → (ws' : List ℕ) (c : Cond) (t : Stmt) → GuardAt s tr i c t → Emits (guard_code ρ c t n) n ys ws' (Err e)
      guard_full he ws' c t x = guard_on c t x (jump_full JPC 1 p (stmt_code ρ t) ws' he)

      module _ {ws : List ℕ} {m : ℕ} (he : Emits (emit JPC 0 (pos 0) p) p zs ws (Ok m)) {j : ℕ} (f : After tr (i + 4) j) {vs : List ℕ} where
        pub guard_inner : {e : Refusal} → ((t : Stmt) → StmtAt s tr j t → Emits (stmt_code ρ t m) m ws vs (Err e)) → (vs' : List ℕ) (c : Cond) (t : Stmt) → GuardAt s tr i c t → Emits (guard_code ρ c t n) n ys vs' (Err e)
        guard_inner hr vs' c t x = guard_on c t x (jump_stop JPC 1 p m (stmt_code ρ t) (one he) vs' (hr t (guard_stmt x f)))

        pub guard_made : {q : ℕ} → ((t : Stmt) → StmtAt s tr j t → Emits (stmt_code ρ t m) m ws vs (Ok q)) → draft_places ≤ length zs → {us : List ℕ} → us ≡ set vs (draft_share * p + 2) (q + 1) → (c : Cond) (t : Stmt) → GuardAt s tr i c t → Emits (guard_code ρ c t n) n ys us (Ok q)
        guard_made {q} hr room {us} eu c t x =
            let w = wrote_at (hr t (guard_stmt x f)) in
            guard_on c t x (rw eu (jump_made JPC 1 p m (stmt_code ρ t) (one he) (q + 1) refl (omega (arith, w.most)) room (hr t (guard_stmt x f))))

-- an `if`: what stands for its `else`, if it has one
abbrev else_code : Env → Option Stmt → Piece
else_code ρ none = nothing
else_code ρ (some e) = stmt_code ρ e

if_code : (ρ : Env) (c : Cond) (t : Stmt) (o : Option Stmt) (n : ℕ) → stmt_code ρ (if_of c t o) n ≡ (guard_code ρ c t ⨾ jump_over JMP 0 (else_code ρ o)) n
unfolding stmt_code
if_code ρ c t none n = seq_assoc (cond_code ρ c) (jump_over JPC 1 (stmt_code ρ t)) (jump_over JMP 0 nothing) n
if_code ρ c t (some e) n = seq_assoc (cond_code ρ c) (jump_over JPC 1 (stmt_code ρ t)) (jump_over JMP 0 (stmt_code ρ e)) n

code_is_lem : (ρ : Env) {s tr : List ℕ} {i : ℕ} (t : Stmt) (v : IfAt s tr i t) (n : ℕ) → stmt_code ρ t n ≡ (guard_code ρ v.cond v.stmt ⨾ jump_over JMP 0 (else_code ρ v.other)) n
code_is_lem ρ t v n = ap (λ (u : Stmt). stmt_code ρ u n) v.is ∙ if_code ρ v.cond v.stmt v.other n

module _ {s tr : List ℕ} {i : ℕ} (ρ : Env) {n : ℕ} (k : get_or tr i 0 ≡ node_no if_kind) {ys zs : List ℕ} where
  pub if_stop : {e : Refusal} → ((c : Cond) (t : Stmt) → GuardAt s tr i c t → Emits (guard_code ρ c t n) n ys zs (Err e)) → (zs' : List ℕ) (t : Stmt) → StmtAt s tr i t → Emits (stmt_code ρ t n) n ys zs' (Err e)
  if_stop ha zs' t x = let v = if_at k t x in same (code_is_lem ρ t v n) (stop (guard_code ρ v.cond v.stmt) (jump_over JMP 0 (else_code ρ v.other)) (ha v.cond v.stmt v.guard))

  module _ {p : ℕ} (ha : (c : Cond) (t : Stmt) → GuardAt s tr i c t → Emits (guard_code ρ c t n) n ys zs (Ok p)) (b : n ≤ max_code) where
    if_on : (t : Stmt) (v : IfAt s tr i t) → {us : List ℕ} {r : Result ℕ Refusal} → Emits (jump_over JMP 0 (else_code ρ v.other) p) p zs us r → Emits (stmt_code ρ t n) n ys us r
    if_on t v w = same (code_is_lem ρ t v n) (then (guard_code ρ v.cond v.stmt) (jump_over JMP 0 (else_code ρ v.other)) b (ha v.cond v.stmt v.guard) w)

    pub if_full : {ws : List ℕ} {e : Refusal} → Emits (emit JMP 0 (pos 0) p) p zs ws (Err e) → (ws' : List ℕ) (t : Stmt) → StmtAt s tr i t → Emits (stmt_code ρ t n) n ys ws' (Err e)
    if_full he ws' t x = let v = if_at k t x in if_on t v (jump_full JMP 0 p (else_code ρ v.other) ws' he)

    module _ {ws : List ℕ} {m : ℕ} (he : Emits (emit JMP 0 (pos 0) p) p zs ws (Ok m)) (room : draft_places ≤ length zs) where
      short_made : (g : Piece) → g ≡ nothing → Emits (jump_over JMP 0 g p) p zs (set ws (draft_share * p + 2) m) (Ok m)
      short_made g q =
          let w = one he in
          rw q (jump_made JMP 0 p m nothing w m (omega arith) (omega (arith, w.below, w.ends)) room (nothing_made m ws (omega (arith, w.below, w.ends))))

      pub if_short : get_or tr (i + 2) 0 < 3 → {us : List ℕ} → us ≡ set ws (draft_share * p + 2) m → (t : Stmt) → StmtAt s tr i t → Emits (stmt_code ρ t n) n ys us (Ok m)
      if_short h eu t x = let v = if_at k t x in rw eu (if_on t v (short_made (else_code ρ v.other) (ap (else_code ρ) (v.short h))))

      module _ (l : 3 ≤ get_or tr (i + 2) 0) {j j₂ : ℕ} (f : After tr (i + 4) j) (g : After tr j j₂) {vs : List ℕ} where
        els_here : {r : Result ℕ Refusal} → ((t : Stmt) → StmtAt s tr j₂ t → Emits (stmt_code ρ t m) m ws vs r) → (t : Stmt) (v : IfAt s tr i t) → Emits (else_code ρ v.other m) m ws vs r
        els_here hr t v = let u = v.long l j j₂ f g in same (ap (λ (o : Option Stmt). else_code ρ o m) u.1) (hr u.0 u.2)

        pub if_inner : {e : Refusal} → ((t : Stmt) → StmtAt s tr j₂ t → Emits (stmt_code ρ t m) m ws vs (Err e)) → (vs' : List ℕ) (t : Stmt) → StmtAt s tr i t → Emits (stmt_code ρ t n) n ys vs' (Err e)
        if_inner hr vs' t x = let v = if_at k t x in if_on t v (jump_stop JMP 0 p m (else_code ρ v.other) (one he) vs' (els_here hr t v))

        pub if_made : {q : ℕ} → ((t : Stmt) → StmtAt s tr j₂ t → Emits (stmt_code ρ t m) m ws vs (Ok q)) → {us : List ℕ} → us ≡ set vs (draft_share * p + 2) q → (t : Stmt) → StmtAt s tr i t → Emits (stmt_code ρ t n) n ys us (Ok q)
        if_made {q} hr eu t x =
            let v = if_at k t x in
            let w = wrote_at (els_here hr t v) in
            rw eu (if_on t v (jump_made JMP 0 p m (else_code ρ v.other) (one he) q (omega arith) (omega (arith, w.most)) room (els_here hr t v)))

pub has_if : {s tr : List ℕ} {i : ℕ} → get_or tr i 0 ≡ node_no if_kind → HasStmt s tr i → HasGuard s tr i
has_if k h = let v = if_at k h.stmt h.at in record { cond = v.cond; stmt = v.stmt; at = v.guard }

-- a `while`
while_is : (ρ : Env) (n : ℕ) (c : Cond) (t : Stmt) → stmt_code ρ (while c t) n ≡ (guard_code ρ c t ⨾ emit JMP 0 (pos n)) n
unfolding stmt_code
while_is ρ n c t = seq_assoc (cond_code ρ c) (jump_over JPC 1 (stmt_code ρ t)) (emit JMP 0 (pos n)) n

module _ {s tr : List ℕ} {i : ℕ} where
  pub has_while : get_or tr i 0 ≡ node_no while_kind → HasStmt s tr i → HasGuard s tr i
  has_while k h = of (stmt_by (node_head while_kind) k h.at) h.at
    where
      of : {u : Stmt} → StmtIs (node_head while_kind) u → StmtAt s tr i u → HasGuard s tr i
      of (is_while c u) y = record { cond = c; stmt = u; at = while_guard y }

  module _ (ρ : Env) {n : ℕ} {ys zs : List ℕ} (k : get_or tr i 0 ≡ node_no while_kind) where
    pub while_stop : {e : Refusal} → ((c : Cond) (t : Stmt) → GuardAt s tr i c t → Emits (guard_code ρ c t n) n ys zs (Err e)) → (zs' : List ℕ) (t : Stmt) → StmtAt s tr i t → Emits (stmt_code ρ t n) n ys zs' (Err e)
    while_stop {e} ha zs' t x = of (stmt_by (node_head while_kind) k x) x
      where
        of : {u : Stmt} → StmtIs (node_head while_kind) u → StmtAt s tr i u → Emits (stmt_code ρ u n) n ys zs' (Err e)
        of (is_while c u) y = same (while_is ρ n c u) (stop (guard_code ρ c u) (emit JMP 0 (pos n)) (ha c u (while_guard y)))

    pub while_made : {p : ℕ} → ((c : Cond) (t : Stmt) → GuardAt s tr i c t → Emits (guard_code ρ c t n) n ys zs (Ok p)) → n ≤ max_code → {ws : List ℕ} {r : Result ℕ Refusal} → Emits (emit JMP 0 (pos n) p) p zs ws r → (t : Stmt) → StmtAt s tr i t → Emits (stmt_code ρ t n) n ys ws r
    while_made ha b {ws} {r} w t x = of (stmt_by (node_head while_kind) k x) x
      where
        of : {u : Stmt} → StmtIs (node_head while_kind) u → StmtAt s tr i u → Emits (stmt_code ρ u n) n ys ws r
        of (is_while c u) y = same (while_is ρ n c u) (then (guard_code ρ c u) (emit JMP 0 (pos n)) b (ha c u (while_guard y)) w)

-- what is none of the others writes
module _ {s tr : List ℕ} {i : ℕ} where
  is_write : {t : Stmt} → (get_or tr i 0 ≡ node_no assign_kind → ⊥) → (get_or tr i 0 ≡ node_no if_kind → ⊥) → (get_or tr i 0 ≡ node_no while_kind → ⊥) → (get_or tr i 0 ≡ node_no call_kind → ⊥) → (get_or tr i 0 ≡ node_no body_kind → ⊥) → (get_or tr i 0 ≡ node_no read_kind → ⊥) → StmtAt s tr i t → get_or tr i 0 ≡ node_no write_kind
  is_write {t} h8 h9 h10 h11 h12 h13 x = of t (stmt_head_lem tr i t x.stands).kind
    where
      of : (u : Stmt) → get_or tr i 0 ≡ stmt_no u → get_or tr i 0 ≡ node_no write_kind
      of (assign n e) k = absurd (h8 k)
      of (if_then c u) k = absurd (h9 k)
      of (if_else c u e) k = absurd (h9 k)
      of (while c u) k = absurd (h10 k)
      of (call n es) k = absurd (h11 k)
      of (body l) k = absurd (h12 k)
      of (read_s ns) k = absurd (h13 k)
      of (write_s es) k = k

  pub is_write_lem : {t : Stmt} {k : Kind} → no_of k ≡ get_or tr i 0 → (k ≡ Assign → ⊥) → (k ≡ If → ⊥) → (k ≡ While → ⊥) → (k ≡ Call → ⊥) → (k ≡ Body → ⊥) → (k ≡ Read → ⊥) → StmtAt s tr i t → get_or tr i 0 ≡ node_no write_kind
  is_write_lem {k} e a b c d f g x = is_write (λ q. a (kind_is k Assign (e ∙ q))) (λ q. b (kind_is k If (e ∙ q))) (λ q. c (kind_is k While (e ∙ q))) (λ q. d (kind_is k Call (e ∙ q))) (λ q. f (kind_is k Body (e ∙ q))) (λ q. g (kind_is k Read (e ∙ q))) x

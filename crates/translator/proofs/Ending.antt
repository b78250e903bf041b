-- Laws of a block's end: STA for each argument, INT, the body and the return.
use mathlib.Core.Path.{◌≡◌, sym, ap, ◌∙◌}
use mathlib.Core.List.{List}
use Prim.Native.Nat.{ℕ, suc, ◌+◌, ◌-◌, ◌≤◌, ◌<◌}
use native.Mathlib.Omega.{arith}
use native.Mathlib.Numerals.{add-one}
use lib.IntN.{pos}
use lib.ListN.{get_or}
use Rattle.std.specs.Prelude.{Result, Ok, Err}
use Rattle.numbers.specs.Limits.{max_code}
use Rattle.numbers.specs.declared.refusal.Refusal.{Refusal}
use Rattle.numbers.specs.Stack.{links}
use Rattle.tree.specs.Tree.{Stmt, body, Stmts}
use Rattle.tree.specs.Layout.{body_kind, node_no}
use Rattle.tree.specs.Nodes.{stmt_node}
use Rattle.tree.specs.Named.{NamedStmt}
use Rattle.tree.specs.Heads.{stmt_head_lem}
use Rattle.tree.specs.Standing.{StmtAt, HasStmt}
use Rattle.pcode.specs.Operators.{return}
use Rattle.pcode.specs.Code.{STA, INT}
use Rattle.emission.specs.Pieces.{Piece, ◌⨾◌, nothing, emit, emit_oper}
use Rattle.emission.specs.Statements.{Env, stmt_code, stmts_code}
use Rattle.translator.specs.Translate.{stas, body_code}
use Rattle.emission.specs.Draft.{Emits}
use Rattle.translator.specs.Blocks.{end_code, BodyAt, HasBody}
use Rattle.emission.specs.Drafting.{Sofar, so_start, so_same, so_then, so_stop, so_last, so_done, stop, then}

-- the STA that are left, from i on
abbrev pub left : ℕ → ℕ → Piece
left c i = stas c i (c + 1 - i)

pub stas_start : (c n : ℕ) (ys : List ℕ) → n ≤ max_code → Sofar (stas c 1 c) n ys (left c 1) n ys
stas_start c n ys b = let e : c ≡ c + 1 - 1 = omega arith in so_same (ap (λ (k : ℕ). stas c 1 k n) e) (so_start (stas c 1 c) b)

module _ (c : ℕ) {n i m : ℕ} {ys₀ ys : List ℕ} (w : Sofar (stas c 1 c) n ys₀ (left c i) m ys) where
  next : i ≤ c → Sofar (stas c 1 c) n ys₀ (emit STA i (pos (links + c - i)) ⨾ left c (i + 1)) m ys
  unfolding stas
  next h =
      let e : c + 1 - i ≡ suc (c - i) = omega arith in
      let f : c - i ≡ c + 1 - (i + 1) = omega arith in
      so_same (ap (λ (k : ℕ). stas c i k m) e ∙ ap (λ (k : ℕ). (emit STA i (pos (links + c - i)) ⨾ stas c (suc i) k) m) f ∙ ap (λ (k : ℕ). (emit STA i (pos (links + c - i)) ⨾ stas c k (c + 1 - (i + 1))) m) (sym (add-one i))) w

  pub stas_stop : {zs : List ℕ} (zs' : List ℕ) {e : Refusal} → i ≤ c → Emits (emit STA i (pos (links + c - i)) m) m ys zs (Err e) → Emits (stas c 1 c n) n ys₀ zs' (Err e)
  stas_stop zs' h v = so_stop (emit STA i (pos (links + c - i))) (left c (i + 1)) (next h) v

  pub stas_more : {zs : List ℕ} {q : ℕ} → i ≤ c → Emits (emit STA i (pos (links + c - i)) m) m ys zs (Ok q) → Sofar (stas c 1 c) n ys₀ (left c (i + 1)) q zs
  stas_more h v = so_then (emit STA i (pos (links + c - i))) (left c (i + 1)) (next h) v

  pub stas_done : c < i → Emits (stas c 1 c n) n ys₀ ys (Ok m)
  unfolding stas nothing
  stas_done h = let e : c + 1 - i ≡ 0 = omega arith in so_done {g = left c i} (ap (λ (k : ℕ). stas c i k m) e) w

-- a body is a statement
pub as_body : {s tr : List ℕ} {i : ℕ} {b : Stmts} → BodyAt s tr i b → StmtAt s tr i (body b)
unfolding stmt_node NamedStmt
as_body a = record { stands = a.stands; named = a.named }

pub has_stmt : {s tr : List ℕ} {i : ℕ} → HasBody s tr i → HasStmt s tr i
has_stmt h = record { stmt = body h.stmts; at = as_body h.at }

pub is_body_lem : {s tr : List ℕ} {i : ℕ} → HasBody s tr i → get_or tr i 0 ≡ node_no body_kind
is_body_lem {s} {tr} {i} h = (stmt_head_lem tr i (body h.stmts) (as_body h.at).stands).kind

-- INT, the body and the return
raised : (ρ : Env) (a : ℕ) {n : ℕ} {ys zs : List ℕ} {m : ℕ} → Emits (emit INT 0 (pos a) n) n ys zs (Ok m) → n ≤ max_code → (b : Stmts) → Sofar (body_code ρ a b) n ys (stmts_code ρ b ⨾ emit_oper return) m zs
raised ρ a ha k b = so_then (emit INT 0 (pos a)) (stmts_code ρ b ⨾ emit_oper return) (so_start (body_code ρ a b) k) ha

module _ (ρ : Env) (a : ℕ) {s tr : List ℕ} {i n : ℕ} {ys zs : List ℕ} where
  pub int_stop : {e : Refusal} → Emits (emit INT 0 (pos a) n) n ys zs (Err e) → (zs' : List ℕ) (b : Stmts) → BodyAt s tr i b → Emits (body_code ρ a b n) n ys zs' (Err e)
  int_stop ha zs' b x = stop (emit INT 0 (pos a)) (stmts_code ρ b ⨾ emit_oper return) ha

  module _ {m : ℕ} (ha : Emits (emit INT 0 (pos a) n) n ys zs (Ok m)) (k : n ≤ max_code) {ws : List ℕ} where
    here : {q : Result ℕ Refusal} → ((t : Stmt) → StmtAt s tr i t → Emits (stmt_code ρ t m) m zs ws q) → (b : Stmts) → BodyAt s tr i b → Emits (stmts_code ρ b m) m zs ws q
    unfolding stmt_code
    here hb b x = hb (body b) (as_body x)

    pub body_stop : {e : Refusal} → ((t : Stmt) → StmtAt s tr i t → Emits (stmt_code ρ t m) m zs ws (Err e)) → (ws' : List ℕ) (b : Stmts) → BodyAt s tr i b → Emits (body_code ρ a b n) n ys ws' (Err e)
    body_stop hb ws' b x = so_stop (stmts_code ρ b) (emit_oper return) (raised ρ a ha k b) (here hb b x)

    pub body_made : {p : ℕ} → ((t : Stmt) → StmtAt s tr i t → Emits (stmt_code ρ t m) m zs ws (Ok p)) → {vs : List ℕ} {t : Result ℕ Refusal} → Emits (emit_oper return p) p ws vs t → (b : Stmts) → BodyAt s tr i b → Emits (body_code ρ a b n) n ys vs t
    body_made hb v b x = so_last {g = emit_oper return} (so_then (stmts_code ρ b) (emit_oper return) (raised ρ a ha k b) (here hb b x)) v

-- the whole end
module _ (ρ : Env) (a c : ℕ) {s tr : List ℕ} {i n : ℕ} {ys zs : List ℕ} where
  pub sta_stop : {e : Refusal} → Emits (stas c 1 c n) n ys zs (Err e) → (zs' : List ℕ) (b : Stmts) → BodyAt s tr i b → Emits (end_code ρ a c b n) n ys zs' (Err e)
  sta_stop ha zs' b x = stop (stas c 1 c) (body_code ρ a b) ha

  pub sta_made : {m : ℕ} → Emits (stas c 1 c n) n ys zs (Ok m) → n ≤ max_code → {ws : List ℕ} {q : Result ℕ Refusal} → ((b : Stmts) → BodyAt s tr i b → Emits (body_code ρ a b m) m zs ws q) → (b : Stmts) → BodyAt s tr i b → Emits (end_code ρ a c b n) n ys ws q
  sta_made ha k h b x = then (stas c 1 c) (body_code ρ a b) k ha (h b x)

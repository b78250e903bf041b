-- The members of a body, as a family that the loop goes by; and what a statement is by its first number.
use mathlib.Core.Path.{◌≡◌, refl, sym, ap, ◌∙◌}
use mathlib.Core.List.{List, [], ◌∷◌}
use Prim.Native.Nat.{ℕ, ◌+◌}
use native.Mathlib.Omega.{arith}
use lib.IntN.{ℤ}
use lib.ListN.{length, get_or}
use Rattle.std.proofs.Common.{Result as Answer, Ok}
use Rattle.numbers.specs.declared.refusal.Refusal.{Refusal}
use Rattle.tree.specs.Tree.{Stmt, assign, if_then, if_else, while, call, body, read_s, write_s, Stmts, last, more}
use Rattle.tree.specs.Layout.{assign_kind, if_kind, while_kind, body_kind, read_kind, write_kind, member, node_no, count}
use Rattle.tree.specs.Nodes.{list_nodes, stmt_node, stmt_nodes}
use Rattle.tree.specs.Named.{Each, NamedStmt, NamedStmts}
use Rattle.tree.specs.Reading.{branch_at}
use Rattle.tree.specs.Heads.{node_head, StmtIs, is_body, stmt_no, stmt_is, stmt_head_lem}
use Rattle.tree.specs.Standing.{StmtAt, HasStmt}
use Rattle.symbols.specs.Symbols.{Row}
use Rattle.walk.specs.declared.expressions.Env.{Env}
use Rattle.walk.specs.declared.progress.Progress.{Progress}
use Rattle.walk.specs.Walk.{State, Result, ok, stop, Walk, then, pure, walk_stmt, walk_stmts}
use Rattle.walk.specs.Holds.{Holds, Ends, done}
use Rattle.walk.proofs.Ends.{ends_as}
use Rattle.walk.proofs.Members.{Family, Along, along_start}

-- the members of a body as a list
abbrev pub listed : Stmts → List Stmt
listed (last s) = s ∷ []
listed (more s l) = s ∷ listed l

listed_nodes : (l : Stmts) → list_nodes stmt_node (listed l) ≡ stmt_nodes l
unfolding list_nodes stmt_nodes
listed_nodes (last s) = refl
listed_nodes (more s l) = ap (member (stmt_node s)) (listed_nodes l)

listed_named : (s : List ℕ) (l : Stmts) → NamedStmts s l → Each (NamedStmt s) (listed l)
unfolding Each NamedStmts
listed_named s (last t) h = (h, tt)
listed_named s (more t l) h = (h.0, listed_named s l h.1)

-- one after the other
unfoldable pub walk_all : List Row → ℕ → List Stmt → Walk (Unit {0})
walk_all rs room [] = pure tt
walk_all rs room (t ∷ l) = λ b w. then (λ u. walk_all rs room l) (walk_stmt rs room t b w)

then_same : {f g : Walk (Unit {0})} → ((b : ℕ) (w : State) → f b w ≡ g b w) → (o : Result (Unit {0})) → then (λ u. f) o ≡ then (λ u. g) o
then_same h (ok u b w) = h b w
then_same h (stop n b w) = refl

nothing_after : (o : Result (Unit {0})) → then (λ u. pure tt) o ≡ o
nothing_after (ok tt b w) = refl
nothing_after (stop n b w) = refl

all_is : (rs : List Row) (room : ℕ) (l : Stmts) (b : ℕ) (w : State) → walk_all rs room (listed l) b w ≡ walk_stmts rs room l b w
unfolding walk_all walk_stmts
all_is rs room (last t) b w = nothing_after (walk_stmt rs room t b w)
all_is rs room (more t l) b w = then_same (λ b w. all_is rs room l b w) (walk_stmt rs room t b w)

pub all_more : (rs : List Row) (room : ℕ) (t : Stmt) (l : List Stmt) (b : ℕ) (w : State) → walk_all rs room (t ∷ l) b w ≡ then (λ u. walk_all rs room l) (walk_stmt rs room t b w)
unfolding walk_all
all_more rs room t l b w = refl

abbrev pub BodyF : List Row → List ℕ → Family
BodyF rs s = record { A = Stmt; node = stmt_node; In = NamedStmt s; run = λ room t. walk_stmt rs room t; gen = λ room l. walk_all rs room l; more = all_more rs }

abbrev pub BodyLoop : List Row → List ℕ → List ℕ → Env → List ℕ → ℕ → ℕ → List ℤ → List ℕ → Progress → ℕ → ℕ → List ℤ → List ℕ → Progress → Type 0
BodyLoop rs s tr e input i N vars₀ out₀ p k j vars out q = (l : Stmts) → StmtAt s tr i (body l) → Along (BodyF rs s) tr e input i N (listed l) vars₀ out₀ p k j vars out q

pub body_start_lem : (rs : List Row) (s tr : List ℕ) (e : Env) (input : List ℕ) (i N : ℕ) (vars : List ℤ) (out : List ℕ) (p : Progress) → N ≡ get_or tr (i + 2) 0 → BodyLoop rs s tr e input i N vars out p 0 (i + 4) vars out p
unfolding stmt_node NamedStmt
body_start_lem rs s tr e input i N vars out p n l a =
    let f = branch_at tr i body_kind 0 (stmt_nodes l) a.stands in
    along_start (BodyF rs s) tr e input i N (listed l) vars out p (n ∙ f.at2 ∙ ap count (sym (listed_nodes l))) (rw (listed_nodes l) f.members) (listed_named s l a.named)

pub body_end : (rs : List Row) {u : Unit {0}} {e : Env} {input : List ℕ} {lv : List ℤ} {lo : List ℕ} {vars : List ℤ} {out : List ℕ} {p : Progress} (v : State) → Holds e input lv lo vars out p v → Ends e input lv lo vars out p (walk_all rs (length lo) [] p.clock.left v) p (Ok u)
unfolding walk_all
body_end rs {p} v h = done v refl h (omega arith)

pub the_body : {s tr : List ℕ} {i : ℕ} → get_or tr i 0 ≡ node_no body_kind → HasStmt s tr i → (l : Stmts) × StmtAt s tr i (body l)
the_body {s} {tr} {i} k h = of (stmt_is (node_head body_kind) tr i h.stmt k h.at.stands) h.at
  where
    of : {t : Stmt} → StmtIs (node_head body_kind) t → StmtAt s tr i t → (l : Stmts) × StmtAt s tr i (body l)
    of (is_body l) a = (l, a)

pub body_whole : (rs : List Row) (s tr : List ℕ) (i : ℕ) (e : Env) (input : List ℕ) (vars : List ℤ) (out : List ℕ) (p : Progress) {vars' : List ℤ} {out' : List ℕ} {r : Answer (Unit {0}) Refusal} {d : Progress} → get_or tr i 0 ≡ node_no body_kind
    → ((l : Stmts) → StmtAt s tr i (body l) → (lv : List ℤ) (lo : List ℕ) (w : State) → Holds e input lv lo vars out p w → Ends e input lv lo vars' out' p (walk_all rs (length lo) (listed l) p.clock.left w) d r)
    → (t : Stmt) → StmtAt s tr i t → (lv : List ℤ) (lo : List ℕ) (w : State) → Holds e input lv lo vars out p w → Ends e input lv lo vars' out' p (walk_stmt rs (length lo) t p.clock.left w) d r
unfolding walk_stmt
body_whole rs s tr i e input vars out p {vars'} {out'} {r} {d} k f t a lv lo w h = of (stmt_is (node_head body_kind) tr i t k a.stands) a
  where
    of : {t : Stmt} → StmtIs (node_head body_kind) t → StmtAt s tr i t → Ends e input lv lo vars' out' p (walk_stmt rs (length lo) t p.clock.left w) d r
    of (is_body l) b = ends_as (all_is rs (length lo) l p.clock.left w) (f l b lv lo w h)

-- what is none of the others is a call, which is never met
pub call_done : (rs : List Row) {s tr : List ℕ} {i : ℕ} {e : Env} {input : List ℕ} {vars : List ℤ} {out : List ℕ} {p : Progress} {d : Unit {0}}
    → (get_or tr i 0 ≡ node_no assign_kind → ⊥) → (get_or tr i 0 ≡ node_no if_kind → ⊥) → (get_or tr i 0 ≡ node_no while_kind → ⊥) → (get_or tr i 0 ≡ node_no body_kind → ⊥) → (get_or tr i 0 ≡ node_no read_kind → ⊥) → (get_or tr i 0 ≡ node_no write_kind → ⊥)
    → (t : Stmt) → StmtAt s tr i t → (lv : List ℤ) (lo : List ℕ) (w : State) → Holds e input lv lo vars out p w → Ends e input lv lo vars out p (walk_stmt rs (length lo) t p.clock.left w) p (Ok d)
unfolding walk_stmt
call_done rs {s} {tr} {i} {e} {input} {vars} {out} {p} {d} h8 h9 h10 h12 h13 h14 t a lv lo w h = of t (stmt_head_lem tr i t a.stands).kind
  where
    of : (u : Stmt) → get_or tr i 0 ≡ stmt_no u → Ends e input lv lo vars out p (walk_stmt rs (length lo) u p.clock.left w) p (Ok d)
    of (assign n x) k = absurd (h8 k)
    of (if_then c u) k = absurd (h9 k)
    of (if_else c u x) k = absurd (h9 k)
    of (while c u) k = absurd (h10 k)
    of (call n es) k = done w refl h (omega arith)
    of (body l) k = absurd (h12 k)
    of (read_s ns) k = absurd (h13 k)
    of (write_s es) k = absurd (h14 k)

-- The members of a `read` and of a `write`, as families that the loops go by.
use mathlib.Core.Path.{◌≡◌, refl, ap, ◌∙◌}
use mathlib.Core.List.{List, [], ◌∷◌}
use Prim.Native.Nat.{ℕ, ◌+◌, ◌≤◌}
use native.Mathlib.Omega.{arith}
use lib.IntN.{ℤ}
use lib.ListN.{length, get_or, drop, length-append}
use Rattle.std.proofs.Common.{Result as Answer, Ok}
use Rattle.numbers.specs.declared.refusal.Refusal.{Refusal}
use Rattle.numbers.specs.Screen.{newline}
use Rattle.lexer.specs.Tokens.{Name}
use Rattle.tree.specs.Tree.{Exp, Stmt, read_s, write_s}
use Rattle.tree.specs.Layout.{read_kind, write_kind, node_no}
use Rattle.tree.specs.Nodes.{list_nodes, name_node, exp_node, exp_nodes, stmt_node}
use Rattle.tree.specs.Named.{NameIn, NamedExp, NamedStmt}
use Rattle.tree.specs.Reading.{branch_at}
use Rattle.tree.specs.Heads.{node_head, StmtIs, is_read, is_write, stmt_is}
use Rattle.tree.specs.Standing.{StmtAt, HasStmt}
use Rattle.symbols.specs.Symbols.{Row}
use Rattle.walk.specs.declared.expressions.Env.{Env}
use Rattle.walk.specs.declared.progress.Progress.{Progress}
use Rattle.walk.specs.Walk.{State, then, put_number, walk_exp, walk_reads, walk_writes, walk_stmt}
use Rattle.walk.specs.Holds.{Holds, HasState, Ends, done, read_walk, write_walk, Writes}
use Rattle.walk.proofs.Exps.{then_assoc}
use Rattle.walk.proofs.Members.{Family, Along, along_start}

-- there is room for the variables
pub held_room : {e : Env} {input : List ℕ} {vars : List ℤ} {out : List ℕ} {p : Progress} → HasState e input vars out p → e.vars ≤ length vars
held_room h =
    let s = h.holds in
    let w = h.state in
    omega (arith, ap length s.vars_are, length-append w.vars (drop (length w.vars) h.lv), s.many)

-- the names of a `read`
pub reads_more : (rs : List Row) (room : ℕ) (n : Name) (l : List Name) (b : ℕ) (w : State) → walk_reads rs room (n ∷ l) b w ≡ then (λ u. walk_reads rs room l) (read_walk rs room n b w)
unfolding walk_reads
reads_more rs room n l b w = refl

abbrev pub ReadsF : List Row → List ℕ → Family
ReadsF rs s = record { A = Name; node = name_node; In = NameIn s; run = λ room n. read_walk rs room n; gen = λ room l. walk_reads rs room l; more = reads_more rs }

abbrev pub ReadsLoop : List Row → List ℕ → List ℕ → Env → List ℕ → ℕ → ℕ → List ℤ → List ℕ → Progress → ℕ → ℕ → List ℤ → List ℕ → Progress → Type 0
ReadsLoop rs s tr e input i N vars₀ out₀ p k j vars out q = (ns : List Name) → StmtAt s tr i (read_s ns) → Along (ReadsF rs s) tr e input i N ns vars₀ out₀ p k j vars out q

pub reads_start : (rs : List Row) (s tr : List ℕ) (e : Env) (input : List ℕ) (i N : ℕ) (vars : List ℤ) (out : List ℕ) (p : Progress) → N ≡ get_or tr (i + 2) 0 → ReadsLoop rs s tr e input i N vars out p 0 (i + 4) vars out p
unfolding stmt_node NamedStmt
reads_start rs s tr e input i N vars out p n ns a =
    let f = branch_at tr i read_kind 0 (list_nodes name_node ns) a.stands in
    along_start (ReadsF rs s) tr e input i N ns vars out p (n ∙ f.at2) f.members a.named

pub reads_end : (rs : List Row) {u : Unit {0}} {e : Env} {input : List ℕ} {lv : List ℤ} {lo : List ℕ} {vars : List ℤ} {out : List ℕ} {p : Progress} (v : State) → Holds e input lv lo vars out p v → Ends e input lv lo vars out p (walk_reads rs (length lo) [] p.clock.left v) p (Ok u)
unfolding walk_reads
reads_end rs {p} v h = done v refl h (omega arith)

module _ {s tr : List ℕ} {i : ℕ} where
  pub the_read : get_or tr i 0 ≡ node_no read_kind → HasStmt s tr i → (ns : List Name) × StmtAt s tr i (read_s ns)
  the_read k h = of (stmt_is (node_head read_kind) tr i h.stmt k h.at.stands) h.at
    where
      of : {t : Stmt} → StmtIs (node_head read_kind) t → StmtAt s tr i t → (ns : List Name) × StmtAt s tr i (read_s ns)
      of (is_read ns) a = (ns, a)

pub reads_whole : (rs : List Row) (s tr : List ℕ) (i : ℕ) (e : Env) (input : List ℕ) (vars : List ℤ) (out : List ℕ) (p : Progress) {vars' : List ℤ} {out' : List ℕ} {r : Answer (Unit {0}) Refusal} {d : Progress} → get_or tr i 0 ≡ node_no read_kind
    → ((ns : List Name) → StmtAt s tr i (read_s ns) → (lv : List ℤ) (lo : List ℕ) (w : State) → Holds e input lv lo vars out p w → Ends e input lv lo vars' out' p (walk_reads rs (length lo) ns p.clock.left w) d r)
    → (t : Stmt) → StmtAt s tr i t → (lv : List ℤ) (lo : List ℕ) (w : State) → Holds e input lv lo vars out p w → Ends e input lv lo vars' out' p (walk_stmt rs (length lo) t p.clock.left w) d r
unfolding walk_stmt
reads_whole rs s tr i e input vars out p {vars'} {out'} {r} {d} k f t a lv lo w h = of (stmt_is (node_head read_kind) tr i t k a.stands) a
  where
    of : {t : Stmt} → StmtIs (node_head read_kind) t → StmtAt s tr i t → Ends e input lv lo vars' out' p (walk_stmt rs (length lo) t p.clock.left w) d r
    of (is_read ns) b = f ns b lv lo w h

-- the expressions of a `write`
pub writes_more : (rs : List Row) (room : ℕ) (x : Exp) (l : List Exp) (b : ℕ) (w : State) → walk_writes rs room (x ∷ l) b w ≡ then (λ u. walk_writes rs room l) (write_walk rs room x b w)
unfolding walk_writes
writes_more rs room x l b w = then_assoc (walk_exp rs x b w) (λ z. put_number room z) (λ u. walk_writes rs room l)

abbrev pub WritesF : List Row → List ℕ → Family
WritesF rs s = record { A = Exp; node = exp_node 0; In = NamedExp s; run = λ room x. write_walk rs room x; gen = λ room l. walk_writes rs room l; more = writes_more rs }

abbrev pub WritesLoop : List Row → List ℕ → List ℕ → Env → ℕ → ℕ → List ℤ → List ℕ → Progress → ℕ → ℕ → List ℕ → Progress → Type 0
WritesLoop rs s tr e i N vars out₀ p k j out q = (es : List Exp) → StmtAt s tr i (write_s es) → (input : List ℕ) → Along (WritesF rs s) tr e input i N es vars out₀ p k j vars out q

pub writes_start : (rs : List Row) (s tr : List ℕ) (e : Env) (i N : ℕ) (vars : List ℤ) (out : List ℕ) (p : Progress) → N ≡ get_or tr (i + 2) 0 → WritesLoop rs s tr e i N vars out p 0 (i + 4) out p
unfolding stmt_node NamedStmt
writes_start rs s tr e i N vars out p n es a input =
    let f = branch_at tr i write_kind 0 (exp_nodes es) a.stands in
    along_start (WritesF rs s) tr e input i N es vars out p (n ∙ f.at2) f.members a.named

pub writes_end : (rs : List Row) {e : Env} {input : List ℕ} {lv : List ℤ} {lo : List ℕ} {vars : List ℤ} {before after : List ℕ} {p : Progress} {r : Answer (Unit {0}) Refusal} {d : Progress} → Writes newline before after p d r
    → (v : State) → Holds e input lv lo vars before p v → Ends e input lv lo vars after p (walk_writes rs (length lo) [] p.clock.left v) d r
unfolding walk_writes
writes_end rs {e} {input} {lv} {lo} {vars} f v h = f e input lv lo vars v h

pub the_write : {s tr : List ℕ} {i : ℕ} → get_or tr i 0 ≡ node_no write_kind → HasStmt s tr i → (es : List Exp) × StmtAt s tr i (write_s es)
the_write {s} {tr} {i} k h = of (stmt_is (node_head write_kind) tr i h.stmt k h.at.stands) h.at
  where
    of : {t : Stmt} → StmtIs (node_head write_kind) t → StmtAt s tr i t → (es : List Exp) × StmtAt s tr i (write_s es)
    of (is_write es) a = (es, a)

pub writes_whole : (rs : List Row) (s tr : List ℕ) (i : ℕ) (e : Env) (vars : List ℤ) (out : List ℕ) (p : Progress) {out' : List ℕ} {r : Answer (Unit {0}) Refusal} {d : Progress} → get_or tr i 0 ≡ node_no write_kind
    → ((es : List Exp) → StmtAt s tr i (write_s es) → (input : List ℕ) (lv : List ℤ) (lo : List ℕ) (w : State) → Holds e input lv lo vars out p w → Ends e input lv lo vars out' p (walk_writes rs (length lo) es p.clock.left w) d r)
    → (t : Stmt) → StmtAt s tr i t → (input : List ℕ) (lv : List ℤ) (lo : List ℕ) (w : State) → Holds e input lv lo vars out p w → Ends e input lv lo vars out' p (walk_stmt rs (length lo) t p.clock.left w) d r
unfolding walk_stmt
writes_whole rs s tr i e vars out p {out'} {r} {d} k f t a input lv lo w h = of (stmt_is (node_head write_kind) tr i t k a.stands) a
  where
    of : {t : Stmt} → StmtIs (node_head write_kind) t → StmtAt s tr i t → Ends e input lv lo vars out' p (walk_stmt rs (length lo) t p.clock.left w) d r
    of (is_write es) b = f es b input lv lo w h

-- Laws of assignments, calls, `read`, `write` and bodies, by the node that stands for them.
use mathlib.Core.Path.{◌≡◌, refl}
use mathlib.Core.List.{List, [], ◌∷◌}
use mathlib.Core.Option.{Option, none, some}
use Prim.Native.Nat.{ℕ, ◌+◌, ◌≤◌}
use native.Mathlib.Omega.{arith}
use lib.ListN.{length, get_or}
use Rattle.std.specs.Prelude.{Result}
use Rattle.numbers.specs.Limits.{max_code}
use Rattle.numbers.specs.declared.refusal.Refusal.{Refusal}
use Rattle.lexer.specs.Tokens.{Name}
use Rattle.tree.specs.Tree.{Exp, Stmt, assign, call, Stmts, last, more}
use Rattle.tree.specs.Layout.{assign_kind, call_kind, body_kind, read_kind, write_kind, Node, Nodes, no_more, member, node_no, count}
use Rattle.tree.specs.Nodes.{list_nodes, name_node, exp_node, exp_nodes, stmt_node, stmt_nodes}
use Rattle.tree.specs.Named.{NameIn, Each, NamedExp, NamedStmt, NamedStmts}
use Rattle.tree.specs.Reading.{first_at, branch_at}
use Rattle.tree.specs.Heads.{node_head, StmtIs, is_assign, is_call, is_body, is_read, is_write}
use Rattle.tree.specs.Standing.{NameAt, HasName, ExpAt, StmtAt, HasStmt}
use Rattle.tree.specs.Parts.{NameFirst, name_first, list_count, stmt_by, assigned}
use Rattle.pcode.specs.Operators.{write, new_line, read}
use Rattle.emission.specs.Pieces.{Piece, made, ◌⨾◌, nothing, emit_oper}
use Rattle.emission.specs.Statements.{Env, row_for, exp_code, args_code, writes_code, storing, reads_code, call_code, stmt_code, stmts_code}
use Rattle.emission.specs.Draft.{Emits}
use Rattle.emission.specs.Drafting.{so_start, seq_assoc, seq_nothing}
use Rattle.emission.proofs.Lists.{Uncons, Family, Along, Loop}

-- assignments
module _ {s tr : List ℕ} {i : ℕ} where
  assign_name : (m : Name) (e : Exp) → StmtAt s tr i (assign m e) → NameAt s tr (i + 4) m
  unfolding stmt_node NamedStmt
  assign_name m e a = record { stands = (first_at tr i assign_kind 0 (name_node m) (member (exp_node 0 e) no_more) a.stands).one; named = a.named.0 }

  pub has_target : get_or tr i 0 ≡ node_no assign_kind → HasStmt s tr i → HasName s tr (i + 4)
  has_target k h = of (stmt_by (node_head assign_kind) k h.at) h.at
    where
      of : {t : Stmt} → StmtIs (node_head assign_kind) t → StmtAt s tr i t → HasName s tr (i + 4)
      of (is_assign m e) a = record { name = m; at = assign_name m e a }

  pub by_assign : (ρ : Env) {n : ℕ} {ys zs : List ℕ} {r : Result ℕ Refusal} → get_or tr i 0 ≡ node_no assign_kind → ((m : Name) (e : Exp) → NameAt s tr (i + 4) m → ExpAt s tr (i + 8) e → Emits (storing ρ (exp_code ρ e) (row_for ρ m) n) n ys zs r)
      → (t : Stmt) → StmtAt s tr i t → Emits (stmt_code ρ t n) n ys zs r
  unfolding stmt_code
  by_assign ρ {n} {ys} {zs} {r} k h t a = of (stmt_by (node_head assign_kind) k a) a
    where
      of : {u : Stmt} → StmtIs (node_head assign_kind) u → StmtAt s tr i u → Emits (stmt_code ρ u n) n ys zs r
      of (is_assign m e) x = h m e (assign_name m e x) (assigned m e x)

-- the laws of a list of nodes
module _ {A : Type 0} (f : A → Node) (P : A → Type 0) (gen : List A → Piece) (gen_a : A → Piece) (step : (x : A) (l : List A) (n : ℕ) → gen (x ∷ l) n ≡ (gen_a x ⨾ gen l) n) where
  pub list_uncons : (l : List A) → 1 ≤ count (list_nodes f l) → Uncons (list_nodes f) f gen gen_a (Each P) P l
  unfolding list_nodes count Each
  list_uncons [] h = absurd (omega arith)
  list_uncons (x ∷ l) h = record { head = x; tail = l; nodes_is = refl; gen_is = step x l; head_in = λ p. p.0; tail_in = λ p. p.1 }

  pub list_empty : (g : Piece) → ((n : ℕ) → gen [] n ≡ g n) → (l : List A) → count (list_nodes f l) ≡ 0 → (n : ℕ) → gen l n ≡ g n
  unfolding list_nodes count
  list_empty g e [] h n = e n
  list_empty g e (x ∷ l) h n = absurd (omega (arith, h))

-- `read`
module _ (s tr : List ℕ) (ρ : Env) where
  abbrev pub read_one : Name → Piece
  read_one n = storing ρ (emit_oper read) (row_for ρ n)

  pub read_step : (x : Name) (l : List Name) (n : ℕ) → reads_code ρ (x ∷ l) n ≡ (read_one x ⨾ reads_code ρ l) n
  unfolding reads_code
  read_step x l n = refl

  abbrev pub Reads : ℕ → Family
  Reads i = record {
    L = List Name;
    A = Name;
    W = Stmt;
    nodes = list_nodes name_node;
    node = name_node;
    gen = reads_code ρ;
    gen_a = read_one;
    In = Each (NameIn s);
    InA = NameIn s;
    uncons = list_uncons name_node (NameIn s) (reads_code ρ) read_one read_step;
    tr = tr;
    ItemAt = NameAt s tr;
    item_at = λ j n st nm. record { stands = st; named = nm };
    whole = stmt_code ρ;
    Is = StmtAt s tr i;
  }

  pub reads_start : (i N n : ℕ) (ys : List ℕ) → get_or tr i 0 ≡ node_no read_kind → N ≡ get_or tr (i + 2) 0 → n ≤ max_code → Loop (Reads i) N i n ys 0 (i + 4) n ys
  unfolding stmt_node NamedStmt stmt_code
  reads_start i N n ys k e b t a = of (stmt_by (node_head read_kind) k a) a
    where
      of : {u : Stmt} → StmtIs (node_head read_kind) u → StmtAt s tr i u → Along (Reads i) N i n ys u 0 (i + 4) n ys
      of (is_read l) x =
          let f = branch_at tr i read_kind 0 (list_nodes name_node l) x.stands in
          record { rest = l; counted = omega (arith, f.at2); stands = f.members; named = x.named; so = so_start (reads_code ρ l) b; beyond = omega arith }

  pub reads_empty : (l : List Name) → count (list_nodes name_node l) ≡ 0 → (n : ℕ) → reads_code ρ l n ≡ made []
  unfolding reads_code nothing
  reads_empty = list_empty name_node (NameIn s) (reads_code ρ) read_one read_step nothing (λ n. refl)

-- `write`
module _ (s tr : List ℕ) (ρ : Env) where
  abbrev pub write_one : Exp → Piece
  write_one e = exp_code ρ e ⨾ emit_oper write

  pub write_step : (x : Exp) (l : List Exp) (n : ℕ) → writes_code ρ (x ∷ l) n ≡ (write_one x ⨾ writes_code ρ l) n
  unfolding writes_code
  write_step x l n = seq_assoc (exp_code ρ x) (emit_oper write) (writes_code ρ l) n

  abbrev pub Writes : ℕ → Family
  Writes i = record {
    L = List Exp;
    A = Exp;
    W = Stmt;
    nodes = list_nodes (exp_node 0);
    node = exp_node 0;
    gen = writes_code ρ;
    gen_a = write_one;
    In = Each (NamedExp s);
    InA = NamedExp s;
    uncons = list_uncons (exp_node 0) (NamedExp s) (writes_code ρ) write_one write_step;
    tr = tr;
    ItemAt = ExpAt s tr;
    item_at = λ j e st nm. record { op = 0; stands = st; named = nm };
    whole = stmt_code ρ;
    Is = StmtAt s tr i;
  }

  pub writes_start : (i N n : ℕ) (ys : List ℕ) → get_or tr i 0 ≡ node_no write_kind → N ≡ get_or tr (i + 2) 0 → n ≤ max_code → Loop (Writes i) N i n ys 0 (i + 4) n ys
  unfolding stmt_node NamedStmt stmt_code
  writes_start i N n ys k e b t a = of (stmt_by (node_head write_kind) k a) a
    where
      of : {u : Stmt} → StmtIs (node_head write_kind) u → StmtAt s tr i u → Along (Writes i) N i n ys u 0 (i + 4) n ys
      of (is_write l) x =
          let f = branch_at tr i write_kind 0 (exp_nodes l) x.stands in
          record { rest = l; counted = omega (arith, f.at2); stands = f.members; named = x.named; so = so_start (writes_code ρ l) b; beyond = omega arith }

  pub writes_empty : (l : List Exp) → count (list_nodes (exp_node 0) l) ≡ 0 → (n : ℕ) → writes_code ρ l n ≡ emit_oper new_line n
  unfolding writes_code
  writes_empty = list_empty (exp_node 0) (NamedExp s) (writes_code ρ) write_one write_step (emit_oper new_line) (λ n. refl)

-- calls
module _ {s tr : List ℕ} {i : ℕ} where
  call_parts : (n : Name) (es : List Exp) → StmtAt s tr i (call n es) → NameFirst tr i n (exp_nodes es)
  unfolding stmt_node
  call_parts n es a = name_first tr i call_kind n (exp_nodes es) a.stands

  pub call_name : (n : Name) (es : List Exp) → StmtAt s tr i (call n es) → NameAt s tr (i + 4) n
  unfolding stmt_node NamedStmt
  call_name n es a = record { stands = (first_at tr i call_kind 0 (name_node n) (exp_nodes es) a.stands).one; named = a.named.0 }

  pub call_length : (n : Name) (es : List Exp) → StmtAt s tr i (call n es) → get_or tr (i + 2) 0 ≡ length es + 1
  unfolding stmt_node count
  call_length n es a = omega (arith, (branch_at tr i call_kind 0 (member (name_node n) (exp_nodes es)) a.stands).at2, list_count (exp_node 0) es)

  pub the_call : get_or tr i 0 ≡ node_no call_kind → HasStmt s tr i → (w : Name × List Exp) × StmtAt s tr i (call w.0 w.1)
  the_call k h = of (stmt_by (node_head call_kind) k h.at) h.at
    where
      of : {t : Stmt} → StmtIs (node_head call_kind) t → StmtAt s tr i t → (w : Name × List Exp) × StmtAt s tr i (call w.0 w.1)
      of (is_call n es) a = ((n, es), a)

  pub has_callee : get_or tr i 0 ≡ node_no call_kind → HasStmt s tr i → HasName s tr (i + 4)
  has_callee k h = let w = the_call k h in record { name = w.0.0; at = call_name w.0.0 w.0.1 w.1 }

  -- eight numbers are there, and it has a member
  pub call_fits : get_or tr i 0 ≡ node_no call_kind → HasStmt s tr i → (i + 8 ≤ length tr) × (1 ≤ get_or tr (i + 2) 0)
  call_fits k h = let w = the_call k h in ((call_parts w.0.0 w.0.1 w.1).fits, omega (arith, call_length w.0.0 w.0.1 w.1))

  pub by_call : (ρ : Env) {n : ℕ} {ys zs : List ℕ} {r : Result ℕ Refusal} → get_or tr i 0 ≡ node_no call_kind → ((f : Name) (es : List Exp) → StmtAt s tr i (call f es) → Emits (call_code ρ es (row_for ρ f) n) n ys zs r)
      → (t : Stmt) → StmtAt s tr i t → Emits (stmt_code ρ t n) n ys zs r
  unfolding stmt_code
  by_call ρ {n} {ys} {zs} {r} k h t a = of (stmt_by (node_head call_kind) k a) a
    where
      of : {u : Stmt} → StmtIs (node_head call_kind) u → StmtAt s tr i u → Emits (stmt_code ρ u n) n ys zs r
      of (is_call m es) x = h m es x

-- a call's arguments
module _ (s tr : List ℕ) (ρ : Env) where
  pub arg_step : (x : Exp) (l : List Exp) (n : ℕ) → args_code ρ (x ∷ l) n ≡ (exp_code ρ x ⨾ args_code ρ l) n
  unfolding args_code
  arg_step x l n = refl

  abbrev pub Args : ℕ → Family
  Args i = record {
    L = List Exp;
    A = Exp;
    W = Name × List Exp;
    nodes = list_nodes (exp_node 0);
    node = exp_node 0;
    gen = args_code ρ;
    gen_a = exp_code ρ;
    In = Each (NamedExp s);
    InA = NamedExp s;
    uncons = list_uncons (exp_node 0) (NamedExp s) (args_code ρ) (exp_code ρ) arg_step;
    tr = tr;
    ItemAt = ExpAt s tr;
    item_at = λ j e st nm. record { op = 0; stands = st; named = nm };
    whole = λ w. args_code ρ w.1;
    Is = λ w. StmtAt s tr i (call w.0 w.1);
  }

  pub args_start : (i N n : ℕ) (ys : List ℕ) → N ≡ get_or tr (i + 2) 0 → n ≤ max_code → Loop (Args i) N i n ys 1 (i + 8) n ys
  unfolding NamedStmt
  args_start i N n ys e b w a =
      let f = call_parts w.0 w.1 a in
      record { rest = w.1; counted = omega (arith, call_length w.0 w.1 a, list_count (exp_node 0) w.1); stands = f.others; named = a.named.1; so = so_start (args_code ρ w.1) b; beyond = omega arith }

  pub args_empty : (l : List Exp) → count (list_nodes (exp_node 0) l) ≡ 0 → (n : ℕ) → args_code ρ l n ≡ made []
  unfolding args_code nothing
  args_empty = list_empty (exp_node 0) (NamedExp s) (args_code ρ) (exp_code ρ) arg_step nothing (λ n. refl)

-- bodies: the statements that are left, which may be none
abbrev pub rest_nodes : Option Stmts → Nodes
rest_nodes none = no_more
rest_nodes (some l) = stmt_nodes l

abbrev pub rest_code : Env → Option Stmts → Piece
rest_code ρ none = nothing
rest_code ρ (some l) = stmts_code ρ l

abbrev pub RestNamed : List ℕ → Option Stmts → Type 0
RestNamed s none = Unit {0}
RestNamed s (some l) = NamedStmts s l

module _ (s tr : List ℕ) (ρ : Env) where
  pub rest_uncons : (l : Option Stmts) → 1 ≤ count (rest_nodes l) → Uncons rest_nodes stmt_node (rest_code ρ) (stmt_code ρ) (RestNamed s) (NamedStmt s) l
  unfolding count stmt_node stmt_code NamedStmt
  rest_uncons none h = absurd (omega arith)
  rest_uncons (some (last t)) h = record { head = t; tail = none; nodes_is = refl; gen_is = seq_nothing (stmt_code ρ t); head_in = λ x. x; tail_in = λ x. tt }
  rest_uncons (some (more t l)) h = record { head = t; tail = some l; nodes_is = refl; gen_is = λ n. refl; head_in = λ x. x.0; tail_in = λ x. x.1 }

  abbrev pub Body : ℕ → Family
  Body i = record {
    L = Option Stmts;
    A = Stmt;
    W = Stmt;
    nodes = rest_nodes;
    node = stmt_node;
    gen = rest_code ρ;
    gen_a = stmt_code ρ;
    In = RestNamed s;
    InA = NamedStmt s;
    uncons = rest_uncons;
    tr = tr;
    ItemAt = StmtAt s tr;
    item_at = λ j t st nm. record { stands = st; named = nm };
    whole = stmt_code ρ;
    Is = StmtAt s tr i;
  }

  pub body_start_lem : (i N n : ℕ) (ys : List ℕ) → get_or tr i 0 ≡ node_no body_kind → N ≡ get_or tr (i + 2) 0 → n ≤ max_code → Loop (Body i) N i n ys 0 (i + 4) n ys
  unfolding stmt_node NamedStmt stmt_code
  body_start_lem i N n ys k e b t a = of (stmt_by (node_head body_kind) k a) a
    where
      of : {u : Stmt} → StmtIs (node_head body_kind) u → StmtAt s tr i u → Along (Body i) N i n ys u 0 (i + 4) n ys
      of (is_body l) x =
          let f = branch_at tr i body_kind 0 (stmt_nodes l) x.stands in
          record { rest = some l; counted = omega (arith, f.at2); stands = f.members; named = x.named; so = so_start (stmts_code ρ l) b; beyond = omega arith }

pub body_empty : (ρ : Env) (l : Option Stmts) → count (rest_nodes l) ≡ 0 → (n : ℕ) → rest_code ρ l n ≡ made []
unfolding count stmt_node nothing
body_empty ρ none h n = refl
body_empty ρ (some (last t)) h n = absurd (omega (arith, h))
body_empty ρ (some (more t l)) h n = absurd (omega (arith, h))

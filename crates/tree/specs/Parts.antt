-- Laws of what stands in the tree, exported: the parts of a name, an expression, a condition and a statement, by index.
use Rattle.std.specs.Prelude.{◌≡◌, List, [], ◌∷◌, ℕ, suc, ◌+◌, ◌≤◌, ◌<◌, length, get_or}
use Rattle.std.proofs.Math.Path.{refl}
use Rattle.std.proofs.Common.{ap, arith}
use Rattle.std.proofs.Math.Option.{Option, none, some}
use Rattle.numbers.specs.Limits.{greatest}
use Rattle.numbers.specs.Arithmetic.{Compare}
use Rattle.lexer.specs.Tokens.{Name}
use Rattle.tree.specs.Tree.{Exp, lit, ref, neg, chain, brackets, Chain, Cond, is_odd, rel, Stmt, assign, if_then, if_else, while}
use Rattle.tree.specs.Layout.{NodeKind, neg_kind, chain_kind, brackets_kind, odd_kind, comparison_kind, assign_kind, if_kind, while_kind, Node, literal, branch, Nodes, no_more, member, name_no, number_no, node_no, count, size, enc, encs, Stands}
use Rattle.tree.specs.Nodes.{list_nodes, name_node, exp_node, chain_nodes, cond_node, compare_no, stmt_node}
use Rattle.tree.specs.Named.{NamedExp, NamedCond, NamedStmt}
use Rattle.tree.specs.Standing.{NameAt, ExpAt, HasExp, CondAt, HasCond, StmtAt, HasStmt, GuardAt, Further}
use Rattle.tree.specs.Reading.{word_at, branch_at, Two, two_at, first_at, next_at, After}
use Rattle.tree.specs.Heads.{Head, head_no, name_head, number_head, node_head, ExpIs, is_lit, is_ref, is_neg, is_chain, is_brackets, exp_is, exp_head_lem, CondIs, is_rel, cond_head_lem, StmtIs, is_assign, is_then, is_else, stmt_is, stmt_head_lem}

-- a name on its own
pub name_in_lem : {s tr : List ℕ} {i : ℕ} {n : Name} → NameAt s tr i n → (get_or tr (i + 2) 0 + get_or tr (i + 3) 0 ≤ length s) × (i + 4 ≤ length tr)
name_in_lem {tr} {i} {n} a = let f = word_at tr i 0 n.at (length n.text) a.stands in (omega (arith, f.at2, f.at3, a.named.fits), omega (arith, f.fits))

-- a node whose first member is a name
pub record NameFirst (tr : List ℕ) (i : ℕ) (n : Name) (ts : Nodes) : Type 0 where
  pub at6 : get_or tr (i + 6) 0 ≡ n.at
  pub at7 : get_or tr (i + 7) 0 ≡ length n.text
  pub fits : i + 8 ≤ length tr
  pub others : Stands tr (i + 8) (encs ts)

pub name_first : (tr : List ℕ) (i : ℕ) (k : NodeKind) (n : Name) (ts : Nodes) → Stands tr i (enc (branch k 0 (member (name_node n) ts))) → NameFirst tr i n ts
unfolding size
name_first tr i k n ts st =
    let w = first_at tr i k 0 (name_node n) ts st in
    let f = word_at tr (i + 4) 0 n.at (length n.text) w.one in
    let e₆ : i + 4 + 2 ≡ i + 6 = omega arith in
    let e₇ : i + 4 + 3 ≡ i + 7 = omega arith in
    let e₈ : i + 4 + 4 ≡ i + 8 = omega arith in
    record { at6 = rw e₆ at f.at2; at7 = rw e₇ at f.at3; fits = omega (arith, f.fits); others = rw e₈ at w.others }

-- as many members as a list has
pub list_count : {A : Type 0} (f : A → Node) (l : List A) → count (list_nodes f l) ≡ length l
unfolding list_nodes count
list_count f [] = refl
list_count f (x ∷ l) = ap suc (list_count f l)

-- the four numbers of an expression's node are there
pub exp_fits : {s tr : List ℕ} {i : ℕ} {t : Exp} → ExpAt s tr i t → i + 4 ≤ length tr
exp_fits {s} {tr} {i} {t} a = (exp_head_lem tr i a.op t a.stands).fits

pub exp_by : {s tr : List ℕ} {i : ℕ} {t : Exp} (h : Head) → get_or tr i 0 ≡ head_no h → ExpAt s tr i t → ExpIs h t
exp_by {s} {tr} {i} {t} h k a = exp_is h tr i a.op t k a.stands

module _ {s tr : List ℕ} {i : ℕ} where
  -- a name

  ref_fits : {t : Exp} → ExpIs name_head t → ExpAt s tr i t → get_or tr (i + 2) 0 + get_or tr (i + 3) 0 ≤ length s
  unfolding exp_node NamedExp
  ref_fits (is_ref n) a = let f = word_at tr i a.op n.at (length n.text) a.stands in omega (arith, f.at2, f.at3, a.named.fits)

  pub ref_in : get_or tr i 0 ≡ name_no → HasExp s tr i → get_or tr (i + 2) 0 + get_or tr (i + 3) 0 ≤ length s
  ref_in k h = ref_fits (exp_by name_head k h.at) h.at

  -- a literal, which is within i64

  lit_value : {t : Exp} → ExpIs number_head t → ExpAt s tr i t → (o v : ℕ) × Stands tr i (enc (literal o v)) × (v ≤ greatest)
  unfolding exp_node NamedExp
  lit_value (is_lit v) a = (a.op, v, a.stands, a.named)

  pub literal_in : get_or tr i 0 ≡ number_no → HasExp s tr i → (o v : ℕ) × Stands tr i (enc (literal o v)) × (v ≤ greatest)
  literal_in k h = lit_value (exp_by number_head k h.at) h.at

  -- a negated term

  pub at_neg : (e : Exp) → ExpAt s tr i (neg e) → ExpAt s tr (i + 4) e
  unfolding exp_node NamedExp
  at_neg e a = record { op = 0; stands = (first_at tr i neg_kind a.op (exp_node 0 e) no_more a.stands).one; named = a.named }

  pub has_neg : get_or tr i 0 ≡ node_no neg_kind → HasExp s tr i → HasExp s tr (i + 4)
  has_neg k h = of (exp_by (node_head neg_kind) k h.at) h.at
    where
      of : {t : Exp} → ExpIs (node_head neg_kind) t → ExpAt s tr i t → HasExp s tr (i + 4)
      of (is_neg e) a = record { exp = e; at = at_neg e a }

  -- brackets, where it is nothing else

  pub is_brackets_lem : {t : Exp} → (get_or tr i 0 ≡ node_no chain_kind → ⊥) → (get_or tr i 0 ≡ name_no → ⊥) → (get_or tr i 0 ≡ number_no → ⊥) → (get_or tr i 0 ≡ node_no neg_kind → ⊥) → ExpAt s tr i t → ExpIs (node_head brackets_kind) t
  is_brackets_lem {t} a b c d at = of t at
    where
      of : (u : Exp) → ExpAt s tr i u → ExpIs (node_head brackets_kind) u
      of (lit v) x = absurd (c (exp_head_lem tr i x.op (lit v) x.stands).kind)
      of (ref n) x = absurd (b (exp_head_lem tr i x.op (ref n) x.stands).kind)
      of (neg e) x = absurd (d (exp_head_lem tr i x.op (neg e) x.stands).kind)
      of (chain e l) x = absurd (a (exp_head_lem tr i x.op (chain e l) x.stands).kind)
      of (brackets e) x = is_brackets e

  pub at_brackets : (e : Exp) → ExpAt s tr i (brackets e) → ExpAt s tr (i + 4) e
  unfolding exp_node NamedExp
  at_brackets e a = record { op = 0; stands = (first_at tr i brackets_kind a.op (exp_node 0 e) no_more a.stands).one; named = a.named }

  pub has_brackets : (get_or tr i 0 ≡ node_no chain_kind → ⊥) → (get_or tr i 0 ≡ name_no → ⊥) → (get_or tr i 0 ≡ number_no → ⊥) → (get_or tr i 0 ≡ node_no neg_kind → ⊥) → HasExp s tr i → HasExp s tr (i + 4)
  has_brackets a b c d h = of (is_brackets_lem a b c d h.at) h.at
    where
      of : {t : Exp} → ExpIs (node_head brackets_kind) t → ExpAt s tr i t → HasExp s tr (i + 4)
      of (is_brackets e) x = record { exp = e; at = at_brackets e x }

  -- the first operand of a chain

  pub at_first : (e : Exp) (c : Chain) → ExpAt s tr i (chain e c) → ExpAt s tr (i + 4) e
  unfolding exp_node NamedExp
  at_first e c a = record { op = 0; stands = (first_at tr i chain_kind a.op (exp_node 0 e) (chain_nodes c) a.stands).one; named = a.named.0 }

  -- the chain that stands there
  pub the_chain : get_or tr i 0 ≡ node_no chain_kind → HasExp s tr i → (w : Exp × Chain) × ExpAt s tr i (chain w.0 w.1)
  the_chain k h = of (exp_by (node_head chain_kind) k h.at) h.at
    where
      of : {t : Exp} → ExpIs (node_head chain_kind) t → ExpAt s tr i t → (w : Exp × Chain) × ExpAt s tr i (chain w.0 w.1)
      of (is_chain e c) a = ((e, c), a)

  pub has_first : get_or tr i 0 ≡ node_no chain_kind → HasExp s tr i → HasExp s tr (i + 4)
  has_first k h = let w = the_chain k h in record { exp = w.0.0; at = at_first w.0.0 w.0.1 w.1 }

-- conditions

pub cond_fits : {s tr : List ℕ} {i : ℕ} {t : Cond} → CondAt s tr i t → i + 4 ≤ length tr
cond_fits {s} {tr} {i} {t} a = (cond_head_lem tr i t a.stands).fits

module _ {s tr : List ℕ} {i : ℕ} where
  pub at_odd : (e : Exp) → CondAt s tr i (is_odd e) → ExpAt s tr (i + 4) e
  unfolding cond_node NamedCond
  at_odd e a = record { op = 0; stands = (first_at tr i odd_kind 0 (exp_node 0 e) no_more a.stands).one; named = a.named }

  -- not `odd`, so a comparison
  pub is_rel_lem : (get_or tr i 0 ≡ node_no odd_kind → ⊥) → (t : Cond) → CondAt s tr i t → CondIs (node_head comparison_kind) t
  is_rel_lem k (is_odd e) a = absurd (k (cond_head_lem tr i (is_odd e) a.stands).kind)
  is_rel_lem k (rel o x y) a = is_rel o x y

  pub at_left : (o : Compare) (x y : Exp) → CondAt s tr i (rel o x y) → ExpAt s tr (i + 4) x
  unfolding cond_node NamedCond
  at_left o x y a = record { op = 0; stands = (first_at tr i comparison_kind (compare_no o) (exp_node 0 x) (member (exp_node 0 y) no_more) a.stands).one; named = a.named.0 }

  pub at_right : {j : ℕ} (o : Compare) (x y : Exp) → After tr (i + 4) j → CondAt s tr i (rel o x y) → ExpAt s tr j y
  unfolding cond_node NamedCond
  at_right {j} o x y f a = record { op = 0; stands = (next_at tr (i + 4) j (exp_node 0 x) (exp_node 0 y) no_more f (first_at tr i comparison_kind (compare_no o) (exp_node 0 x) (member (exp_node 0 y) no_more) a.stands)).one; named = a.named.1 }

  -- the first expression of either
  pub cond_first : (t : Cond) → CondAt s tr i t → HasExp s tr (i + 4)
  cond_first (is_odd x) a = record { exp = x; at = at_odd x a }
  cond_first (rel o x y) a = record { exp = x; at = at_left o x y a }

  pub has_right : {j : ℕ} → (get_or tr i 0 ≡ node_no odd_kind → ⊥) → After tr (i + 4) j → HasCond s tr i → HasExp s tr j
  has_right {j} k f h = of (is_rel_lem k h.cond h.at) h.at
    where
      of : {t : Cond} → CondIs (node_head comparison_kind) t → CondAt s tr i t → HasExp s tr j
      of (is_rel o x y) a = record { exp = y; at = at_right o x y f a }

-- statements

pub stmt_fits : {s tr : List ℕ} {i : ℕ} {t : Stmt} → StmtAt s tr i t → i + 4 ≤ length tr
stmt_fits {s} {tr} {i} {t} a = (stmt_head_lem tr i t a.stands).fits

pub stmt_by : {s tr : List ℕ} {i : ℕ} {t : Stmt} (h : Head) → get_or tr i 0 ≡ head_no h → StmtAt s tr i t → StmtIs h t
stmt_by {s} {tr} {i} {t} h k a = stmt_is h tr i t k a.stands

-- assignments
module _ {s tr : List ℕ} {i : ℕ} where
  pub assign_parts : (n : Name) (e : Exp) → StmtAt s tr i (assign n e) → NameFirst tr i n (member (exp_node 0 e) no_more)
  unfolding stmt_node
  assign_parts n e a = name_first tr i assign_kind n (member (exp_node 0 e) no_more) a.stands

  pub assigned : (n : Name) (e : Exp) → StmtAt s tr i (assign n e) → ExpAt s tr (i + 8) e
  unfolding NamedStmt
  assigned n e a = record { op = 0; stands = (two_at tr (i + 8) (exp_node 0 e) no_more (assign_parts n e a).others).one; named = a.named.1 }

  pub has_assigned : get_or tr i 0 ≡ node_no assign_kind → HasStmt s tr i → HasExp s tr (i + 8)
  has_assigned k h = of (stmt_by (node_head assign_kind) k h.at) h.at
    where
      of : {t : Stmt} → StmtIs (node_head assign_kind) t → StmtAt s tr i t → HasExp s tr (i + 8)
      of (is_assign n e) a = record { exp = e; at = assigned n e a }

-- an `if` or a `while`
module _ {s tr : List ℕ} {i : ℕ} where
  guard_first : {c : Cond} {t : Stmt} (a : GuardAt s tr i c t) → Two tr (i + 4) (cond_node c) (member (stmt_node t) a.others)
  guard_first {c} {t} a = first_at tr i a.kind 0 (cond_node c) (member (stmt_node t) a.others) a.stands

  guard_next : {c : Cond} {t : Stmt} {j : ℕ} (a : GuardAt s tr i c t) → After tr (i + 4) j → Two tr j (stmt_node t) a.others
  guard_next {c} {t} {j} a f = next_at tr (i + 4) j (cond_node c) (stmt_node t) a.others f (guard_first a)

  pub guard_fits : {c : Cond} {t : Stmt} → GuardAt s tr i c t → i + 8 ≤ length tr
  guard_fits a = omega (arith, (guard_first a).fits, (guard_first a).least)

  pub guard_cond : {c : Cond} {t : Stmt} → GuardAt s tr i c t → CondAt s tr (i + 4) c
  guard_cond a = record { stands = (guard_first a).one; named = a.cond_named }

  pub guard_stmt : {c : Cond} {t : Stmt} {j : ℕ} → GuardAt s tr i c t → After tr (i + 4) j → StmtAt s tr j t
  guard_stmt a f = record { stands = (guard_next a f).one; named = a.stmt_named }

  pub guard_further : {c : Cond} {t : Stmt} {j : ℕ} → GuardAt s tr i c t → After tr (i + 4) j → Further s tr i j
  guard_further {c} {t} a f = record {
    has = record { stmt = t; at = guard_stmt a f };
    beyond = omega (arith, f (cond_node c) (guard_first a).one, (guard_first a).least);
    fits = omega (arith, (guard_next a f).fits, (guard_next a f).least);
  }

  pub while_guard : {c : Cond} {t : Stmt} → StmtAt s tr i (while c t) → GuardAt s tr i c t
  unfolding stmt_node NamedStmt
  while_guard x = record { kind = while_kind; others = no_more; stands = x.stands; cond_named = x.named.0; stmt_named = x.named.1 }

-- an `if`, with or without an `else`
abbrev pub if_of : Cond → Stmt → Option Stmt → Stmt
if_of c t none = if_then c t
if_of c t (some e) = if_else c t e

pub record IfAt (s tr : List ℕ) (i : ℕ) (t : Stmt) : Type 0 where
  pub cond : Cond
  pub stmt : Stmt
  pub other : Option Stmt
  pub is : t ≡ if_of cond stmt other
  pub guard : GuardAt s tr i cond stmt
  pub short : get_or tr (i + 2) 0 < 3 → other ≡ none
  pub long : 3 ≤ get_or tr (i + 2) 0 → (j j₂ : ℕ) → After tr (i + 4) j → After tr j j₂ → (e : Stmt) × (other ≡ some e) × StmtAt s tr j₂ e × (i + 8 ≤ j₂) × (j₂ + 4 ≤ length tr)

module _ {s tr : List ℕ} {i : ℕ} where
  if_then_lem : (c : Cond) (t : Stmt) → StmtAt s tr i (if_then c t) → IfAt s tr i (if_then c t)
  unfolding stmt_node NamedStmt count
  if_then_lem c t x = record {
    cond = c;
    stmt = t;
    other = none;
    is = refl;
    guard = record { kind = if_kind; others = no_more; stands = x.stands; cond_named = x.named.0; stmt_named = x.named.1 };
    short = λ h. refl;
    long = λ h j j₂ f g. absurd (omega (arith, h, (branch_at tr i if_kind 0 (member (cond_node c) (member (stmt_node t) no_more)) x.stands).at2));
  }

  if_else_lem : (c : Cond) (t e : Stmt) → StmtAt s tr i (if_else c t e) → IfAt s tr i (if_else c t e)
  unfolding stmt_node NamedStmt count
  if_else_lem c t e x =
      let a : GuardAt s tr i c t = record { kind = if_kind; others = member (stmt_node e) no_more; stands = x.stands; cond_named = x.named.0; stmt_named = x.named.1.0 } in
      record {
        cond = c;
        stmt = t;
        other = some e;
        is = refl;
        guard = a;
        short = λ h. absurd (omega (arith, h, (branch_at tr i if_kind 0 (member (cond_node c) (member (stmt_node t) (member (stmt_node e) no_more))) x.stands).at2));
        long = λ h j j₂ f g.
            let w = next_at tr j j₂ (stmt_node t) (stmt_node e) no_more g (guard_next a f) in
            (e, refl, record { stands = w.one; named = x.named.1.1 }, omega (arith, (guard_further a f).beyond, g (stmt_node t) (guard_next a f).one), omega (arith, w.fits, w.least));
      }

  pub if_at : get_or tr i 0 ≡ node_no if_kind → (t : Stmt) → StmtAt s tr i t → IfAt s tr i t
  if_at k t x = of (stmt_by (node_head if_kind) k x) x
    where
      of : {u : Stmt} → StmtIs (node_head if_kind) u → StmtAt s tr i u → IfAt s tr i u
      of (is_then c u) y = if_then_lem c u y
      of (is_else c u e) y = if_else_lem c u e y

  pub if_other : {j j₂ : ℕ} → get_or tr i 0 ≡ node_no if_kind → HasStmt s tr i → 3 ≤ get_or tr (i + 2) 0 → After tr (i + 4) j → After tr j j₂ → Further s tr i j₂
  if_other {j} {j₂} k h l f g = let v = (if_at k h.stmt h.at).long l j j₂ f g in record { has = record { stmt = v.0; at = v.2 }; beyond = v.3; fits = v.4 }

-- The node that stands for each part of the typed tree: its first two numbers, and the part that its first number says.
use Rattle.std.specs.Prelude.{◌≡◌, refl, List, [], ◌∷◌, ℕ, ◌+◌, ◌-◌, ◌≤◌, length, get_or}
use Rattle.std.proofs.Common.{sym, ap, subst, ◌∙◌, arith}
use Rattle.numbers.specs.Arithmetic.{Compare}
use Rattle.lexer.specs.Tokens.{Name}
use Rattle.tree.specs.Tree.{Exp, lit, ref, neg, chain, brackets, Chain, Cond, is_odd, rel, Stmt, assign, if_then, if_else, while, call, body, read_s, write_s, Stmts, Const, Procs, no_procs, proc}
use Rattle.tree.specs.Layout.{NodeKind, neg_kind, chain_kind, brackets_kind, odd_kind, comparison_kind, assign_kind, if_kind, while_kind, call_kind, body_kind, read_kind, write_kind, constant_kind, list_kind, no_procedures_kind, procedure_kind, block_kind, word, literal, branch, Nodes, name_no, number_no, node_no, enc, Stands}
use Rattle.tree.specs.Nodes.{exp_node, cond_node, stmt_node, procs_node, compare_no}
use Rattle.tree.specs.Reading.{word_at, literal_at, branch_at}

-- what a first number says
pub data Head : Type 0 where
  name_head number_head : Head
  node_head : NodeKind → Head

abbrev pub head_no : Head → ℕ
head_no name_head = name_no
head_no number_head = number_no
head_no (node_head k) = node_no k

-- the heads in the order of their numbers
heads : List Head
heads =
    name_head ∷
    number_head ∷
    node_head neg_kind ∷
    node_head chain_kind ∷
    node_head brackets_kind ∷
    node_head odd_kind ∷
    node_head comparison_kind ∷
    node_head assign_kind ∷
    node_head if_kind ∷
    node_head while_kind ∷
    node_head call_kind ∷
    node_head body_kind ∷
    node_head read_kind ∷
    node_head write_kind ∷
    node_head constant_kind ∷
    node_head list_kind ∷
    node_head no_procedures_kind ∷
    node_head procedure_kind ∷
    node_head block_kind ∷
    []

head_by : ℕ → Head
head_by n = get_or heads (n - 1) name_head

back : (h : Head) → head_by (head_no h) ≡ h
unfolding head_by heads
back name_head = refl
back number_head = refl
back (node_head neg_kind) = refl
back (node_head chain_kind) = refl
back (node_head brackets_kind) = refl
back (node_head odd_kind) = refl
back (node_head comparison_kind) = refl
back (node_head assign_kind) = refl
back (node_head if_kind) = refl
back (node_head while_kind) = refl
back (node_head call_kind) = refl
back (node_head body_kind) = refl
back (node_head read_kind) = refl
back (node_head write_kind) = refl
back (node_head constant_kind) = refl
back (node_head list_kind) = refl
back (node_head no_procedures_kind) = refl
back (node_head procedure_kind) = refl
back (node_head block_kind) = refl

-- two heads of one number are the same
pub head_is : (g h : Head) → head_no g ≡ head_no h → g ≡ h
head_is g h e = sym (back g) ∙ ap head_by e ∙ back h

-- the first two numbers of a node, and that all four are there
pub record HeadIs (xs : List ℕ) (i k o : ℕ) : Type 0 where
  pub kind : get_or xs i 0 ≡ k
  pub op : get_or xs (i + 1) 0 ≡ o
  pub fits : i + 4 ≤ length xs

word_head : (xs : List ℕ) (i o a n : ℕ) → Stands xs i (enc (word o a n)) → HeadIs xs i name_no o
word_head xs i o a n s = let f = word_at xs i o a n s in record { kind = f.at0; op = f.at1; fits = omega (arith, f.fits) }

literal_head : (xs : List ℕ) (i o v : ℕ) → Stands xs i (enc (literal o v)) → HeadIs xs i number_no o
literal_head xs i o v s = let f = literal_at xs i o v s in record { kind = f.at0; op = f.at1; fits = omega (arith, f.fits) }

pub branch_head : (xs : List ℕ) (i : ℕ) (k : NodeKind) (o : ℕ) (ts : Nodes) → Stands xs i (enc (branch k o ts)) → HeadIs xs i (node_no k) o
branch_head xs i k o ts s = let f = branch_at xs i k o ts s in record { kind = f.at0; op = f.at1; fits = omega (arith, f.fits) }

-- an expression: its head
abbrev pub exp_head : Exp → Head
exp_head (lit v) = number_head
exp_head (ref n) = name_head
exp_head (neg e) = node_head neg_kind
exp_head (chain e c) = node_head chain_kind
exp_head (brackets e) = node_head brackets_kind

abbrev pub exp_no : Exp → ℕ
exp_no t = head_no (exp_head t)

-- by its head
pub data ExpIs : Head → Exp → Type 0 where
  is_lit : (v : ℕ) → ExpIs number_head (lit v)
  is_ref : (n : Name) → ExpIs name_head (ref n)
  is_neg : (e : Exp) → ExpIs (node_head neg_kind) (neg e)
  is_chain : (e : Exp) (c : Chain) → ExpIs (node_head chain_kind) (chain e c)
  is_brackets : (e : Exp) → ExpIs (node_head brackets_kind) (brackets e)

exp_form : (t : Exp) → ExpIs (exp_head t) t
exp_form (lit v) = is_lit v
exp_form (ref n) = is_ref n
exp_form (neg e) = is_neg e
exp_form (chain e c) = is_chain e c
exp_form (brackets e) = is_brackets e

pub exp_head_lem : (xs : List ℕ) (i : ℕ) (o : ℕ) (t : Exp) → Stands xs i (enc (exp_node o t)) → HeadIs xs i (exp_no t) o
unfolding exp_node
exp_head_lem xs i o (lit v) s = literal_head xs i o v s
exp_head_lem xs i o (ref n) s = word_head xs i o n.at (length n.text) s
exp_head_lem xs i o (neg e) s = branch_head xs i neg_kind o _ s
exp_head_lem xs i o (chain e c) s = branch_head xs i chain_kind o _ s
exp_head_lem xs i o (brackets e) s = branch_head xs i brackets_kind o _ s

-- an expression that stands there, by the first number
pub exp_is : (h : Head) (xs : List ℕ) (i : ℕ) (o : ℕ) (t : Exp) → get_or xs i 0 ≡ head_no h → Stands xs i (enc (exp_node o t)) → ExpIs h t
exp_is h xs i o t e s = subst (λ (g : Head). ExpIs g t) (head_is (exp_head t) h (sym (exp_head_lem xs i o t s).kind ∙ e)) (exp_form t)

-- a condition: its head
abbrev pub cond_head : Cond → Head
cond_head (is_odd e) = node_head odd_kind
cond_head (rel o a b) = node_head comparison_kind

abbrev pub cond_no : Cond → ℕ
cond_no t = head_no (cond_head t)

-- by its head
pub data CondIs : Head → Cond → Type 0 where
  is_oddness : (e : Exp) → CondIs (node_head odd_kind) (is_odd e)
  is_rel : (o : Compare) (a : Exp) (b : Exp) → CondIs (node_head comparison_kind) (rel o a b)

cond_form : (t : Cond) → CondIs (cond_head t) t
cond_form (is_odd e) = is_oddness e
cond_form (rel o a b) = is_rel o a b

-- the op of a condition
abbrev pub cond_op : Cond → ℕ
cond_op (is_odd e) = 0
cond_op (rel o a b) = compare_no o

pub cond_head_lem : (xs : List ℕ) (i : ℕ) (t : Cond) → Stands xs i (enc (cond_node t)) → HeadIs xs i (cond_no t) (cond_op t)
unfolding cond_node
cond_head_lem xs i (is_odd e) s = branch_head xs i odd_kind 0 _ s
cond_head_lem xs i (rel o a b) s = branch_head xs i comparison_kind (compare_no o) _ s

-- a condition that stands there, by the first number
pub cond_is : (h : Head) (xs : List ℕ) (i : ℕ) (t : Cond) → get_or xs i 0 ≡ head_no h → Stands xs i (enc (cond_node t)) → CondIs h t
cond_is h xs i t e s = subst (λ (g : Head). CondIs g t) (head_is (cond_head t) h (sym (cond_head_lem xs i t s).kind ∙ e)) (cond_form t)

-- a statement: its head
abbrev pub stmt_head : Stmt → Head
stmt_head (assign n e) = node_head assign_kind
stmt_head (if_then c s) = node_head if_kind
stmt_head (if_else c s e) = node_head if_kind
stmt_head (while c s) = node_head while_kind
stmt_head (call n es) = node_head call_kind
stmt_head (body l) = node_head body_kind
stmt_head (read_s ns) = node_head read_kind
stmt_head (write_s es) = node_head write_kind

abbrev pub stmt_no : Stmt → ℕ
stmt_no t = head_no (stmt_head t)

-- by its head
pub data StmtIs : Head → Stmt → Type 0 where
  is_assign : (n : Name) (e : Exp) → StmtIs (node_head assign_kind) (assign n e)
  is_then : (c : Cond) (s : Stmt) → StmtIs (node_head if_kind) (if_then c s)
  is_else : (c : Cond) (s : Stmt) (e : Stmt) → StmtIs (node_head if_kind) (if_else c s e)
  is_while : (c : Cond) (s : Stmt) → StmtIs (node_head while_kind) (while c s)
  is_call : (n : Name) (es : List Exp) → StmtIs (node_head call_kind) (call n es)
  is_body : (l : Stmts) → StmtIs (node_head body_kind) (body l)
  is_read : (ns : List Name) → StmtIs (node_head read_kind) (read_s ns)
  is_write : (es : List Exp) → StmtIs (node_head write_kind) (write_s es)

stmt_form : (t : Stmt) → StmtIs (stmt_head t) t
stmt_form (assign n e) = is_assign n e
stmt_form (if_then c s) = is_then c s
stmt_form (if_else c s e) = is_else c s e
stmt_form (while c s) = is_while c s
stmt_form (call n es) = is_call n es
stmt_form (body l) = is_body l
stmt_form (read_s ns) = is_read ns
stmt_form (write_s es) = is_write es

pub stmt_head_lem : (xs : List ℕ) (i : ℕ) (t : Stmt) → Stands xs i (enc (stmt_node t)) → HeadIs xs i (stmt_no t) 0
unfolding stmt_node
stmt_head_lem xs i (assign n e) s = branch_head xs i assign_kind 0 _ s
stmt_head_lem xs i (if_then c t) s = branch_head xs i if_kind 0 _ s
stmt_head_lem xs i (if_else c t e) s = branch_head xs i if_kind 0 _ s
stmt_head_lem xs i (while c t) s = branch_head xs i while_kind 0 _ s
stmt_head_lem xs i (call n es) s = branch_head xs i call_kind 0 _ s
stmt_head_lem xs i (body l) s = branch_head xs i body_kind 0 _ s
stmt_head_lem xs i (read_s ns) s = branch_head xs i read_kind 0 _ s
stmt_head_lem xs i (write_s es) s = branch_head xs i write_kind 0 _ s

-- a statement that stands there, by the first number
pub stmt_is : (h : Head) (xs : List ℕ) (i : ℕ) (t : Stmt) → get_or xs i 0 ≡ head_no h → Stands xs i (enc (stmt_node t)) → StmtIs h t
stmt_is h xs i t e s = subst (λ (g : Head). StmtIs g t) (head_is (stmt_head t) h (sym (stmt_head_lem xs i t s).kind ∙ e)) (stmt_form t)

-- procedures: its head
abbrev pub procs_head : Procs → Head
procs_head no_procs = node_head no_procedures_kind
procs_head (proc n ar cs vs inner b later) = node_head procedure_kind

abbrev pub procs_no : Procs → ℕ
procs_no t = head_no (procs_head t)

-- by its head
pub data ProcsIs : Head → Procs → Type 0 where
  is_none : ProcsIs (node_head no_procedures_kind) no_procs
  is_proc : (n : Name) (ar : List Name) (cs : List Const) (vs : List Name) (inner : Procs) (b : Stmts) (later : Procs) → ProcsIs (node_head procedure_kind) (proc n ar cs vs inner b later)

procs_form : (t : Procs) → ProcsIs (procs_head t) t
procs_form no_procs = is_none
procs_form (proc n ar cs vs inner b later) = is_proc n ar cs vs inner b later

pub procs_head_lem : (xs : List ℕ) (i : ℕ) (t : Procs) → Stands xs i (enc (procs_node t)) → HeadIs xs i (procs_no t) 0
unfolding procs_node
procs_head_lem xs i no_procs s = branch_head xs i no_procedures_kind 0 _ s
procs_head_lem xs i (proc n ar cs vs inner b later) s = branch_head xs i procedure_kind 0 _ s

-- procedures that stands there, by the first number
pub procs_is : (h : Head) (xs : List ℕ) (i : ℕ) (t : Procs) → get_or xs i 0 ≡ head_no h → Stands xs i (enc (procs_node t)) → ProcsIs h t
procs_is h xs i t e s = subst (λ (g : Head). ProcsIs g t) (head_is (procs_head t) h (sym (procs_head_lem xs i t s).kind ∙ e)) (procs_form t)

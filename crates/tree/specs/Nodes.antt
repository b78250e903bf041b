-- The nodes that a tree is.
use Rattle.std.specs.Prelude.{List, [], ◌∷◌, ℕ, length}
use Rattle.numbers.specs.Arithmetic.{Arith, add, sub, mul, div, Compare, equal, unequal, less, at_least, greater, at_most}
use Rattle.lexer.specs.Tokens.{Name}
use Rattle.tree.specs.Tree.{Exp, lit, ref, neg, chain, brackets, Chain, end, link, Cond, is_odd, rel, Stmt, assign, if_then, if_else, while, call, body, read_s, write_s, Stmts, last, more, Const, Procs, no_procs, proc, Block}
use Rattle.tree.specs.Layout.{NodeKind, neg_kind, chain_kind, brackets_kind, odd_kind, comparison_kind, assign_kind, if_kind, while_kind, call_kind, body_kind, read_kind, write_kind, constant_kind, list_kind, no_procedures_kind, procedure_kind, block_kind, Node, word, literal, branch, Nodes, no_more, member}

-- how an operand joins what stands before it; 0 is the first operand's
abbrev pub arith_no : Arith → ℕ
arith_no add = 1
arith_no sub = 2
arith_no mul = 3
arith_no div = 4

-- the op of a comparison
abbrev pub compare_no : Compare → ℕ
compare_no equal = 1
compare_no unequal = 2
compare_no less = 3
compare_no at_least = 4
compare_no greater = 5
compare_no at_most = 6

-- the members that a list is
unfoldable pub list_nodes : {A : Type 0} → (A → Node) → List A → Nodes
list_nodes f [] = no_more
list_nodes f (x ∷ xs) = member (f x) (list_nodes f xs)

-- a node with one member, and with two
abbrev pub one : NodeKind → ℕ → Node → Node
one k o t = branch k o (member t no_more)

abbrev pub two : NodeKind → ℕ → Node → Node → Node
two k o t u = branch k o (member t (member u no_more))

-- a name
abbrev pub name_node : Name → Node
name_node n = word 0 n.at (length n.text)

unfoldable mutual
  -- an expression that joins what stands before it by o
  pub exp_node : ℕ → Exp → Node
  exp_node o (lit v) = literal o v
  exp_node o (ref n) = word o n.at (length n.text)
  exp_node o (neg e) = one neg_kind o (exp_node 0 e)
  exp_node o (chain e c) = branch chain_kind o (member (exp_node 0 e) (chain_nodes c))
  exp_node o (brackets e) = one brackets_kind o (exp_node 0 e)

  -- the operands that follow the first
  pub chain_nodes : Chain → Nodes
  chain_nodes end = no_more
  chain_nodes (link a e c) = member (exp_node (arith_no a) e) (chain_nodes c)

-- expressions, in a call or a `write`
abbrev pub exp_nodes : List Exp → Nodes
exp_nodes es = list_nodes (exp_node 0) es

unfoldable pub cond_node : Cond → Node
cond_node (is_odd e) = one odd_kind 0 (exp_node 0 e)
cond_node (rel o a b) = two comparison_kind (compare_no o) (exp_node 0 a) (exp_node 0 b)

unfoldable mutual
  pub stmt_node : Stmt → Node
  stmt_node (assign n e) = two assign_kind 0 (name_node n) (exp_node 0 e)
  stmt_node (if_then c s) = two if_kind 0 (cond_node c) (stmt_node s)
  stmt_node (if_else c s e) = branch if_kind 0 (member (cond_node c) (member (stmt_node s) (member (stmt_node e) no_more)))
  stmt_node (while c s) = two while_kind 0 (cond_node c) (stmt_node s)
  stmt_node (call n es) = branch call_kind 0 (member (name_node n) (exp_nodes es))
  stmt_node (body l) = branch body_kind 0 (stmt_nodes l)
  stmt_node (read_s ns) = branch read_kind 0 (list_nodes name_node ns)
  stmt_node (write_s es) = branch write_kind 0 (exp_nodes es)

  -- the members of a body
  pub stmt_nodes : Stmts → Nodes
  stmt_nodes (last s) = member (stmt_node s) no_more
  stmt_nodes (more s l) = member (stmt_node s) (stmt_nodes l)

-- a block's or a procedure's body
abbrev pub body_node : Stmts → Node
body_node l = branch body_kind 0 (stmt_nodes l)

-- name `:=` number
abbrev pub const_node : Const → Node
const_node c = two constant_kind 0 (name_node c.id) (literal 0 c.value)

-- the constants of a block
abbrev pub consts_node : List Const → Node
consts_node cs = branch list_kind 0 (list_nodes const_node cs)

-- the variables of a block, or the arguments of a procedure
abbrev pub names_node : List Name → Node
names_node ns = branch list_kind 0 (list_nodes name_node ns)

-- a procedure with those inside it and those after it
unfoldable pub procs_node : Procs → Node
procs_node no_procs = branch no_procedures_kind 0 no_more
procs_node (proc n ar cs vs inner b later) =
    branch procedure_kind 0
    (member (name_node n)
    (member (names_node ar)
    (member (consts_node cs)
    (member (names_node vs)
    (member (procs_node inner)
    (member (body_node b)
    (member (procs_node later) no_more)))))))

-- the main block
unfoldable pub block_node : Block → Node
block_node b = branch block_kind 0 (member (consts_node b.consts) (member (names_node b.vars) (member (procs_node b.procs) (member (body_node b.main) no_more))))

-- What stands at a place of the tree, with names of the text: a name, an expression, a condition, a statement.
use Rattle.std.specs.Prelude.{List, ℕ, ◌+◌, ◌≤◌, length}
use Rattle.lexer.specs.Tokens.{Name}
use Rattle.tree.specs.Tree.{Exp, Cond, Stmt}
use Rattle.tree.specs.Layout.{NodeKind, Nodes, branch, member, enc, Stands}
use Rattle.tree.specs.Nodes.{name_node, exp_node, cond_node, stmt_node}
use Rattle.tree.specs.Named.{NameIn, NamedExp, NamedCond, NamedStmt}

-- the name t stands at i, as a leaf of its own, with the bytes of the text s
pub record NameAt (s tr : List ℕ) (i : ℕ) (t : Name) : Type 0 where
  pub stands : Stands tr i (enc (name_node t))
  pub named : NameIn s t

-- some name does
pub record HasName (s tr : List ℕ) (i : ℕ) : Type 0 where
  pub name : Name
  pub at : NameAt s tr i name

-- an expression, which joins what stands before it by op
pub record ExpAt (s tr : List ℕ) (i : ℕ) (t : Exp) : Type 0 where
  pub op : ℕ
  pub stands : Stands tr i (enc (exp_node op t))
  pub named : NamedExp s t

pub record HasExp (s tr : List ℕ) (i : ℕ) : Type 0 where
  pub exp : Exp
  pub at : ExpAt s tr i exp

-- a condition
pub record CondAt (s tr : List ℕ) (i : ℕ) (t : Cond) : Type 0 where
  pub stands : Stands tr i (enc (cond_node t))
  pub named : NamedCond s t

pub record HasCond (s tr : List ℕ) (i : ℕ) : Type 0 where
  pub cond : Cond
  pub at : CondAt s tr i cond

-- a statement
pub record StmtAt (s tr : List ℕ) (i : ℕ) (t : Stmt) : Type 0 where
  pub stands : Stands tr i (enc (stmt_node t))
  pub named : NamedStmt s t

pub record HasStmt (s tr : List ℕ) (i : ℕ) : Type 0 where
  pub stmt : Stmt
  pub at : StmtAt s tr i stmt

-- an `if` or a `while`: its condition, its first statement, and what else it may have
pub record GuardAt (s tr : List ℕ) (i : ℕ) (c : Cond) (t : Stmt) : Type 0 where
  pub kind : NodeKind
  pub others : Nodes
  pub stands : Stands tr i (enc (branch kind 0 (member (cond_node c) (member (stmt_node t) others))))
  pub cond_named : NamedCond s c
  pub stmt_named : NamedStmt s t

pub record HasGuard (s tr : List ℕ) (i : ℕ) : Type 0 where
  pub cond : Cond
  pub stmt : Stmt
  pub at : GuardAt s tr i cond stmt

-- a statement at j, inside the one at i
pub record Further (s tr : List ℕ) (i j : ℕ) : Type 0 where
  pub has : HasStmt s tr j
  pub beyond : i + 8 ≤ j
  pub fits : j + 4 ≤ length tr

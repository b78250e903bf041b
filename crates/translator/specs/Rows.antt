-- What declarations ask and promise: the rows that a list becomes, in the table.
use Rattle.std.specs.Prelude.{◌≡◌, Bool, true, false, List, ◌∷◌, ℕ, suc, ◌+◌, ◌≤◌, length, get_or, Result, Ok, Err}
use Rattle.numbers.specs.Limits.{row_share}
use Rattle.numbers.specs.declared.refusal.Refusal.{Refusal}
use Rattle.numbers.specs.Refusals.{number_of}
use Rattle.numbers.specs.Stack.{links}
use Rattle.lexer.specs.Tokens.{Name}
use Rattle.tree.specs.Tree.{Const}
use Rattle.tree.specs.Layout.{Node, Nodes, procedure_kind, list_kind, branch, member, enc, Stands}
use Rattle.tree.specs.Nodes.{list_nodes, name_node, const_node, names_node}
use Rattle.tree.specs.Named.{NameIn, Each, NamedConst}
use Rattle.symbols.specs.declared.Kind.TheVariants.{Constant, Variable, Procedure}
use Rattle.symbols.specs.declared.Symbol.{Symbol}
use Rattle.symbols.specs.Symbols.{Rows, rows, refuse_rows, Scope, Row, and_rows, one_more, fresh, proc_row, var_rows, arg_rows}
use Rattle.symbols.specs.Table.{rows_in, scope_at, Sound, Scoped, Kept}
use Rattle.translator.specs.declared.declarations.Frame.{Frame}

-- declarations can go on: the rows are sound, the scope is one of theirs, and the address is one that the rows leave small
pub record Can (s xs : List ℕ) (k : ℕ) (f : Frame) : Type 0 where
  pub sound : Sound s xs k
  pub scoped : Scoped xs k f.scope
  pub low : f.address ≤ k + links

-- the table xs of k rows became ys of m rows
pub record Rowed (o : Rows) (s xs : List ℕ) (k : ℕ) (ys : List ℕ) (m : ℕ) : Type 0 where
  pub is : o ≡ rows (rows_in s ys m)
  pub sound : Sound s ys m
  pub above : k ≤ m
  pub kept : Kept row_share k xs ys

-- as the answer says
pub data Declared (o : Rows) (s xs : List ℕ) (k : ℕ) (ys : List ℕ) : Result ℕ Refusal → Type 0 where
  rowed : {m : ℕ} → Rowed o s xs k ys m → Declared o s xs k ys (Ok m)
  unrowed : {e : Refusal} → o ≡ refuse_rows (number_of e) → Declared o s xs k ys (Err e)

-- one row more for a variable or an argument: the name of one that is checked must be new in its scope
abbrev pub add_name : Bool → List Row → Row → Rows
add_name true rs r = fresh rs r
add_name false rs r = one_more rs r

-- variables are checked, arguments not
abbrev pub name_rows : Bool → List Row → ℕ → ℕ → Scope → List Name → Rows
name_rows true rs l a sc ns = var_rows rs l a sc ns
name_rows false rs l a sc ns = arg_rows rs l a sc ns

-- a constant's row by its numbers
abbrev pub constant_of : List ℕ → ℕ → Frame → Symbol
constant_of tr i f = record { at = get_or tr (i + 6) 0; len = get_or tr (i + 7) 0; kind = Constant; low = get_or tr (i + 10) 0; high = get_or tr (i + 11) 0; level = f.level; address = f.address; size = 0; scope = f.scope }

-- a variable's, or an argument's
abbrev pub variable_of : List ℕ → ℕ → Frame → Symbol
variable_of tr i f = record { at = get_or tr (i + 2) 0; len = get_or tr (i + 3) 0; kind = Variable; low = 0; high = 0; level = f.level; address = f.address; size = 0; scope = f.scope }

-- a procedure's
abbrev pub procedure_of : List ℕ → ℕ → Frame → Symbol
procedure_of tr i f = record { at = get_or tr (i + 6) 0; len = get_or tr (i + 7) 0; kind = Procedure; low = 0; high = 0; level = f.level; address = f.address; size = get_or tr (i + 10) 0; scope = f.scope }

-- the constant stands there
pub record ConstAt (s tr : List ℕ) (i : ℕ) (c : Const) : Type 0 where
  pub stands : Stands tr i (enc (const_node c))
  pub named : NamedConst s c

-- a list stands there
pub record ListAt {A : Type 0} (node : A → Node) (P : A → Type 0) (tr : List ℕ) (i : ℕ) (l : List A) : Type 0 where
  pub stands : Stands tr i (enc (branch list_kind 0 (list_nodes node l)))
  pub named : Each P l

pub record HasList {A : Type 0} (node : A → Node) (P : A → Type 0) (tr : List ℕ) (i : ℕ) : Type 0 where
  pub list : List A
  pub at : ListAt node P tr i list

-- of constants, or of names
abbrev pub ConstsAt : List ℕ → List ℕ → ℕ → List Const → Type 0
ConstsAt s tr i l = ListAt const_node (NamedConst s) tr i l

abbrev pub HasConsts : List ℕ → List ℕ → ℕ → Type 0
HasConsts s tr i = HasList const_node (NamedConst s) tr i

abbrev pub NamesAt : List ℕ → List ℕ → ℕ → List Name → Type 0
NamesAt s tr i l = ListAt name_node (NameIn s) tr i l

abbrev pub HasNames : List ℕ → List ℕ → ℕ → Type 0
HasNames s tr i = HasList name_node (NameIn s) tr i

-- a procedure stands there: its name and its arguments
pub record HeadingAt (s tr : List ℕ) (i : ℕ) (m : Name) (ar : List Name) : Type 0 where
  pub others : Nodes
  pub stands : Stands tr i (enc (branch procedure_kind 0 (member (name_node m) (member (names_node ar) others))))
  pub named : NameIn s m
  pub args_named : Each (NameIn s) ar

pub record HasHeading (s tr : List ℕ) (i : ℕ) : Type 0 where
  pub name : Name
  pub args : List Name
  pub at : HeadingAt s tr i name args

-- a procedure's row and its arguments' rows
unfoldable pub head_rows : List Row → Name → List Name → ℕ → ℕ → Scope → Rows
head_rows rs m ar l a sc = and_rows (fresh rs (proc_row m (length ar) l a sc)) λ r1. arg_rows r1 (suc l) links (m.text ∷ sc) ar

-- what they leave: the rows, and the procedure's scope
pub record Head (m : Name) (ar : List Name) (s xs : List ℕ) (k : ℕ) (f : Frame) (ys : List ℕ) (n : ℕ) : Type 0 where
  pub rowed : Rowed (head_rows (rows_in s xs k) m ar f.level f.address (scope_at s xs f.scope)) s xs k ys n
  pub inner : Scoped ys n (k + 1)
  pub inner_is : scope_at s ys (k + 1) ≡ m.text ∷ scope_at s xs f.scope
  pub more : k + 1 + length ar ≤ n

pub data Headed (m : Name) (ar : List Name) (s xs : List ℕ) (k : ℕ) (f : Frame) (ys : List ℕ) : Result ℕ Refusal → Type 0 where
  headed : {n : ℕ} → Head m ar s xs k f ys n → Headed m ar s xs k f ys (Ok n)
  unheaded : {e : Refusal} → head_rows (rows_in s xs k) m ar f.level f.address (scope_at s xs f.scope) ≡ refuse_rows (number_of e) → Headed m ar s xs k f ys (Err e)

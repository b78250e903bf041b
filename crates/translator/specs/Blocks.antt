-- What blocks and procedures ask and promise: rows and code together.
use Rattle.std.specs.Prelude.{◌≡◌, List, ◌++◌, ℕ, ◌+◌, ◌*◌, ◌≤◌, length, take, Result, Ok, Err}
use Rattle.numbers.specs.Limits.{max_code, draft_places, draft_share}
use Rattle.numbers.specs.declared.refusal.Refusal.{Refusal}
use Rattle.numbers.specs.Refusals.{number_of}
use Rattle.numbers.specs.Stack.{links}
use Rattle.lexer.specs.Tokens.{Name}
use Rattle.tree.specs.Tree.{Const, Stmts, Procs, Block}
use Rattle.tree.specs.Layout.{Nodes, member, enc, encs, Stands}
use Rattle.tree.specs.Nodes.{consts_node, names_node, procs_node, body_node, block_node}
use Rattle.tree.specs.Named.{NameIn, Each, NamedConst, NamedStmts, NamedProcs, Named}
use Rattle.pcode.specs.Code.{Instr}
use Rattle.symbols.specs.Symbols.{Scope, Row, const_rows, var_rows}
use Rattle.symbols.specs.Table.{rows_in, Sound, Scoped, Seen, Kept}
use Rattle.translator.specs.declared.procedures.Place.{Place}
use Rattle.emission.specs.Pieces.{Piece, ◌⨾◌}
use Rattle.emission.specs.Statements.{Env}
use Rattle.translator.specs.Translate.{stas, body_code, Done, finished, failed, with_rows, procs_code, block_code}
use Rattle.emission.specs.Draft.{drafted}

-- what is declared in a block: constants, variables, procedures
unfoldable pub inside_code : List Const → List Name → Procs → ℕ → Scope → ℕ → List Row → ℕ → Done
inside_code cs vs ps l sc a rs p = with_rows (const_rows rs l a sc cs) λ r1. with_rows (var_rows r1 l a sc vs) λ r2. procs_code ps l sc (a + length vs) r2 p

-- the end of a block with n arguments: STA for each, INT, the body and the return
abbrev pub end_code : Env → ℕ → ℕ → Stmts → Piece
end_code ρ a n b = stas n 1 n ⨾ body_code ρ a b

-- a block can go on from here
pub record Start (s xs ds : List ℕ) (p : Place) : Type 0 where
  pub sound : Sound s xs p.used
  pub scoped : Scoped xs p.used p.frame.scope
  pub level : p.frame.level ≤ p.used
  pub low : p.frame.address ≤ p.used + links
  pub room : draft_places ≤ length ds
  pub most : p.n ≤ max_code

-- how far it came: the table xs of k rows is ys, the draft ds up to n is es
pub record Through (o : Done) (s xs : List ℕ) (k : ℕ) (ds : List ℕ) (n : ℕ) (ys es : List ℕ) (q : Place) : Type 0 where
  pub code : List Instr
  pub is : o ≡ finished code (rows_in s ys q.used) q.frame.address
  pub sound : Sound s ys q.used
  pub above : k ≤ q.used
  pub kept : Kept 9 k xs ys
  pub low : q.frame.address ≤ q.used + links
  pub ends : q.n ≡ n + length code
  pub lies : take (draft_share * q.n) es ≡ take (draft_share * n) ds ++ drafted code
  pub most : q.n ≤ max_code

pub data Means (o : Done) (s xs : List ℕ) (k : ℕ) (ds : List ℕ) (n : ℕ) (ys es : List ℕ) : Result Place Refusal → Type 0 where
  through : {q : Place} → Through o s xs k ds n ys es q → Means o s xs k ds n ys es (Ok q)
  not : {e : Refusal} → o ≡ failed (number_of e) → Means o s xs k ds n ys es (Err e)

-- procedures stand there
pub record ProcsAt (s tr : List ℕ) (i : ℕ) (t : Procs) : Type 0 where
  pub stands : Stands tr i (enc (procs_node t))
  pub named : NamedProcs s t

pub record HasProcs (s tr : List ℕ) (i : ℕ) : Type 0 where
  pub procs : Procs
  pub at : ProcsAt s tr i procs

-- constants, variables and procedures stand there, one after the other
pub record InsideAt (s tr : List ℕ) (i : ℕ) (cs : List Const) (vs : List Name) (ps : Procs) : Type 0 where
  pub others : Nodes
  pub stands : Stands tr i (encs (member (consts_node cs) (member (names_node vs) (member (procs_node ps) others))))
  pub consts_named : Each (NamedConst s) cs
  pub vars_named : Each (NameIn s) vs
  pub procs_named : NamedProcs s ps

pub record HasInside (s tr : List ℕ) (i : ℕ) : Type 0 where
  pub consts : List Const
  pub vars : List Name
  pub procs : Procs
  pub at : InsideAt s tr i consts vars procs

-- a body stands there
pub record BodyAt (s tr : List ℕ) (i : ℕ) (b : Stmts) : Type 0 where
  pub stands : Stands tr i (enc (body_node b))
  pub named : NamedStmts s b

pub record HasBody (s tr : List ℕ) (i : ℕ) : Type 0 where
  pub stmts : Stmts
  pub at : BodyAt s tr i stmts

-- the main block stands at the start of the tree
pub record BlockAt (s tr : List ℕ) (b : Block) : Type 0 where
  pub stands : Stands tr 0 (enc (block_node b))
  pub named : Named s b

pub record HasBlock (s tr : List ℕ) : Type 0 where
  pub block : Block
  pub at : BlockAt s tr block

-- the whole: the code in the draft, and the rows in the table, seen from the main program
pub record Whole (b : Block) (s ys es : List ℕ) (m k : ℕ) : Type 0 where
  pub code : List Instr
  pub address : ℕ
  pub is : block_code b ≡ finished code (rows_in s ys k) address
  pub ends : m ≡ length code
  pub lies : take (draft_share * m) es ≡ drafted code
  pub most : m ≤ max_code
  pub sound : Sound s ys k
  pub seen : Seen ys k 0

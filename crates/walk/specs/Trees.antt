-- The walk of a block that stands in the tree: what is asked, and how its end is met.
use Rattle.std.specs.Prelude.{◌≡◌, Bool, true, false, List, [], ℕ, ◌≤◌, ℤ, length, Result as Answer, Ok, Err}
use Rattle.numbers.specs.declared.refusal.Refusal.{Refusal}
use Rattle.numbers.specs.Refusals.{number_of}
use Rattle.numbers.specs.Panel.{done}
use Rattle.numbers.specs.Limits.{max_variables}
use Rattle.numbers.specs.Stack.{links}
use Rattle.numbers.specs.Lent.{onto}
use Rattle.tree.specs.Tree.{Procs, no_procs, proc, Stmt, Block}
use Rattle.tree.specs.Layout.{enc, Stands}
use Rattle.tree.specs.Nodes.{block_node}
use Rattle.tree.specs.Named.{Named}
use Rattle.symbols.specs.Symbols.{main_scope, Row, rows, const_rows, var_rows}
use Rattle.symbols.specs.Table.{rows_in, Sound, Seen}
use Rattle.walk.specs.declared.progress.Progress.{Progress}
use Rattle.walk.specs.Walk.{Walk, ◌>>◌, tick, opened, Walked}
use Rattle.walk.specs.Tests.{part_walk}

-- whether there is a procedure
abbrev pub any_procs : Procs → Bool
any_procs no_procs = false
any_procs (proc n ar cs vs inner b later) = true

-- the block stands at the start of the tree, with names of the text s; the table's rows are those that its constants and its variables become
pub record TreeAt (s tr xs : List ℕ) (used : ℕ) (b : Block) : Type 0 where
  pub stands : Stands tr 0 (enc (block_node b))
  pub named : Named s b
  pub consts : List Row
  pub consts_are : const_rows [] 0 links main_scope b.consts ≡ rows consts
  pub rows_are : var_rows consts 0 links main_scope b.vars ≡ rows (rows_in s xs used)
  pub sound : Sound s xs used
  pub seen : Seen xs used 0

pub record HasTree (s tr xs : List ℕ) (used : ℕ) : Type 0 where
  pub block : Block
  pub at : TreeAt s tr xs used block

-- before the first step
abbrev pub start_of : ℕ → Progress
start_of budget = record { clock = record { left = budget; top = 0 }; at = 0; written = 0; lines = 0 }

-- "2 at the start"
abbrev pub open_walk : ℕ → Walk (Unit {0})
open_walk v = tick >> opened v

-- and the main part after them
abbrev pub main_walk : List Row → ℕ → ℕ → Stmt → Walk (Unit {0})
main_walk rs room v t = open_walk v >> part_walk rs room t

-- the walk x ended with the number n: what it leaves in the lists that were lent, and what q counts
pub record Left (x : Walked) (budget : ℕ) (vars : List ℤ) (out : List ℕ) (vars' : List ℤ) (out' : List ℕ) (n : ℕ) (q : Progress) : Type 0 where
  pub number : x.number ≡ n
  pub left : x.left ≡ q.clock.left
  pub most : q.clock.left ≤ budget
  pub written : length x.final.out ≡ q.written
  pub lines : x.final.lines ≡ q.lines
  pub out_is : out' ≡ onto out x.final.out
  pub vars_are : vars' ≡ onto vars x.final.vars
  pub few : length x.final.vars ≤ max_variables

-- as the answer says
pub data Walks (x : Walked) (budget : ℕ) (vars : List ℤ) (out : List ℕ) (vars' : List ℤ) (out' : List ℕ) (q : Progress) : Answer (Unit {0}) Refusal → Type 0 where
  finished : {u : Unit {0}} → Left x budget vars out vars' out' done q → Walks x budget vars out vars' out' q (Ok u)
  halted : {k : Refusal} → Left x budget vars out vars' out' (number_of k) q → Walks x budget vars out vars' out' q (Err k)

-- How the lent lists and the code's numbers hold a state of the walk, and how a statement's answer is met.
use Rattle.std.specs.Prelude.{◌≡◌, List, ℕ, ◌+◌, ◌≤◌, ◌<◌, ℤ, length, drop, Result as Answer, Ok, Err}
use Rattle.numbers.specs.declared.refusal.Refusal.{Refusal}
use Rattle.numbers.specs.Refusals.{number_of}
use Rattle.numbers.specs.Lent.{onto}
use Rattle.lexer.specs.Tokens.{Name}
use Rattle.tree.specs.Tree.{Exp, Stmt}
use Rattle.tree.specs.Standing.{StmtAt}
use Rattle.symbols.specs.Symbols.{Row}
use Rattle.walk.specs.declared.expressions.Env.{Env}
use Rattle.walk.specs.declared.expressions.Clock.{Clock}
use Rattle.walk.specs.declared.progress.Progress.{Progress}
use Rattle.walk.specs.Walk.{State, Result, ok, stop, Walk, ◌>>=◌, step, read_line, store, put, put_number, walk_exp}

-- with another clock
abbrev pub with_clock : Progress → Clock → Progress
with_clock p c = record { clock = c; at = p.at; written = p.written; lines = p.lines }

-- the state w: its variables and its output are the first places of lists that were lent as lv and lo
pub record Holds (e : Env) (input : List ℕ) (lv : List ℤ) (lo : List ℕ) (vars : List ℤ) (out : List ℕ) (p : Progress) (w : State) : Type 0 where
  pub top : w.top ≡ p.clock.top
  pub vars_are : vars ≡ onto lv w.vars
  pub many : length w.vars ≡ e.vars
  pub out_is : out ≡ onto lo w.out
  pub fits : length w.out ≤ length lo
  pub written : p.written ≡ length w.out
  pub rest : w.input ≡ drop p.at input
  pub lines : w.lines ≡ p.lines
  pub few : p.lines + p.clock.left < 4294967296

-- some state is held
pub record HasState (e : Env) (input : List ℕ) (vars : List ℤ) (out : List ℕ) (p : Progress) : Type 0 where
  pub lv : List ℤ
  pub lo : List ℕ
  pub state : State
  pub holds : Holds e input lv lo vars out p state

-- what a statement's answer, and how far the walk is then, say of the definition's, from p on
pub data Ends (e : Env) (input : List ℕ) (lv : List ℤ) (lo : List ℕ) (vars : List ℤ) (out : List ℕ) (p : Progress) (o : Result (Unit {0})) (q : Progress) : Answer (Unit {0}) Refusal → Type 0 where
  done : {u : Unit {0}} (w : State) → o ≡ ok tt q.clock.left w → Holds e input lv lo vars out q w → q.clock.left ≤ p.clock.left → Ends e input lv lo vars out p o q (Ok u)
  refused : {k : Refusal} (w : State) → o ≡ stop (number_of k) q.clock.left w → Holds e input lv lo vars out q w → q.clock.left ≤ p.clock.left → Ends e input lv lo vars out p o q (Err k)

-- the same of the statement at i, which f walks in the output's room
abbrev pub StmtEnds : Env → ℕ → (ℕ → Stmt → Walk (Unit {0})) → List ℕ → List ℤ → List ℤ → List ℕ → List ℕ → Progress → Progress → Answer (Unit {0}) Refusal → Type 0
StmtEnds e i f input vars vars' out out' p q r =
    (t : Stmt) → StmtAt e.text.now e.tree.now i t → (lv : List ℤ) (lo : List ℕ) (w : State) → Holds e input lv lo vars out p w → Ends e input lv lo vars' out' p (f (length lo) t p.clock.left w) q r

-- one step, from every state that p shows
abbrev pub Steps : Progress → (State → State) → Progress → Answer (Unit {0}) Refusal → Type 0
Steps p f q r = (e : Env) (input : List ℕ) (lv : List ℤ) (lo : List ℕ) (vars : List ℤ) (out : List ℕ) (w : State) → Holds e input lv lo vars out p w → Ends e input lv lo vars out p (step tt (f w) p.clock.left w) q r

-- one name of a `read`
abbrev pub read_walk : List Row → ℕ → Name → Walk (Unit {0})
read_walk rs room n = read_line room >>= λ z. store rs n z

-- what reading a line says of the definition's, from p on
pub data Reads (e : Env) (input : List ℕ) (lv : List ℤ) (lo : List ℕ) (vars : List ℤ) (out : List ℕ) (p : Progress) (o : Result ℤ) (q : Progress) : Answer ℤ Refusal → Type 0 where
  read : {z : ℤ} (w : State) → o ≡ ok z q.clock.left w → Holds e input lv lo vars out q w → q.clock.left ≤ p.clock.left → Reads e input lv lo vars out p o q (Ok z)
  unread : {k : Refusal} (w : State) → o ≡ stop (number_of k) q.clock.left w → Holds e input lv lo vars out q w → q.clock.left ≤ p.clock.left → Reads e input lv lo vars out p o q (Err k)

-- a line that is read, from every state that p shows; after a number the top is one more
pub record Enters (input before after : List ℕ) (p q : Progress) (r : Answer ℤ Refusal) : Type 0 where
  pub reads : (e : Env) (lv : List ℤ) (lo : List ℕ) (vars : List ℤ) (w : State) → Holds e input lv lo vars before p w → Reads e input lv lo vars after p (read_line (length lo) p.clock.left w) q r
  pub top : (z : ℤ) → r ≡ Ok z → 1 ≤ q.clock.top

-- one number of a `write`
abbrev pub write_walk : List Row → ℕ → Exp → Walk (Unit {0})
write_walk rs room t = walk_exp rs t >>= λ z. put_number room z

-- bytes that are written, from every state that p shows
abbrev pub Writes : List ℕ → List ℕ → List ℕ → Progress → Progress → Answer (Unit {0}) Refusal → Type 0
Writes bs before after p q r = (e : Env) (input : List ℕ) (lv : List ℤ) (lo : List ℕ) (vars : List ℤ) (w : State) → Holds e input lv lo vars before p w → Ends e input lv lo vars after p (put (length lo) bs w.top p.clock.left w) q r

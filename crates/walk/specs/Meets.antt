-- What the walk's functions ask and promise: how the lent lists hold a state, and how a walk's answer is met.
use Rattle.std.specs.Prelude.{◌≡◌, List, ℕ, ◌+◌, ◌≤◌, ◌<◌, ℤ, length, Result as Answer, Ok, Err}
use Rattle.numbers.specs.Limits.{greatest}
use Rattle.numbers.specs.Lent.{onto}
use Rattle.numbers.specs.declared.refusal.Refusal.{Refusal}
use Rattle.numbers.specs.Refusals.{number_of}
use Rattle.numbers.specs.Arithmetic.{Arith, arith, Compare, compared, negated}
use Rattle.tree.specs.Tree.{Exp}
use Rattle.tree.specs.Standing.{ExpAt}
use Rattle.symbols.specs.Symbols.{Row}
use Rattle.symbols.specs.Table.{field, value_of, rows_in, Sound, Seen}
use Rattle.walk.specs.declared.expressions.Env.{Env}
use Rattle.walk.specs.declared.expressions.Clock.{Clock}
use Rattle.walk.specs.Walk.{State, Result, ok, stop, Walk, ◌>>=◌, at_top, on_one, on_two, walk_exp}

-- the rows are sound, what the main program sees of them is set out, and their values are within i64
pub record Rows (e : Env) : Type 0 where
  pub sound : Sound e.text.now e.table.now e.used
  pub seen : Seen e.table.now e.used 0
  pub small : (i : ℕ) → i < e.used → value_of (field e.table.now i 9) (field e.table.now i 10) ≤ greatest

-- and there is room for the variables
pub record Known (e : Env) (vars : List ℤ) : Type 0 where
  pub rows : Rows e
  pub room : e.vars ≤ length vars

-- the rows
abbrev pub rows_of : Env → List Row
rows_of e = rows_in e.text.now e.table.now e.used

-- an expression and a leading minus on it
abbrev pub neg_walk : List Row → Exp → Walk ℤ
neg_walk rs t = walk_exp rs t >>= λ z. on_one (negated z)

-- an operand and its operator, on x before it
abbrev pub link_walk : List Row → Arith → ℤ → Exp → Walk ℤ
link_walk rs o x t = walk_exp rs t >>= λ y. on_two (arith o x y)

-- the second side of a comparison and the comparison, with x before it
abbrev pub rel_walk : List Row → Compare → ℤ → Exp → Walk ℤ
rel_walk rs o x t = walk_exp rs t >>= λ y. on_two (compared o x y)

-- the variables vs are the first n of a lent list
pub record Cells (vars : List ℤ) (n : ℕ) (vs : List ℤ) : Type 0 where
  pub lent : List ℤ
  pub is : vars ≡ onto lent vs
  pub many : length vs ≡ n

-- a state that the clock and the lent list show
pub record Shows (vars : List ℤ) (e : Env) (c : Clock) (w : State) : Type 0 where
  pub top : w.top ≡ c.top
  pub cells : Cells vars e.vars w.vars

-- a value, after which the top is n
pub record Went (n : ℕ) (c : Clock) (w : State) (o : Result ℤ) (z : ℤ) (d : Clock) : Type 0 where
  pub is : o ≡ ok z d.left (at_top d.top w)
  pub top : d.top ≡ n
  pub less : d.left ≤ c.left

-- a refusal
pub record Halted (c : Clock) (w : State) (o : Result ℤ) (k : Refusal) (d : Clock) : Type 0 where
  pub is : o ≡ stop (number_of k) d.left (at_top d.top w)
  pub less : d.left ≤ c.left

-- what an expression's answer, and the clock after it, say of the definition's, from the clock c and the state w on, where a value leaves the top at n
pub data Gives (n : ℕ) (c : Clock) (w : State) (o : Result ℤ) (d : Clock) : Answer ℤ Refusal → Type 0 where
  gives : {z : ℤ} → Went n c w o z d → Gives n c w o d (Ok z)
  halts : {k : Refusal} → Halted c w o k d → Gives n c w o d (Err k)

-- the same of the expression at i, which f walks
abbrev pub ExpGives : Env → ℕ → (Exp → Walk ℤ) → List ℤ → Clock → Clock → Answer ℤ Refusal → Type 0
ExpGives e i f vars c d r = (t : Exp) → ExpAt e.text.now e.tree.now i t → (w : State) → Shows vars e c w → Gives (c.top + 1) c w (f t c.left w) d r

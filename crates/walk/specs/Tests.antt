-- A condition that is tested: what the code's answer says of the definition's. And a statement with the step after it.
use Rattle.std.specs.Prelude.{◌≡◌, true, false, List, ℕ, ◌<◌, ◌≤◌, ℤ, pos, Bool, Result as Answer, Ok, Err}
use Rattle.numbers.specs.declared.refusal.Refusal.{Refusal}
use Rattle.numbers.specs.Refusals.{number_of}
use Rattle.numbers.specs.Arithmetic.{eq_z}
use Rattle.tree.specs.Tree.{Cond, Stmt}
use Rattle.symbols.specs.Symbols.{Row}
use Rattle.walk.specs.declared.expressions.Env.{Env}
use Rattle.walk.specs.declared.progress.Progress.{Progress}
use Rattle.walk.specs.Walk.{State, Result, ok, stop, Walk, ◌>>=◌, ◌>>◌, pure, tick, tested, walk_cond, walk_stmt}
use Rattle.walk.specs.Holds.{Holds}

-- a condition's value, and the step of its test
abbrev pub test_walk : List Row → Cond → Walk ℤ
test_walk rs t = walk_cond rs t >>= λ z. tested >> pure z

-- a `then` part, or the statement of a lap, and the step after it
abbrev pub part_walk : List Row → ℕ → Stmt → Walk (Unit {0})
part_walk rs room t = walk_stmt rs room t >> tick

-- what the answer says, and how far the walk is then
pub data Tests (e : Env) (input : List ℕ) (lv : List ℤ) (lo : List ℕ) (vars : List ℤ) (out : List ℕ) (p : Progress) (o : Result ℤ) (q : Progress) : Answer Bool Refusal → Type 0 where
  passed : (z : ℤ) (w : State) → eq_z z (pos 0) ≡ false → o ≡ ok z q.clock.left w → Holds e input lv lo vars out q w → q.clock.left < p.clock.left → Tests e input lv lo vars out p o q (Ok true)
  failed : (z : ℤ) (w : State) → eq_z z (pos 0) ≡ true → o ≡ ok z q.clock.left w → Holds e input lv lo vars out q w → q.clock.left < p.clock.left → Tests e input lv lo vars out p o q (Ok false)
  stopped : {k : Refusal} (w : State) → o ≡ stop (number_of k) q.clock.left w → Holds e input lv lo vars out q w → q.clock.left ≤ p.clock.left → Tests e input lv lo vars out p o q (Err k)

-- What walk's parts promise, and what its answer says as the outcome of the definitions.
use Rattle.std.specs.Prelude.{◌≡◌, Result, Ok, Err, List, ℕ, ◌-◌, ◌≤◌, ℤ, length}
use Rattle.numbers.specs.Panel.{done}
use Rattle.numbers.specs.Limits.{max_variables}
use Rattle.numbers.specs.Lent.{onto}
use Rattle.machine.specs.declared.runs.Ended.{Ended}
use Rattle.walk.specs.declared.progress.Progress.{Progress}
use Rattle.numbers.specs.declared.refusal.Refusal.{Refusal}
use Rattle.numbers.specs.Refusals.{number_of}
use Rattle.walk.specs.Walk.{Walked}
use Rattle.outcomes.specs.Outcomes.{WalkOutcome}

-- no step was made
abbrev pub refused_with : ℕ → Ended
refused_with n = record { number = n; out_len = 0; lines = 0; steps = 0 }

-- the walk came as far as p
abbrev pub ended_at : ℕ → Progress → ℕ → Ended
ended_at n p budget = record { number = n; out_len = p.written; lines = p.lines; steps = budget - p.clock.left }

-- by how it ended
abbrev pub ended_of : Progress → Result (Unit {0}) Refusal → ℕ → Ended
ended_of p (Ok u) budget = ended_at done p budget
ended_of p (Err e) budget = ended_at (number_of e) p budget

-- the walk that was made, or the refusal for which none was
abbrev pub ended_with : Result Ended Refusal → Ended
ended_with (Ok r) = r
ended_with (Err e) = refused_with (number_of e)

-- the answer r to the walk x, and what it leaves in the lists that were lent
pub record Leaves (x : Walked) (budget : ℕ) (vars : List ℤ) (out : List ℕ) (vars' : List ℤ) (out' : List ℕ) (r : Ended) : Type 0 where
  pub number : r.number ≡ x.number
  pub out_length : r.out_len ≡ length x.final.out
  pub lines : r.lines ≡ x.final.lines
  pub steps : r.steps ≡ budget - x.left
  pub out_is : out' ≡ onto out x.final.out
  pub vars_are : vars' ≡ onto vars x.final.vars
  pub few : length x.final.vars ≤ max_variables

-- what walk answers and leaves
abbrev pub walked_of : Ended → List ℕ → List ℤ → List ℕ → List ℕ → List ℕ → WalkOutcome
walked_of r out vars tr table draft = record { number = r.number; out_length = r.out_len; lines = r.lines; steps = r.steps; out = out; vars = vars; work = record { tree = tr; table = table; draft = draft } }

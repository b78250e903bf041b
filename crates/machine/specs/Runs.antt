-- What a run of the code means: the definition's run, and the public outcome.
use Rattle.std.specs.Prelude.{◌≡◌, List, [], ℕ, suc, ◌-◌, ◌≤◌, ℤ, pos, length, Result, Ok, Err}
use Rattle.numbers.specs.declared.refusal.Refusal.{Refusal}
use Rattle.numbers.specs.Refusals.{number_of}
use Rattle.numbers.specs.Panel.{done}
use Rattle.numbers.specs.Lent.{onto}
use Rattle.pcode.specs.Code.{Instr}
use Rattle.machine.specs.declared.frames.Frame.{Frame}
use Rattle.machine.specs.declared.runs.Pause.{Pause}
use Rattle.machine.specs.declared.runs.Pause.TheVariants.{Talks, Ends}
use Rattle.machine.specs.declared.runs.Ended as C
use Rattle.machine.specs.Machine.{Machine, Step, next, halt, stop, Ended, ended, run}
use Rattle.machine.specs.Outcome.{RunOutcome}
use Rattle.machine.specs.Frames.{Steady, at}
use Rattle.machine.specs.Talks.{Ready, talk_of}

-- how a run goes on after a step, with so much budget left after it
abbrev pub going : List Instr → ℕ → ℕ → Machine → Step → Ended
going code room b m (next m') = run code room b m'
going code room b m (halt m') = ended done b m'
going code room b m (stop n) = ended n (suc b) m

-- the number of an end
abbrev pub number_at : Result (Unit {0}) Refusal → ℕ
number_at (Ok u) = done
number_at (Err e) = number_of e

-- the end of a run that paused so, with the cells that it left
abbrev pub paused_of : List Instr → ℕ → Pause → List ℤ → Machine → Ended
paused_of code room (Talks f b w) cs m = going code room b (at f cs m) (talk_of code room w (at f cs m))
paused_of code room (Ends how f b) cs m = ended (number_at how) b (at f cs m)

-- the budget left before the step that talks, or at the end
abbrev pub left_of : Pause → ℕ
left_of (Talks f b w) = suc b
left_of (Ends how f b) = b

-- where it paused
abbrev pub Rests : Pause → Type 0
Rests (Talks f b w) = Steady f × Ready w f
Rests (Ends how f b) = Unit

-- a pause on the way of a run
pub record Paused (code : List Instr) (room budget : ℕ) (f : Frame) (cs : List ℤ) (p : Pause) (cs' : List ℤ) : Type 0 where
  pub tells : (m : Machine) → run code room budget (at f cs m) ≡ paused_of code room p cs' m
  pub less : left_of p ≤ budget
  pub rests : Rests p

-- the first frame: place 0, base 0, top 0
abbrev pub first : Frame
first = record { pc = 0; base = pos 0; top = 0 }

-- before the first step, with these cells
abbrev pub starting : List ℤ → List ℕ → Machine
starting cs input = record { pc = 0; base = pos 0; top = 0; cells = cs; out = []; input = input; lines = 0 }

-- what a run from these cells leaves, by the definition's end
pub record Leaving (e : Ended) (budget : ℕ) (lent : List ℕ) (r : C.Ended) (out' : List ℕ) (cs' : List ℤ) : Type 0 where
  pub number : r.number ≡ e.number
  pub out_length : r.out_len ≡ length e.machine.out
  pub lines : r.lines ≡ e.machine.lines
  pub steps : r.steps ≡ budget - e.left
  pub out : out' ≡ onto lent e.machine.out
  pub cells : cs' ≡ e.machine.cells

-- a counted run
abbrev pub Counted : List Instr → List ℕ → ℕ → List ℕ → List ℤ → C.Ended → List ℕ → List ℤ → Type 0
Counted code input budget out cs r out' cs' = Leaving (run code (length out) budget (starting cs input)) budget out r out' cs'

-- the public outcome: what is returned, with the lent lists as they are then
abbrev pub outcome_of : C.Ended → List ℕ → List ℤ → RunOutcome
outcome_of r out cells = record { number = r.number; out_length = r.out_len; lines = r.lines; steps = r.steps; out = out; cells = cells }

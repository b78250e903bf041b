-- What an exchange of the code means: the rest of the definition's step, and what it leaves of cells and output.
use Rattle.std.specs.Prelude.{◌≡◌, List, [], ℕ, suc, ◌≤◌, ◌<◌, ℤ, pos, length, take, drop, Result, Ok, Err}
use Rattle.numbers.specs.declared.refusal.Refusal.{Refusal}
use Rattle.numbers.specs.Refusals.{number_of}
use Rattle.numbers.specs.Limits.{max_cells}
use Rattle.numbers.specs.Screen.{written, newline}
use Rattle.numbers.specs.Stack.{after_write}
use Rattle.pcode.specs.Code.{Instr}
use Rattle.machine.specs.declared.frames.Frame.{Frame}
use Rattle.machine.specs.declared.talk.Talk.{Talk}
use Rattle.machine.specs.declared.talk.Talk.TheVariants.{Write, NewLine, Read}
use Rattle.machine.specs.declared.talk.Tape.{Tape}
use Rattle.machine.specs.Machine.{Machine, Step, next, stop, put, reading}
use Rattle.machine.specs.Frames.{Sound, at}

-- a machine with the output, the input and the lines of a tape; its frame and cells are given by `at`
abbrev pub taped : Tape → List ℕ → List ℕ → Machine
taped t out input = record { pc = 0; base = pos 0; top = 0; cells = []; out = take t.out out; input = drop t.at input; lines = t.lines }

-- the output written is part of the room
abbrev pub Within : Tape → List ℕ → Type 0
Within t out = t.out ≤ length out

-- with more output
abbrev pub wrote_to : Tape → ℕ → Tape
wrote_to t n = record { at = t.at; out = n; lines = t.lines }

-- with more output and a line taken
abbrev pub took_to : Tape → ℕ → ℕ → Tape
took_to t a n = record { at = a; out = n; lines = suc t.lines }

-- there are cells for the exchange
abbrev pub Ready : Talk → Frame → Type 0
Ready (Write z) f = Unit
Ready NewLine f = Unit
Ready (Read i) f = (i < max_cells) × (f.top < max_cells)

-- what the definition's step does with it
abbrev pub talk_of : List Instr → ℕ → Talk → Machine → Step
talk_of code room (Write z) m = put code room (written z) (after_write m.top) m
talk_of code room NewLine m = put code room newline m.top m
talk_of code room (Read i) m = reading code room m i (suc m.top)

-- the definition's step of an answer, with the cells and the output that it left
abbrev pub talked_of : List ℕ → Result (Frame × Tape) Refusal → List ℤ → List ℕ → Step
talked_of input (Ok (g, u)) cs out = next (at g cs (taped u out input))
talked_of input (Err e) cs out = stop (number_of e)

-- "Output past the written bytes is untouched"; one line at most is taken
pub record Onward (g : Frame) (t u : Tape) (out out' : List ℕ) : Type 0 where
  pub top : Sound g
  pub within : Within u out'
  pub size : length out' ≡ length out
  pub beyond : drop u.out out' ≡ drop u.out out
  pub more : t.out ≤ u.out
  pub lines : u.lines ≤ suc t.lines

-- "A refused step changes no cell, no output byte, no input position"
abbrev pub Left : Result (Frame × Tape) Refusal → Tape → List ℤ → List ℕ → List ℤ → List ℕ → Type 0
Left (Ok (g, u)) t cs out cs' out' = Onward g t u out out'
Left (Err e) t cs out cs' out' = (cs' ≡ cs) × (out' ≡ out)

-- an answer to an exchange is what the definition's step does
pub record Spoke (input : List ℕ) (w : Talk) (f : Frame) (t : Tape) (cs : List ℤ) (out : List ℕ) (r : Result (Frame × Tape) Refusal) (cs' : List ℤ) (out' : List ℕ) : Type 0 where
  pub tells : (code : List Instr) → talk_of code (length out) w (at f cs (taped t out input)) ≡ talked_of input r cs' out'
  pub leaves : Left r t cs out cs' out'

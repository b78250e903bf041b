-- What a frame of the code means: the machine that it is part of, and the cells that it names.
use Rattle.std.specs.Prelude.{◌≡◌, List, ℕ, suc, ◌-◌, ◌≤◌, ◌<◌, ℤ, pos, negsuc, Result, Ok, Err}
use Rattle.std.proofs.Math.Option.{Option, none, some}
use Rattle.numbers.specs.Limits.{max_code, max_cells}
use Rattle.numbers.specs.declared.refusal.Refusal.{Refusal}
use Rattle.numbers.specs.declared.refusal.Refusal.TheVariants.{CellOutside}
use Rattle.machine.specs.declared.frames.Frame.{Frame}
use Rattle.machine.specs.Machine.{Machine, from, up, from_base}

-- the first cell at which there is no room for three links
abbrev pub links_end : ℕ
links_end = 4094

-- a top is at most 4,096
abbrev pub Sound : Frame → Type 0
Sound f = f.top ≤ max_cells

-- so where an instruction was fetched
pub record Steady (f : Frame) : Type 0 where
  pub pc : f.pc < max_code
  pub top : Sound f

-- the machine with this frame and these cells, and output, input and lines as they are
abbrev pub at : Frame → List ℤ → Machine → Machine
at f cs m = record { pc = f.pc; base = f.base; top = f.top; cells = cs; out = m.out; input = m.input; lines = m.lines }

-- on to the next instruction, with another top
abbrev pub onward : Frame → ℕ → Frame
onward f t = record { pc = suc f.pc; base = f.base; top = t }

-- to another place
abbrev pub jumped : Frame → ℕ → Frame
jumped f p = record { pc = p; base = f.base; top = f.top }

-- with another base and another top
abbrev pub framed : Frame → ℤ → ℕ → Frame
framed f b t = record { pc = f.pc; base = b; top = t }

-- the cell of an operand above a base
unfoldable pub from_by : ℤ → ℤ → Option ℕ
from_by b (pos a) = from b a
from_by b (negsuc a) = none

-- the cell of a level and an operand
unfoldable pub there_by : List ℤ → ℕ → ℤ → ℤ → Option ℕ
there_by cs l (pos a) b = from_base (up cs l b) a
there_by cs l (negsuc a) b = none

-- the cell of the definition, or there is none
abbrev pub Names : Result ℕ Refusal → Option ℕ → Type 0
Names (Ok i) o = (o ≡ some i) × (i < max_cells)
Names (Err e) o = (o ≡ none) × (e ≡ CellOutside)

-- the base of the definition, or there is none
abbrev pub Reaches : Result ℤ Refusal → Option ℤ → Type 0
Reaches (Ok b) o = o ≡ some b
Reaches (Err e) o = (o ≡ none) × (e ≡ CellOutside)

-- the cell below a top
abbrev pub Below : ℕ → Result ℕ Refusal → Type 0
Below t (Ok i) = (0 < t) × (i ≡ t - 1)
Below t (Err e) = (t ≡ 0) × (e ≡ CellOutside)

-- the cell that a push writes
abbrev pub Free : ℕ → Result ℕ Refusal → Type 0
Free t (Ok i) = (t < max_cells) × (i ≡ t)
Free t (Err e) = (max_cells ≤ t) × (e ≡ CellOutside)

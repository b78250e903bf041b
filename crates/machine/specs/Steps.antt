-- What a step of the code means: the step of the definition, and the cells that it leaves.
use Rattle.std.specs.Prelude.{◌≡◌, Bool, true, false, List, [], ◌∷◌, ℕ, zero, suc, ◌+◌, ◌≤◌, ◌<◌, ℤ, pos, negsuc, ltb, eqb, length, set, Result, Ok, Err}
use Rattle.std.proofs.Math.Option.{some}
use Rattle.std.proofs.Common.{arith as linear}
use Rattle.std.proofs.Math.ListN.{get_elem?}
use Rattle.numbers.specs.declared.refusal.Refusal.{Refusal}
use Rattle.numbers.specs.declared.refusal.Refusal.TheVariants.{PlaceOutside}
use Rattle.numbers.specs.Refusals.{number_of}
use Rattle.numbers.specs.Limits.{max_code, max_cells}
use Rattle.numbers.specs.Screen.{written, newline}
use Rattle.numbers.specs.Stack.{after_write}
use Rattle.pcode.specs.Operators.{Oper, oper_no, operators, oper_of, oper_back}
use Rattle.pcode.specs.Code.{Instr, Code, instrs_in}
use Rattle.machine.specs.declared.frames.Frame.{Frame}
use Rattle.machine.specs.declared.steps.Does.{Does}
use Rattle.machine.specs.declared.steps.Does.TheVariants.{Next, Halt, Write, NewLine, Read}
use Rattle.machine.specs.Machine.{Machine, Step, next, halt, stop, put, reading}
use Rattle.machine.specs.Frames.{Sound, at, jumped}

-- so many places of a code list are lent: as many as all three lists have, and no more than 4,096
pub record Listed (code : Code) (places : ℕ) : Type 0 where
  pub all : length (instrs_in code) ≡ places
  pub few : places ≤ max_code
  pub kinds : places ≤ length code.kinds
  pub levels : places ≤ length code.levels
  pub operands : places ≤ length code.operands

-- the definition's step of an answer that was given at a frame, with the cells that it left
abbrev pub step_of : List Instr → ℕ → Frame → List ℤ → Result Does Refusal → Machine → Step
step_of code room f cs (Ok (Next g)) m = next (at g cs m)
step_of code room f cs (Ok (Halt g)) m = halt (at g cs m)
step_of code room f cs (Err e) m = stop (number_of e)
step_of code room f cs (Ok (Write z)) m = put code room (written z) (after_write f.top) (at f cs m)
step_of code room f cs (Ok NewLine) m = put code room newline f.top (at f cs m)
step_of code room f cs (Ok (Read i)) m = reading code room (at f cs m) i (suc f.top)

-- the cells before and after: "A refused step changes no cell", and neither does one that has yet to exchange something,
-- which was fetched and for which there are cells
abbrev pub Leaves : Result Does Refusal → Frame → List ℤ → List ℤ → Type 0
Leaves (Ok (Next g)) f cs cs' = Sound g
Leaves (Ok (Halt g)) f cs cs' = Unit
Leaves (Err e) f cs cs' = cs' ≡ cs
Leaves (Ok (Write z)) f cs cs' = (cs' ≡ cs) × (f.pc < max_code)
Leaves (Ok NewLine) f cs cs' = (cs' ≡ cs) × (f.pc < max_code)
Leaves (Ok (Read i)) f cs cs' = (cs' ≡ cs) × (f.pc < max_code) × (i < max_cells) × (f.top < max_cells)

-- an answer given at a frame and its cells is what the definition's step does there
pub record Did (code : List Instr) (room : ℕ) (does : Machine → Step) (f : Frame) (cs : List ℤ) (r : Result Does Refusal) (cs' : List ℤ) : Type 0 where
  pub tells : (m : Machine) → does (at f cs m) ≡ step_of code room f cs' r m
  pub leaves : Leaves r f cs cs'

-- whether a target is within the list
unfoldable pub inside : ℕ → ℤ → Bool
inside places (pos t) = ltb t places
inside places (negsuc t) = false

-- the place of a target within the list
abbrev pub Inside : ℕ → ℤ → Result ℕ Refusal → Type 0
Inside places a (Ok to) = (inside places a ≡ true) × (a ≡ pos to)
Inside places a (Err e) = (inside places a ≡ false) × (e ≡ PlaceOutside)

-- the answer at a place of the list
abbrev pub arrived : ℕ → Frame → Does
arrived to f = elim (eqb to 0) [ true ↦ Halt f | false ↦ Next (jumped f to) ]

-- the answer of a jump
unfoldable pub went : ℕ → ℤ → Frame → Result Does Refusal
went places (negsuc t) f = Err PlaceOutside
went places (pos t) f =
    elim (ltb t places) [
      | false ↦ Err PlaceOutside
      | true ↦ Ok (arrived t f)
    ]

-- the cells with the three links of a call
abbrev pub linked : List ℤ → ℕ → ℤ → ℤ → ℤ → List ℤ
linked cs t b s p = set (set (set cs t b) (t + 1) s) (t + 2) p

-- an operator's number is a place of their list: 0 to 16
pub oper_few : (o : Oper) → oper_no o ≤ 16
unfolding oper_of operators
oper_few o = omega (linear, within operators (oper_no o) (oper_back o))
  where
    within : {A : Type 0} (l : List A) (n : ℕ) {x : A} → get_elem? l n ≡ some x → n < length l
    within [] n e = let z : ◌≡◌ {A = ℕ} 0 1 = cc in omega linear
    within (y ∷ l) zero e = omega linear
    within (y ∷ l) (suc n) e = omega (linear, within l n e)

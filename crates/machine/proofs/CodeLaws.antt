-- Laws of code: which operator a number means, and what stands at a place of a code list.
use mathlib.Core.Path.{◌≡◌, refl}
use mathlib.Core.List.{List}
use mathlib.Core.Option.{none, some}
use Prim.Native.Nat.{ℕ, ◌≤◌, ◌<◌}
use native.Mathlib.Omega.{arith}
use lib.IntN.{ℤ, pos, negsuc}
use lib.ListN.{length, get_or}
use borrow.Author.Tests.{lt-ltb, le-ltb}
use Rattle.std.specs.Prelude.{Result, Err}
use Rattle.numbers.specs.declared.refusal.Refusal.{Refusal}
use Rattle.numbers.specs.declared.refusal.Refusal.TheVariants.{NotAnOperation, PlaceOutside}
use Rattle.pcode.specs.Operators.{Oper, operator_of}
use Rattle.pcode.specs.Code.{Op, NIL, OPR, INT, Instr, Code, kind_of, places_in, instrs_in}
use Rattle.pcode.specs.PlaceLaws.{length_instrs, instr_at}
use Rattle.machine.specs.declared.frames.Frame.{Frame}
use Rattle.machine.specs.declared.steps.Does.{Does}
use Rattle.machine.specs.Machine.{operate, perform, step}
use Rattle.machine.specs.Steps.{Did}

module _ (code : List Instr) (room : ℕ) (f : Frame) (cs : List ℤ) where
  -- OPR, by its operator
  pub opr_did : (a : ℤ) {q : Oper} {r : Result Does Refusal} {cs' : List ℤ} → operator_of a ≡ some q → Did code room (operate code room q) f cs r cs' → Did code room (perform code room OPR 0 a) f cs r cs'
  unfolding perform operator_of
  opr_did (pos n) e d = record { tells = λ m. rw e (d.tells m); leaves = d.leaves }
  opr_did (negsuc n) e d = cc

  pub opr_none : (a : ℤ) → operator_of a ≡ none → Did code room (perform code room OPR 0 a) f cs (Err NotAnOperation) cs
  unfolding perform operator_of
  opr_none (pos n) e = record { tells = λ m. rw e; leaves = refl }
  opr_none (negsuc n) e = record { tells = λ m. refl; leaves = refl }

  -- the level is not looked at
  pub opr_level : (l : ℕ) (a : ℤ) {r : Result Does Refusal} {cs' : List ℤ} → Did code room (perform code room OPR 0 a) f cs r cs' → Did code room (perform code room OPR l a) f cs r cs'
  unfolding perform
  opr_level l (pos a) d = record { tells = d.tells; leaves = d.leaves }
  opr_level l (negsuc a) d = record { tells = d.tells; leaves = d.leaves }

  pub int_level : (l : ℕ) (a : ℤ) {r : Result Does Refusal} {cs' : List ℤ} → Did code room (perform code room INT 0 a) f cs r cs' → Did code room (perform code room INT l a) f cs r cs'
  unfolding perform
  int_level l (pos a) d = record { tells = d.tells; leaves = d.leaves }
  int_level l (negsuc a) d = record { tells = d.tells; leaves = d.leaves }

-- a step does what the instruction at its place does
module _ (code : Code) (room : ℕ) (f : Frame) (cs : List ℤ) where
  pub step_out : length (instrs_in code) ≤ f.pc → Did (instrs_in code) room (step (instrs_in code) room) f cs (Err PlaceOutside) cs
  unfolding step
  step_out h = record { tells = λ m. rw (le-ltb f.pc (length (instrs_in code)) h, step); leaves = refl }

  pub step_did : (o : Op) {r : Result Does Refusal} {cs' : List ℤ} → f.pc < length (instrs_in code) → kind_of (get_or code.kinds f.pc (pos 0)) ≡ o
      → Did (instrs_in code) room (perform (instrs_in code) room o (get_or code.levels f.pc 0) (get_or code.operands f.pc (pos 0))) f cs r cs' → Did (instrs_in code) room (step (instrs_in code) room) f cs r cs'
  unfolding step
  step_did o h e d =
      let p : f.pc < length (places_in code.kinds code.levels code.operands) = omega (arith, length_instrs code.kinds code.levels code.operands) in
      record {
        tells = λ m. rw (lt-ltb f.pc (length (instrs_in code)) h, instr_at code.kinds code.levels code.operands f.pc p, e, step) (d.tells m);
        leaves = d.leaves;
      }

  pub step_none : f.pc < length (instrs_in code) → kind_of (get_or code.kinds f.pc (pos 0)) ≡ NIL → Did (instrs_in code) room (step (instrs_in code) room) f cs (Err NotAnOperation) cs
  unfolding perform
  step_none h e = step_did NIL h e (record { tells = λ m. refl; leaves = refl })

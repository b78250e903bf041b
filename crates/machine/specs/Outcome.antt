-- The public outcome of run: number, counts, and the whole contents of every lent list afterwards, on every input.
-- A list that is lent stands in the outcome under its own name. 24 comes first, and after it nothing lent has changed.
use Rattle.std.specs.Prelude.{◌≡◌, true, false, List, ℕ, ◌-◌, ℤ, length}
use Rattle.std.proofs.Common.{sym, ◌∙◌}
use Rattle.numbers.specs.Panel.{room_too_small}
use Rattle.numbers.specs.Limits.{max_cells}
use Rattle.numbers.specs.Lent.{holds, onto}
use Rattle.pcode.specs.Code.{Code, instrs_in}
use Rattle.machine.specs.Machine.{Ended, run_of}

-- number, output length, lines taken, steps completed; the output and the cells
pub record RunOutcome : Type 0 where
  pub number : ℕ
  pub out_length : ℕ
  pub lines : ℕ
  pub steps : ℕ
  pub out : List ℕ
  pub cells : List ℤ

-- "Run, also with 15, zeroes cells 0..4095 first"; "Output past the written bytes is untouched"
unfoldable pub run_leaves : Ended → ℕ → List ℕ → List ℤ → RunOutcome
run_leaves e budget out cells = record {
  number = e.number;
  out_length = length e.machine.out;
  lines = e.machine.lines;
  steps = budget - e.left;
  out = onto out e.machine.out;
  cells = onto cells e.machine.cells;
}

-- code list, input, budget; output and cells, as lent
unfoldable pub run_outcome : Code → List ℕ → ℕ → List ℕ → List ℤ → RunOutcome
run_outcome code input budget out cells =
    elim (holds max_cells cells) [
      | true ↦ run_leaves (run_of (instrs_in code) input budget (length out)) budget out cells
      | false ↦ record { number = room_too_small; out_length = 0; lines = 0; steps = 0; out = out; cells = cells }
    ]

-- the outcome is a function of what is given and lent: two outcomes that meet the equation coincide
pub one_run : (code : Code) (input : List ℕ) (budget : ℕ) (out : List ℕ) (cells : List ℤ) (x y : RunOutcome) → x ≡ run_outcome code input budget out cells → y ≡ run_outcome code input budget out cells → x ≡ y
one_run code input budget out cells x y p q = p ∙ sym q

-- What the contracts settle, in a form to cite: a refused step changes nothing and is not counted, and run's contract leaves
-- one outcome.
use Rattle.std.specs.Prelude.{◌≡◌, refl, List, ℕ, suc, ℤ, Err}
use Rattle.numbers.specs.declared.refusal.Refusal.{Refusal}
use Rattle.std.proofs.Common.{sym, ap, ◌∙◌}
use Rattle.pcode.specs.Code.{Instr, Code}
use Rattle.machine.specs.declared.frames.Frame.{Frame}
use Rattle.machine.specs.declared.talk.Talk.{Talk}
use Rattle.machine.specs.declared.talk.Tape.{Tape}
use Rattle.machine.specs.declared.runs.Ended as C
use Rattle.machine.specs.Machine.{Machine, Step, next, stop, step, ended, run}
use Rattle.machine.specs.Outcome.{RunOutcome, run_outcome}
use Rattle.machine.specs.Steps.{Did}
use Rattle.machine.specs.Talks.{Spoke}
use Rattle.machine.specs.Runs.{outcome_of}

module _ (code : List Instr) (room : ℕ) where
  -- a run with budget b at the machine m comes to budget b' at m', a step at a time
  pub data Comes : ℕ → Machine → ℕ → Machine → Type 0 where
    here : {b : ℕ} {m : Machine} → Comes b m b m
    on : {b b' : ℕ} {m m₁ m' : Machine} → step code room m ≡ next m₁ → Comes b m₁ b' m' → Comes (suc b) m b' m'

  -- one step of a run that goes on, and one that is refused
  goes : (b : ℕ) (m m₁ : Machine) → step code room m ≡ next m₁ → run code room (suc b) m ≡ run code room b m₁
  unfolding run
  goes b m m₁ e = rw (e, run)

  stops : (b n : ℕ) (m : Machine) → step code room m ≡ stop n → run code room (suc b) m ≡ ended n (suc b) m
  unfolding run
  stops b n m e = rw (e, run)

  comes_same : {b b' : ℕ} {m m' : Machine} → Comes b m b' m' → run code room b m ≡ run code room b' m'
  comes_same here = refl
  comes_same (on {b} {m = m} {m₁ = m₁} e c) = goes b m m₁ e ∙ comes_same c

  -- "A refused step changes no cell, no output byte, no input position and isn't counted": where a run comes to a machine at
  -- which the step is refused, it ends with that very machine and with the budget that was left before the step
  pub refused_step : {b b' n : ℕ} {m m' : Machine} → Comes b m (suc b') m' → step code room m' ≡ stop n → run code room b m ≡ ended n (suc b') m'
  refused_step {b' = b'} {n = n} {m' = m'} c e = comes_same c ∙ stops b' n m' e

-- the code's step that is refused leaves the cells as they were
pub refused_cells : (code : List Instr) (room : ℕ) (does : Machine → Step) (f : Frame) (cs cs' : List ℤ) {e : Refusal} → Did code room does f cs (Err e) cs' → cs' ≡ cs
refused_cells code room does f cs cs' d = d.leaves

-- the code's exchange that is refused leaves cells and output as they were, and its answer has no new tape
pub refused_exchange : (input : List ℕ) (w : Talk) (f : Frame) (t : Tape) (cs cs' : List ℤ) (out out' : List ℕ) {e : Refusal} → Spoke input w f t cs out (Err e) cs' out' → (cs' ≡ cs) × (out' ≡ out)
refused_exchange input w f t cs cs' out out' d = d.leaves

-- two outcomes that meet run's contract coincide: what is returned, the output and the cells
pub run_determined : (code : Code) (input : List ℕ) (budget : ℕ) (out : List ℕ) (cells : List ℤ) (r r' : C.Ended) (o o' : List ℕ) (c c' : List ℤ)
    → outcome_of r o c ≡ run_outcome code input budget out cells → outcome_of r' o' c' ≡ run_outcome code input budget out cells → (r ≡ r') × (o ≡ o') × (c ≡ c')
run_determined code input budget out cells r r' o o' c c' p q =
    let e : outcome_of r o c ≡ outcome_of r' o' c' = p ∙ sym q in (
      ap (λ (x : RunOutcome). record { number = x.number; out_len = x.out_length; lines = x.lines; steps = x.steps }) e,
      ap (λ (x : RunOutcome). x.out) e,
      ap (λ (x : RunOutcome). x.cells) e,
    )

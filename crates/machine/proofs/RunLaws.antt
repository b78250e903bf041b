-- Laws of runs: a step is counted once it is made, a pause is on the way of the run, and its end is the outcome.
use mathlib.Core.Path.{◌≡◌, refl, sym, ap, ◌∙◌}
use mathlib.Core.List.{List, ◌++◌}
use Prim.Native.Nat.{ℕ, zero, suc, ◌+◌, ◌-◌, ◌≤◌, ◌<◌}
use native.Mathlib.Omega.{arith}
use lib.IntN.{ℤ, pos}
use lib.ListN.{length, take, drop, replicate, take-append-drop}
use lib.Seq.{length-take-le, drop-drop}
use borrow.Author.Tests.{le-leb, lt-leb}
use Rattle.numbers.specs.Panel.{done, too_many_instructions, budget_spent, room_too_small}
use Rattle.numbers.specs.Limits.{max_code, max_cells}
use Rattle.numbers.specs.Lent.{onto}
use Rattle.pcode.specs.Code.{Instr, Code, instrs_in}
use Rattle.pcode.specs.PlaceLaws.{in_kinds, in_levels, in_operands}
use Rattle.machine.specs.declared.frames.Frame.{Frame}
use Rattle.machine.specs.declared.steps.Does.{Does}
use Rattle.machine.specs.declared.steps.Does.TheVariants as D
use Rattle.machine.specs.declared.talk.Talk.{Talk}
use Rattle.machine.specs.declared.talk.Talk.TheVariants.{Write, NewLine, Read}
use Rattle.machine.specs.declared.talk.Tape.{Tape}
use Rattle.std.specs.Prelude.{Result, Ok, Err}
use Rattle.numbers.specs.declared.refusal.Refusal.{Refusal}
use Rattle.numbers.specs.declared.refusal.Refusal.TheVariants.{BudgetSpent}
use Rattle.numbers.specs.Refusals.{number_of}
use Rattle.machine.specs.declared.runs.Pause.{Pause}
use Rattle.machine.specs.declared.runs.Pause.TheVariants.{Talks, Ends}
use Rattle.machine.specs.declared.runs.Ended as C
use Rattle.machine.specs.Machine.{Machine, Step, next, halt, stop, step, Ended, ended, run, start, run_of}
use Rattle.machine.specs.Outcome.{run_leaves, run_outcome}
use Rattle.machine.specs.Frames.{Sound, at}
use Rattle.machine.specs.Steps.{Did, Listed}
use Rattle.machine.specs.Talks.{taped, Onward, talk_of, Spoke}
use Rattle.machine.specs.Runs.{going, number_at, paused_of, left_of, Rests, Paused, starting, Leaving, outcome_of}

-- a step with budget left
pub run_goes : (code : List Instr) (room b : ℕ) (m : Machine) (s : Step) → step code room m ≡ s → run code room (suc b) m ≡ going code room b m s
unfolding run
run_goes code room b m s e = rw (e, run) (by s)
  where
    by : (s : Step) → (elim s as (λ w. Ended) [ next m' ↦ run code room b m' | halt m' ↦ ended done b m' | stop n ↦ ended n (suc b) m ]) ≡ going code room b m s
    by (next m') = refl
    by (halt m') = refl
    by (stop n) = refl

pub run_left : (code : List Instr) (room left : ℕ) (m : Machine) (s : Step) → 0 < left → step code room m ≡ s → run code room left m ≡ going code room (left - 1) m s
run_left code room zero m s p e = absurd (omega arith)
run_left code room (suc b) m s p e = let k : suc b - 1 ≡ b = omega arith in rw k (run_goes code room b m s e)

pub run_spent : (code : List Instr) (room : ℕ) {left : ℕ} (m : Machine) → left ≡ 0 → run code room left m ≡ ended budget_spent 0 m
unfolding run
run_spent code room m e = rw e

-- quiet steps: the run from the start is the run from the frame reached, with the budget that is left
unfoldable pub Quiet : List Instr → ℕ → Frame → List ℤ → ℕ → Frame → List ℤ → Type 0
Quiet code budget f₀ cs₀ left f cs = (room : ℕ) (m : Machine) → run code room budget (at f₀ cs₀ m) ≡ run code room left (at f cs m)

pub quiet_start : (code : List Instr) (budget : ℕ) (f : Frame) (cs : List ℤ) → Quiet code budget f cs budget f cs
unfolding Quiet
quiet_start code budget f cs room m = refl

module _ (code : List Instr) (budget : ℕ) (f₀ : Frame) (cs₀ : List ℤ) (left : ℕ) (f : Frame) (cs : List ℤ) where
  pub quiet_spent : Quiet code budget f₀ cs₀ left f cs → left ≡ 0 → (room : ℕ) → Paused code room budget f₀ cs₀ (Ends (Err BudgetSpent) f 0) cs
  unfolding Quiet
  quiet_spent q e room = record { tells = λ m. q room m ∙ run_spent code room (at f cs m) e; less = omega arith; rests = tt }

  module _ (q : Quiet code budget f₀ cs₀ left f cs) (p : 0 < left) (le : left ≤ budget) {r : Result Does Refusal} {cs' : List ℤ} (did : (room : ℕ) → Did code room (step code room) f cs r cs') where
    pub quiet_next : {g : Frame} → r ≡ Ok (D.Next g) → Quiet code budget f₀ cs₀ (left - 1) g cs' × Sound g
    unfolding Quiet
    quiet_next {g} e =
        let d : (room : ℕ) → Did code room (step code room) f cs (Ok (D.Next g)) cs' = λ room. rw e at (did room) in
        (λ room m. q room m ∙ run_left code room left (at f cs m) (next (at g cs' m)) p ((d room).tells m), (d 0).leaves)

    pub quiet_halt : {g : Frame} → r ≡ Ok (D.Halt g) → (room : ℕ) → Paused code room budget f₀ cs₀ (Ends (Ok tt) g (left - 1)) cs'
    unfolding Quiet
    quiet_halt {g} e room =
        let d = rw e at (did room) in
        record { tells = λ m. q room m ∙ run_left code room left (at f cs m) (halt (at g cs' m)) p (d.tells m); less = omega arith; rests = tt }

    pub quiet_stop : {n : Refusal} → r ≡ Err n → (room : ℕ) → Paused code room budget f₀ cs₀ (Ends (Err n) f left) cs'
    unfolding Quiet
    quiet_stop {n} e room =
        let d = rw e at (did room) in
        let k : suc (left - 1) ≡ left = omega arith in
        record { tells = λ m. rw d.leaves (q room m ∙ run_left code room left (at f cs m) (stop (number_of n)) p (d.tells m) ∙ rw k); less = le; rests = tt }

    pub quiet_write : {z : ℤ} → Sound f → r ≡ Ok (D.Write z) → (room : ℕ) → Paused code room budget f₀ cs₀ (Talks f (left - 1) (Write z)) cs'
    unfolding Quiet
    quiet_write {z} s e room =
        let d = rw e at (did room) in
        let t = rw d.leaves.0 at d.tells in
        record { tells = λ m. rw d.leaves.0 (q room m ∙ run_left code room left (at f cs m) (talk_of code room (Write z) (at f cs m)) p (t m)); less = omega arith; rests = (record { pc = d.leaves.1; top = s }, tt) }

    pub quiet_line : Sound f → r ≡ Ok D.NewLine → (room : ℕ) → Paused code room budget f₀ cs₀ (Talks f (left - 1) NewLine) cs'
    unfolding Quiet
    quiet_line s e room =
        let d = rw e at (did room) in
        let t = rw d.leaves.0 at d.tells in
        record { tells = λ m. rw d.leaves.0 (q room m ∙ run_left code room left (at f cs m) (talk_of code room NewLine (at f cs m)) p (t m)); less = omega arith; rests = (record { pc = d.leaves.1; top = s }, tt) }

    pub quiet_read : {i : ℕ} → Sound f → r ≡ Ok (D.Read i) → (room : ℕ) → Paused code room budget f₀ cs₀ (Talks f (left - 1) (Read i)) cs'
    unfolding Quiet
    quiet_read {i} s e room =
        let d = rw e at (did room) in
        let t = rw d.leaves.0 at d.tells in
        record { tells = λ m. rw d.leaves.0 (q room m ∙ run_left code room left (at f cs m) (talk_of code room (Read i) (at f cs m)) p (t m)); less = omega arith; rests = (record { pc = d.leaves.1; top = s }, (d.leaves.2, d.leaves.3)) }

-- what is dropped later is the same
drop_later : {A : Type 0} (a b : ℕ) (x y : List A) → a ≤ b → drop a x ≡ drop a y → drop b x ≡ drop b y
drop_later a b x y h e =
    let k : a + (b - a) ≡ b = omega arith in
    rw (← k) (sym (drop-drop (b - a) a x) ∙ ap (drop (b - a)) e ∙ drop-drop (b - a) a y)

-- output written so far, and the rest as it was lent
pub onto_taken : (n : ℕ) (out out₀ : List ℕ) → n ≤ length out → drop n out ≡ drop n out₀ → out ≡ onto out₀ (take n out)
onto_taken n out out₀ h e = rw (length-take-le n out h, ← e) (sym (take-append-drop n out))

module _ (code : List Instr) (input : List ℕ) (budget : ℕ) (out₀ : List ℕ) (e : Ended) where
  -- a pause on the way of the whole run, whose end is e, with tape, cells and output
  pub record Live (t : Tape) (p : Pause) (cs : List ℤ) (out : List ℕ) : Type 0 where
    pub cells : length cs ≡ max_cells
    pub size : length out ≡ length out₀
    pub within : t.out ≤ length out
    pub beyond : drop t.out out ≡ drop t.out out₀
    pub count : t.lines + left_of p ≤ budget
    pub rests : Rests p
    pub tells : e ≡ paused_of code (length out₀) p cs (taped t out input)

  pub live_ends : {t : Tape} {how : Result (Unit {0}) Refusal} {n l : ℕ} {f : Frame} {cs : List ℤ} {out : List ℕ} → n ≡ number_at how → Live t (Ends how f l) cs out
      → Leaving e budget out₀ (record { number = n; out_len = t.out; lines = t.lines; steps = budget - l }) out cs
  live_ends {t} {how} {n} {l} {f} {cs} {out} e v =
      rw (v.tells, e) (record { number = refl; out_length = sym (length-take-le t.out out v.within); lines = refl; steps = refl; out = onto_taken t.out out out₀ v.within v.beyond; cells = refl })

  module _ {t : Tape} {w : Talk} {f : Frame} {l : ℕ} {cs : List ℤ} {out : List ℕ} (v : Live t (Talks f l w) cs out) where
    -- the room is that of the output as it is
    spoken : {s : Step} → talk_of code (length out) w (at f cs (taped t out input)) ≡ s → e ≡ going code (length out₀) l (at f cs (taped t out input)) s
    spoken {s} k = v.tells ∙ ap (going code (length out₀) l (at f cs (taped t out input))) (rw v.size at k)

    pub live_stops : {n : ℕ} {x : Refusal} {cs' : List ℤ} {out' : List ℕ} → n ≡ number_of x → Spoke input w f t cs out (Err x) cs' out'
        → Leaving e budget out₀ (record { number = n; out_len = t.out; lines = t.lines; steps = budget - l - 1 }) out' cs'
    live_stops {n} h d =
        let k : budget - l - 1 ≡ budget - suc l = omega arith in
        rw (spoken (d.tells code), d.leaves.0, d.leaves.1, h) (record { number = refl; out_length = sym (length-take-le t.out out v.within); lines = refl; steps = k; out = onto_taken t.out out out₀ v.within v.beyond; cells = refl })

    pub live_on : {g : Frame} {u : Tape} {p : Pause} {cs' cs'' : List ℤ} {out' : List ℕ} → Spoke input w f t cs out (Ok (g, u)) cs' out' → length cs'' ≡ max_cells → Paused code (length out₀) l g cs' p cs'' → Live u p cs'' out'
    live_on {g} {u} {out' = out'} d k z =
        let o : Onward g t u out out' = d.leaves in
        record {
          cells = k;
          size = o.size ∙ v.size;
          within = o.within;
          beyond = o.beyond ∙ drop_later t.out u.out out out₀ o.more v.beyond;
          count = omega (arith, o.lines, v.count, z.less);
          rests = z.rests;
          tells = spoken (d.tells code) ∙ z.tells (taped u out' input);
        }

-- the first pause
pub live_first : (code : List Instr) (input : List ℕ) (budget : ℕ) (out : List ℕ) (t : Tape) (p : Pause) (cs : List ℤ) → length cs ≡ max_cells → t.out ≤ length out → t.lines + left_of p ≤ budget → Rests p
    → Live code input budget out (paused_of code (length out) p cs (taped t out input)) t p cs out
live_first code input budget out t p cs k w c r = record { cells = k; size = refl; within = w; beyond = refl; count = c; rests = r; tells = refl }

-- the same end
pub leaving_from : {x y : Ended} {budget : ℕ} {lent : List ℕ} {r : C.Ended} {out : List ℕ} {cs : List ℤ} → x ≡ y → Leaving y budget lent r out cs → Leaving x budget lent r out cs
leaving_from e v = rw e v

-- the code list that is lent
pub listed : (code : Code) {places : ℕ} → places ≡ length (instrs_in code) → places ≤ max_code → Listed code places
listed code e h = record {
  all = sym e;
  few = h;
  kinds = omega (arith, in_kinds code);
  levels = omega (arith, in_levels code);
  operands = omega (arith, in_operands code);
}

-- the first 4,096 cells, zeroed, and the others
unfoldable pub zeros : List ℤ
zeros = replicate max_cells (pos 0)

pub zeroed_by : (cells : List ℤ) {part part' : List ℤ} → max_cells ≤ length cells → part ≡ take max_cells cells → part' ≡ replicate (length part) (pos 0) → part' ≡ zeros
unfolding zeros
zeroed_by cells h p e = e ∙ ap (λ (n : ℕ). replicate n (pos 0)) (ap length p ∙ length-take-le max_cells cells h)

-- the public outcome
module _ (code : Code) (input : List ℕ) (budget : ℕ) (out : List ℕ) (cells : List ℤ) where
  -- "After 24 nothing lent has changed"
  pub outcome_small : (r : C.Ended) → length cells < max_cells → (r.number ≡ room_too_small) × (r.out_len ≡ 0) × (r.lines ≡ 0) × (r.steps ≡ 0) → outcome_of r out cells ≡ run_outcome code input budget out cells
  unfolding run_outcome
  outcome_small r h e = rw (lt-leb max_cells (length cells) h, e.0, e.1, e.2, e.3, run_outcome)

  -- "run is given more than 4,096" is 15, with the cells zeroed
  pub outcome_many : (r : C.Ended) {cs : List ℤ} → max_cells ≤ length cells → max_code < length (instrs_in code) → (r.number ≡ too_many_instructions) × (r.out_len ≡ 0) × (r.lines ≡ 0) × (r.steps ≡ 0)
      → cs ≡ zeros ++ drop max_cells cells → outcome_of r out cs ≡ run_outcome code input budget out cells
  unfolding run_outcome run_leaves run_of start zeros
  outcome_many r h k e z =
      let s : budget - budget ≡ 0 = omega arith in
      rw (le-leb max_cells (length cells) h, lt-leb (length (instrs_in code)) max_code k, e.0, e.1, e.2, e.3, z, s, run_outcome, run_of)

  -- a run from zeroed cells
  pub outcome_run : (r : C.Ended) {out' : List ℕ} {cs cs' : List ℤ} → max_cells ≤ length cells → length (instrs_in code) ≤ max_code
      → Leaving (run (instrs_in code) (length out) budget (starting zeros input)) budget out r out' cs' → length cs' ≡ max_cells → cs ≡ cs' ++ drop max_cells cells → outcome_of r out' cs ≡ run_outcome code input budget out cells
  unfolding run_outcome run_leaves run_of start zeros
  outcome_run r h k v s z =
      let y = ap length v.cells in
      let x = sym y ∙ s in
      rw (le-leb max_cells (length cells) h, le-leb (length (instrs_in code)) max_code k, v.number, v.out_length, v.lines, v.steps, v.out, z, v.cells, x, run_outcome, run_of)

-- Laws of steps: what the code answers on each way through an instruction is what the definition's step does there.
use mathlib.Core.Path.{◌≡◌, refl, sym, ap, ◌∙◌}
use mathlib.Core.Bool.{Bool, true, false}
use mathlib.Core.List.{List}
use mathlib.Core.Option.{none, some}
use Prim.Native.Nat.{ℕ, zero, suc, ◌+◌, ◌-◌, ◌≤◌, ◌<◌}
use native.Mathlib.Omega.{arith}
use native.Mathlib.Numerals.{add-one}
use lib.IntN.{ℤ, pos, negsuc, nat_abs, ◌-ℤ◌}
use lib.Signed.{lt_z}
use lib.Dec.{ltb, eqb}
use lib.ListN.{length, set}
use borrow.Author.Tests.{ltb-true, lt-ltb, le-ltb, le-leb, lt-leb, ne_eqb}
use Rattle.std.specs.Prelude.{Result, Ok, Err}
use Rattle.numbers.specs.declared.refusal.Refusal.{Refusal}
use Rattle.numbers.specs.declared.refusal.Refusal.TheVariants.{CellOutside, PlaceOutside}
use Rattle.numbers.specs.Refusals.{number_of}
use Rattle.numbers.specs.Panel.{place_outside}
use Rattle.numbers.specs.Limits.{max_code, max_cells}
use Rattle.numbers.specs.Arithmetic.{Val, val, fault, eq_z}
use Rattle.pcode.specs.Operators.{idle, new_line, read}
use Rattle.pcode.specs.Code.{Instr, LOD, STO, STA, INT, RED}
use Rattle.machine.specs.declared.frames.Frame.{Frame}
use Rattle.machine.specs.declared.steps.Does.{Does}
use Rattle.machine.specs.declared.steps.Does.TheVariants.{Next, Halt, Write, NewLine, Read}
use Rattle.machine.specs.Machine.{Machine, Step, next, halt, stop, cell_at, held, from, up, with, jumped as jumpedTo, pushed, raised, reading_to, unary, binary, goto, writing, returning, operate, calling, testing, perform}
use Rattle.machine.specs.Frames.{links_end, Sound, at, onward, jumped, framed, from_by, there_by}
use Rattle.machine.specs.Steps.{step_of, Leaves, Did, inside, arrived, went, linked}
use Rattle.machine.proofs.CellLaws.{clash, cell_in, cell_out, there_by_lem, below_none, below_some, under_in, under_high, under_out}

module _ (code : List Instr) (room : ℕ) (f : Frame) (cs : List ℤ) where
  -- a refusal
  refuses : (does : Machine → Step) {e : Refusal} → ((m : Machine) → does (at f cs m) ≡ stop (number_of e)) → Did code room does f cs (Err e) cs
  refuses does h = record { tells = h; leaves = refl }

  -- LIT, and every push
  pub push_out : (z : ℤ) → max_cells ≤ f.top → Did code room (pushed z) f cs (Err CellOutside) cs
  push_out z h = refuses (pushed z) (λ m. rw (cell_out h))

  pub push_on : (z : ℤ) → f.top < max_cells → Did code room (pushed z) f cs (Ok (Next (onward f (f.top + 1)))) (set cs f.top z)
  unfolding with
  push_on z h = record { tells = λ m. rw (cell_in h, add-one f.top); leaves = omega arith }

  -- LOD
  pub lod_out : (l : ℕ) (a : ℤ) → there_by cs l a f.base ≡ none → Did code room (perform code room LOD l a) f cs (Err CellOutside) cs
  unfolding perform
  lod_out l a e = refuses (perform code room LOD l a) (λ m. rw (there_by_lem (at f cs m) l a, e))

  pub lod_on : (l : ℕ) (a : ℤ) {i : ℕ} {r : Result Does Refusal} {cs' : List ℤ} → there_by cs l a f.base ≡ some i → Did code room (pushed (held cs i)) f cs r cs' → Did code room (perform code room LOD l a) f cs r cs'
  unfolding perform
  lod_on l a e d = record { tells = λ m. rw (there_by_lem (at f cs m) l a, e) (d.tells m); leaves = d.leaves }

  -- STO
  pub sto_none : (l : ℕ) (a : ℤ) → f.top ≡ 0 → Did code room (perform code room STO l a) f cs (Err CellOutside) cs
  unfolding perform
  sto_none l a h = refuses (perform code room STO l a) (λ m. rw (below_none h))

  pub sto_out : (l : ℕ) (a : ℤ) → 0 < f.top → there_by cs l a f.base ≡ none → Did code room (perform code room STO l a) f cs (Err CellOutside) cs
  unfolding perform
  sto_out l a p e = refuses (perform code room STO l a) (λ m. rw (below_some f.top p, there_by_lem (at f cs m) l a, e))

  pub sto_on : (l : ℕ) (a : ℤ) {i : ℕ} → Sound f → 0 < f.top → there_by cs l a f.base ≡ some i → Did code room (perform code room STO l a) f cs (Ok (Next (onward f (f.top - 1)))) (set cs i (held cs (f.top - 1)))
  unfolding perform with
  sto_on l a s p e = record { tells = λ m. rw (below_some f.top p, there_by_lem (at f cs m) l a, e); leaves = omega arith }

  -- STA
  sta_stop : (l : ℕ) (a : ℤ) → cell_at (pos f.top -ℤ pos l) ≡ none → Did code room (perform code room STA l a) f cs (Err CellOutside) cs
  unfolding perform
  sta_stop l (pos a) e = refuses (perform code room STA l (pos a)) (λ m. rw e)
  sta_stop l (negsuc a) e = refuses (perform code room STA l (negsuc a)) (λ m. refl)

  pub sta_low : (l : ℕ) (a : ℤ) → f.top < l → Did code room (perform code room STA l a) f cs (Err CellOutside) cs
  sta_low l a h = sta_stop l a (under_out f.top l h)

  pub sta_high : (l : ℕ) (a : ℤ) → l ≤ f.top → max_cells ≤ f.top - l → Did code room (perform code room STA l a) f cs (Err CellOutside) cs
  sta_high l a h k = sta_stop l a (under_high f.top l h k)

  pub sta_out : (l : ℕ) (a : ℤ) → l ≤ f.top → f.top - l < max_cells → from_by (pos f.top) a ≡ none → Did code room (perform code room STA l a) f cs (Err CellOutside) cs
  unfolding perform from from_by
  sta_out l (pos a) h k e = refuses (perform code room STA l (pos a)) (λ m. rw (under_in f.top l h k, e))
  sta_out l (negsuc a) h k e = refuses (perform code room STA l (negsuc a)) (λ m. refl)

  pub sta_on : (l : ℕ) (a : ℤ) {i : ℕ} → Sound f → l ≤ f.top → f.top - l < max_cells → from_by (pos f.top) a ≡ some i → Did code room (perform code room STA l a) f cs (Ok (Next (onward f f.top))) (set cs i (held cs (f.top - l)))
  unfolding perform with from from_by
  sta_on l (pos a) s h k e = record { tells = λ m. rw (under_in f.top l h k, e); leaves = s }
  sta_on l (negsuc a) {i} s h k e = let w : ◌≡◌ {A = ℕ} 0 1 = cc in absurd (omega arith)

  -- INT
  pub int_low : (a : ℤ) → lt_z a (pos 0) ≡ true → Did code room (perform code room INT 0 a) f cs (Err CellOutside) cs
  unfolding perform
  int_low (pos a) h = absurd (omega (arith, ltb-true a 0 h))
  int_low (negsuc a) h = refuses (perform code room INT 0 (negsuc a)) (λ m. refl)

  pub int_high : (a : ℤ) → lt_z a (pos 0) ≡ false → max_cells < f.top + nat_abs a → Did code room (perform code room INT 0 a) f cs (Err CellOutside) cs
  unfolding perform
  int_high (pos a) h k = refuses (perform code room INT 0 (pos a)) (λ m. rw (lt-leb (f.top + a) max_cells k, raised))
  int_high (negsuc a) h k = absurd (clash h)

  pub int_on : (a : ℤ) → lt_z a (pos 0) ≡ false → f.top + nat_abs a ≤ max_cells → Did code room (perform code room INT 0 a) f cs (Ok (Next (onward f (f.top + nat_abs a)))) cs
  unfolding perform with
  int_on (pos a) h k = record { tells = λ m. rw (le-leb (f.top + a) max_cells k, raised); leaves = k }
  int_on (negsuc a) h k = absurd (clash h)

  -- an operator's value, or its fault
  pub unary_none : (g : ℤ → Val) → f.top ≡ 0 → Did code room (unary g) f cs (Err CellOutside) cs
  unary_none g h = refuses (unary g) (λ m. rw (below_none h))

  pub unary_stop : (g : ℤ → Val) {e : Refusal} → 0 < f.top → g (held cs (f.top - 1)) ≡ fault (number_of e) → Did code room (unary g) f cs (Err e) cs
  unary_stop g p k = refuses (unary g) (λ m. rw (below_some f.top p, k))

  pub unary_on : (g : ℤ → Val) {z : ℤ} → Sound f → 0 < f.top → g (held cs (f.top - 1)) ≡ val z → Did code room (unary g) f cs (Ok (Next (onward f f.top))) (set cs (f.top - 1) z)
  unfolding with
  unary_on g s p k = record { tells = λ m. rw (below_some f.top p, k); leaves = s }

  pub binary_none : (g : ℤ → ℤ → Val) → f.top < 2 → Did code room (binary g) f cs (Err CellOutside) cs
  binary_none g h = by f.top refl
    where
      by : (t : ℕ) → f.top ≡ t → Did code room (binary g) f cs (Err CellOutside) cs
      by zero e = refuses (binary g) (λ m. rw (below_none e))
      by (suc t) e =
          let p : 0 < f.top = omega arith in
          let q : f.top - 1 ≡ 0 = omega arith in
          refuses (binary g) (λ m. rw (below_some f.top p, below_none q))

  module _ (g : ℤ → ℤ → Val) (p : 2 ≤ f.top) where
    two_below : f.top - 1 - 1 ≡ f.top - 2
    two_below = omega arith

    pub binary_stop : {e : Refusal} → g (held cs (f.top - 2)) (held cs (f.top - 1)) ≡ fault (number_of e) → Did code room (binary g) f cs (Err e) cs
    binary_stop k =
        let q : 0 < f.top = omega arith in
        let h : 0 < f.top - 1 = omega arith in
        refuses (binary g) (λ m. rw (below_some f.top q, below_some (f.top - 1) h, two_below, k))

    pub binary_on : {z : ℤ} → Sound f → g (held cs (f.top - 2)) (held cs (f.top - 1)) ≡ val z → Did code room (binary g) f cs (Ok (Next (onward f (f.top - 1)))) (set cs (f.top - 2) z)
    unfolding with
    binary_on s k =
        let q : 0 < f.top = omega arith in
        let h : 0 < f.top - 1 = omega arith in
        record { tells = λ m. rw (below_some f.top q, below_some (f.top - 1) h, two_below, k); leaves = omega arith }

  -- what is to be written or read
  pub write_none : f.top ≡ 0 → Did code room (writing code room) f cs (Err CellOutside) cs
  write_none h = refuses (writing code room) (λ m. rw (below_none h))

  pub write_on : f.pc < max_code → 0 < f.top → Did code room (writing code room) f cs (Ok (Write (held cs (f.top - 1)))) cs
  write_on o p = record { tells = λ m. rw (below_some f.top p); leaves = (refl, o) }

  pub read_out : max_cells ≤ f.top → Did code room (operate code room read) f cs (Err CellOutside) cs
  unfolding operate
  read_out h = refuses (operate code room read) (λ m. rw (cell_out h))

  pub read_on : f.pc < max_code → f.top < max_cells → Did code room (operate code room read) f cs (Ok (Read f.top)) cs
  unfolding operate
  read_on o h = record { tells = λ m. rw (cell_in h); leaves = (refl, o, h, h) }

  -- OPR 7 and OPR 15
  pub idle_on : Sound f → Did code room (operate code room idle) f cs (Ok (Next (onward f f.top))) cs
  unfolding operate with
  idle_on s = record { tells = λ m. refl; leaves = s }

  pub line_on : f.pc < max_code → Did code room (operate code room new_line) f cs (Ok NewLine) cs
  unfolding operate
  line_on o = record { tells = λ m. refl; leaves = (refl, o) }

  pub red_out : (l : ℕ) (a : ℤ) → there_by cs l a f.base ≡ none → Did code room (perform code room RED l a) f cs (Err CellOutside) cs
  unfolding perform
  red_out l a e = refuses (perform code room RED l a) (λ m. rw (there_by_lem (at f cs m) l a, e))

  pub red_high : (l : ℕ) (a : ℤ) {i : ℕ} → there_by cs l a f.base ≡ some i → max_cells ≤ f.top → Did code room (perform code room RED l a) f cs (Err CellOutside) cs
  unfolding perform
  red_high l a e k = refuses (perform code room RED l a) (λ m. rw (there_by_lem (at f cs m) l a, e, le-ltb f.top max_cells k, reading_to))

  pub red_on : (l : ℕ) (a : ℤ) {i : ℕ} → f.pc < max_code → there_by cs l a f.base ≡ some i → i < max_cells → f.top < max_cells → Did code room (perform code room RED l a) f cs (Ok (Read i)) cs
  unfolding perform
  red_on l a o e h k = record { tells = λ m. rw (there_by_lem (at f cs m) l a, e, lt-ltb f.top max_cells k, reading_to); leaves = (refl, o, h, k) }

-- whether a target is within the list
pub inside_low : (places : ℕ) (a : ℤ) → lt_z a (pos 0) ≡ true → inside places a ≡ false
unfolding inside
inside_low places (pos a) h = absurd (omega (arith, ltb-true a 0 h))
inside_low places (negsuc a) h = refl

pub inside_past : (places : ℕ) (a : ℤ) → lt_z a (pos 0) ≡ false → places ≤ nat_abs a → inside places a ≡ false
unfolding inside
inside_past places (pos a) h k = le-ltb a places k
inside_past places (negsuc a) h k = refl

pub inside_in : (places : ℕ) (a : ℤ) → lt_z a (pos 0) ≡ false → nat_abs a < places → (inside places a ≡ true) × (a ≡ pos (nat_abs a))
unfolding inside
inside_in places (pos a) h k = (lt-ltb a places k, refl)
inside_in places (negsuc a) h k = absurd (clash h)

pub inside_some : (places : ℕ) (a : ℤ) → inside places a ≡ true → 0 < places
unfolding inside
inside_some places (pos t) h = omega (arith, ltb-true t places h)
inside_some places (negsuc t) h = absurd (clash (sym h))

pub first_in : (places : ℕ) (a : ℤ) → a ≡ pos 0 → 0 < places → inside places a ≡ true
unfolding inside
first_in places a e h = rw e (lt-ltb 0 places h)

-- a jump
pub went_out : (places : ℕ) (a : ℤ) (f : Frame) → inside places a ≡ false → Err PlaceOutside ≡ went places a f
unfolding inside went
went_out places (pos t) f h = rw (h, went)
went_out places (negsuc t) f h = refl

pub arrived_first : (t : ℕ) (f : Frame) → t ≡ 0 → Halt f ≡ arrived t f
arrived_first zero f e = refl
arrived_first (suc t) f e = absurd (omega arith)

pub arrived_on : (t : ℕ) (f : Frame) → (t ≡ 0 → ⊥) → Next (jumped f t) ≡ arrived t f
arrived_on zero f e = absurd (e refl)
arrived_on (suc t) f e = rw (ne_eqb (suc t) 0 e, arrived)

went_at : (places t : ℕ) (f : Frame) → ltb t places ≡ true → Ok (arrived t f) ≡ went places (pos t) f
unfolding went
went_at places t f h = rw (h, went)

pub went_in : (places : ℕ) {a : ℤ} {t : ℕ} (f : Frame) → inside places a ≡ true → a ≡ pos t → Ok (arrived t f) ≡ went places a f
unfolding inside
went_in places {t = t} f h e = rw e (went_at places t f (rw e at h))

pub went_tells : (code : List Instr) (room : ℕ) {places : ℕ} (a : ℤ) (f g : Frame) (cs : List ℤ) (m : Machine) → length code ≡ places → goto code room a (at g cs m) ≡ step_of code room f cs (went places a g) m
unfolding goto went
went_tells code room (negsuc t) f g cs m e = refl
went_tells code room {places} (pos t) f g cs m e = rw (e, goto) (by (ltb t places) (eqb t 0))
  where
    by : (x y : Bool) →
        (elim x as (λ w. Step) [ false ↦ stop place_outside | true ↦ elim y as (λ w. Step) [ true ↦ halt (at g cs m) | false ↦ next (jumpedTo t (at g cs m)) ] ])
        ≡ step_of code room f cs (elim x as (λ w. Result Does Refusal) [ false ↦ Err PlaceOutside | true ↦ Ok (elim y as (λ w. Does) [ true ↦ Halt g | false ↦ Next (jumped g t) ]) ]) m
    by true true = refl
    by true false = refl
    by false y = refl

pub went_leaves : (places : ℕ) (a : ℤ) (f g : Frame) {cs cs' : List ℤ} → Sound g → (inside places a ≡ false → cs' ≡ cs) → Leaves (went places a g) f cs cs'
unfolding inside went
went_leaves places (negsuc t) f g s h = h refl
went_leaves places (pos t) f g {cs} {cs'} s h = by (ltb t places) (eqb t 0) h
  where
    by : (x y : Bool) → (x ≡ false → cs' ≡ cs) → Leaves (elim x as (λ w. Result Does Refusal) [ false ↦ Err PlaceOutside | true ↦ Ok (elim y as (λ w. Does) [ true ↦ Halt g | false ↦ Next (jumped g t) ]) ]) f cs cs'
    by true true k = tt
    by true false k = s
    by false y k = k refl

module _ (code : List Instr) (room : ℕ) {places : ℕ} (size : length code ≡ places) (f : Frame) (cs : List ℤ) where
  pub jump_did : (a : ℤ) {r : Result Does Refusal} → Sound f → r ≡ went places a f → Did code room (goto code room a) f cs r cs
  jump_did a s e = record { tells = λ m. rw e (went_tells code room a f f cs m size); leaves = rw e (went_leaves places a f f s (λ h. refl)) }

  -- JPC
  pub jpc_none : (a : ℤ) → f.top ≡ 0 → Did code room (testing code room a) f cs (Err CellOutside) cs
  jpc_none a h = record { tells = λ m. rw (below_none h); leaves = refl }

  pub jpc_jump : (a : ℤ) {r : Result Does Refusal} → Sound f → 0 < f.top → held cs (f.top - 1) ≡ pos 0 → r ≡ went places a f → Did code room (testing code room a) f cs r cs
  unfolding eq_z
  jpc_jump a s p z e = record { tells = λ m. rw (below_some f.top p, z, testing) ((jump_did a s e).tells m); leaves = (jump_did a s e).leaves }

  pub jpc_on : (a : ℤ) → Sound f → 0 < f.top → eq_z (held cs (f.top - 1)) (pos 0) ≡ false → Did code room (testing code room a) f cs (Ok (Next (onward f f.top))) cs
  unfolding with
  jpc_on a s p z = record { tells = λ m. rw (below_some f.top p) (stays m (eq_z (held cs (f.top - 1)) (pos 0)) z); leaves = s }
    where
      stays : (m : Machine) (x : Bool) → x ≡ false → (elim x as (λ w. Step) [ true ↦ goto code room a (at f cs m) | false ↦ with (at f cs m) f.top cs ]) ≡ next (at (onward f f.top) cs m)
      stays m true h = absurd (clash h)
      stays m false h = refl

  -- the return
  pub back_out : from_by f.base (pos 2) ≡ none → Did code room (returning code room) f cs (Err CellOutside) cs
  unfolding from_by
  back_out e = record { tells = λ m. rw e; leaves = refl }

  pub back_low : {i : ℕ} → from_by f.base (pos 2) ≡ some i → from_by f.base (pos 0) ≡ none → Did code room (returning code room) f cs (Err CellOutside) cs
  unfolding from_by
  back_low e k = record { tells = λ m. rw (e, k); leaves = refl }

  pub back_on : {i t : ℕ} {r : Result Does Refusal} → from_by f.base (pos 2) ≡ some i → from_by f.base (pos 0) ≡ some t → t < max_cells → r ≡ went places (held cs i) (framed f (held cs t) t) → Did code room (returning code room) f cs r cs
  unfolding from_by
  back_on {i} {t} e k h w =
      let g = framed f (held cs t) t in
      let s : t ≤ max_cells = omega arith in
      record {
        tells = λ m. rw (e, k, w) (went_tells code room (held cs i) f g cs m size);
        leaves = rw w (went_leaves places (held cs i) f g s (λ h. refl));
      }

  -- CAL
  pub cal_high : (l : ℕ) (a : ℤ) → links_end ≤ f.top → Did code room (calling code room l a) f cs (Err CellOutside) cs
  cal_high l a h = let k : max_cells ≤ f.top + 2 = omega arith in record { tells = λ m. rw (cell_out k); leaves = refl }

  module _ (l : ℕ) (a : ℤ) (low : f.top < links_end) where
    cal_cell : cell_at (pos (f.top + 2)) ≡ some (f.top + 2)
    cal_cell = cell_in (omega arith)

    pub cal_lost : up (set cs f.top f.base) l f.base ≡ none → Did code room (calling code room l a) f cs (Err CellOutside) cs
    cal_lost e = record { tells = λ m. rw (cal_cell, e); leaves = refl }

    pub cal_out : {s : ℤ} → up (set cs f.top f.base) l f.base ≡ some s → inside places a ≡ false → Did code room (calling code room l a) f cs (Err PlaceOutside) cs
    cal_out {s} e h =
        let g = framed f (pos f.top) f.top in
        let links = linked cs f.top f.base s (pos (suc f.pc)) in
        record { tells = λ m. rw (cal_cell, e) (went_tells code room a f g links m size ∙ ap (λ (r : Result Does Refusal). step_of code room f links r m) (sym (went_out places a g h))); leaves = refl }

    pub cal_on : {s : ℤ} {r : Result Does Refusal} → Sound f → up (set cs f.top f.base) l f.base ≡ some s → inside places a ≡ true → r ≡ went places a (framed f (pos f.top) f.top)
        → Did code room (calling code room l a) f cs r (linked cs f.top f.base s (pos (suc f.pc)))
    cal_on {s} o e h k =
        let g = framed f (pos f.top) f.top in
        let links = linked cs f.top f.base s (pos (suc f.pc)) in
        record {
          tells = λ m. rw (cal_cell, e, k) (went_tells code room a f g links m size);
          leaves = rw k (went_leaves places a f g o (λ x. absurd (clash (sym h ∙ x))));
        }

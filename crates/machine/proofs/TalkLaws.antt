-- Laws of exchanges: bytes behind those already written, and a line taken.
use mathlib.Core.Path.{◌≡◌, refl, sym, ◌∙◌}
use mathlib.Core.Bool.{Bool, true, false}
use mathlib.Core.List.{List, ◌++◌}
use mathlib.Core.Option.{none, some}
use Prim.Native.Nat.{ℕ, suc, ◌+◌, ◌≤◌, ◌<◌}
use native.Mathlib.Omega.{arith}
use native.Mathlib.Numerals.{add-one}
use lib.IntN.{ℤ}
use lib.Dec.{leb}
use lib.ListN.{length, take, drop, set}
use lib.Seq.{length-take-le}
use borrow.Author.Tests.{leb-true}
use Rattle.numbers.specs.Panel.{output_full}
use Rattle.numbers.specs.Limits.{max_cells}
use Rattle.numbers.specs.Screen.{written, newline, prompt, fits_in}
use Rattle.numbers.specs.Line.{entry}
use Rattle.numbers.specs.Answers.{Took, Wrote, Kept}
use Rattle.numbers.proofs.Screens.{take_spliced, drop_spliced, wrote_size}
use Rattle.pcode.specs.Code.{Instr}
use Rattle.machine.specs.declared.frames.Frame.{Frame}
use Rattle.machine.specs.declared.talk.Talk.TheVariants.{Write, NewLine, Read}
use Rattle.machine.specs.declared.talk.Tape.{Tape}
use Rattle.std.specs.Prelude.{Ok, Err}
use Rattle.numbers.specs.declared.refusal.Refusal.TheVariants.{BadEntry, OutputFull}
use Rattle.machine.specs.Machine.{Step, next, stop, put, reading, took_line}
use Rattle.machine.specs.Frames.{Sound, at, onward}
use Rattle.machine.specs.Talks.{taped, Within, wrote_to, took_to, Onward, Spoke}
use Rattle.machine.proofs.CellLaws.{clash}

-- a test that was passed or failed
pick_true : (x : Bool) (a b : Step) → x ≡ true → (elim x as (λ w. Step) [ true ↦ a | false ↦ b ]) ≡ a
pick_true true a b e = refl
pick_true false a b e = absurd (clash (sym e))

pick_false : (x : Bool) (a b : Step) → x ≡ false → (elim x as (λ w. Step) [ true ↦ a | false ↦ b ]) ≡ b
pick_false true a b e = absurd (clash e)
pick_false false a b e = refl

module _ (input : List ℕ) (f : Frame) (t : Tape) (cs : List ℤ) (out : List ℕ) (sound : Sound f) (within : Within t out) where
  -- whether bytes fit
  fits_as : (bs : List ℕ) {x : Bool} → leb (t.out + length bs) (length out) ≡ x → fits_in (length out) (take t.out out) bs ≡ x
  fits_as bs e = rw (length-take-le t.out out within) e

  -- bytes that were put
  module _ (bs : List ℕ) {n : ℕ} {out' : List ℕ} (w : Wrote bs t.out out out' n) where
    longer : take n out' ≡ take t.out out ++ bs
    longer = rw (w.next, w.whole) (take_spliced out t.out bs within)

    put_on : (code : List Instr) (top : ℕ) → put code (length out) bs top (at f cs (taped t out input)) ≡ next (at (onward f top) cs (taped (wrote_to t n) out' input))
    unfolding put
    put_on code top = rw (fits_as bs w.fits, longer, put)

    onward_on : (top : ℕ) (u : Tape) → top ≤ max_cells → u.out ≡ n → u.lines ≤ suc t.lines → Onward (onward f top) t u out out'
    onward_on top u s e k =
        let g : t.out + length bs ≤ length out = leb-true (t.out + length bs) (length out) w.fits in
        let z : length out' ≡ length out = wrote_size w in
        let x : u.out ≡ t.out + length bs = e ∙ w.next in
        record { top = s; within = omega arith; size = z; beyond = rw (x, w.whole) (drop_spliced out t.out bs within); more = omega arith; lines = k }

  -- bytes that did not fit
  put_full : (bs : List ℕ) {out' : List ℕ} → Kept bs t.out out out' → (code : List Instr) (top : ℕ) → put code (length out) bs top (at f cs (taped t out input)) ≡ stop output_full
  unfolding put
  put_full bs k code top = rw (fits_as bs k.full, put)

  pub write_on : (z : ℤ) {n : ℕ} {out' : List ℕ} → Wrote (written z) t.out out out' n → Spoke input (Write z) f t cs out (Ok (onward f f.top, wrote_to t n)) cs out'
  write_on z {n} w = record { tells = λ code. put_on (written z) w code f.top; leaves = onward_on (written z) w f.top (wrote_to t n) sound refl (omega arith) }

  pub write_full : (z : ℤ) {out' : List ℕ} → Kept (written z) t.out out out' → Spoke input (Write z) f t cs out (Err OutputFull) cs out'
  write_full z k = record { tells = λ code. put_full (written z) k code f.top; leaves = (refl, k.same) }

  pub line_on : {n : ℕ} {out' : List ℕ} → Wrote newline t.out out out' n → Spoke input NewLine f t cs out (Ok (onward f f.top, wrote_to t n)) cs out'
  line_on {n} w = record { tells = λ code. put_on newline w code f.top; leaves = onward_on newline w f.top (wrote_to t n) sound refl (omega arith) }

  pub line_full : {out' : List ℕ} → Kept newline t.out out out' → Spoke input NewLine f t cs out (Err OutputFull) cs out'
  line_full k = record { tells = λ code. put_full newline k code f.top; leaves = (refl, k.same) }

  -- a line read into the cell i
  module _ (i : ℕ) where
    pub read_bad : entry (drop t.at input) ≡ none → Spoke input (Read i) f t cs out (Err BadEntry) cs out
    unfolding reading
    read_bad e = record { tells = λ code. rw (e, reading); leaves = (refl, refl) }

    some_line : (code : List Instr) {z : ℤ} → entry (drop t.at input) ≡ some z
        → reading code (length out) (at f cs (taped t out input)) i (suc f.top) ≡ (elim (fits_in (length out) (take t.out out) prompt) as (λ w. Step) [ true ↦ next (took_line z i (suc f.top) (at f cs (taped t out input))) | false ↦ stop output_full ])
    unfolding reading
    some_line code e = rw (e, reading)

    pub read_full : {z : ℤ} {out' : List ℕ} → entry (drop t.at input) ≡ some z → Kept prompt t.out out out' → Spoke input (Read i) f t cs out (Err OutputFull) cs out'
    read_full {z} e k = record { tells = λ code. some_line code e ∙ pick_false (fits_in (length out) (take t.out out) prompt) (next (took_line z i (suc f.top) (at f cs (taped t out input)))) (stop output_full) (fits_as prompt k.full); leaves = (refl, k.same) }

    pub read_on : {z : ℤ} {a n : ℕ} {out' : List ℕ} → f.top < max_cells → Took input t.at z a → Wrote prompt t.out out out' n → Spoke input (Read i) f t cs out (Ok (onward f (f.top + 1), took_to t a n)) (set cs i z) out'
    read_on {z} {a} {n} p k w = record {
      tells = λ code. some_line code k.value ∙ pick_true (fits_in (length out) (take t.out out) prompt) (next (took_line z i (suc f.top) (at f cs (taped t out input)))) (stop output_full) (fits_as prompt w.fits) ∙ rw (add-one f.top, longer prompt w, k.rest);
      leaves = onward_on prompt w (f.top + 1) (took_to t a n) (omega arith) refl (omega arith);
    }

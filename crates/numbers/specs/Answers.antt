-- What the answers of this crate's functions mean, case by case.
use Rattle.std.specs.Prelude.{◌≡◌, true, false, List, ◌++◌, ℕ, ◌+◌, ◌≤◌, ℤ, leb, length, take, drop}
use Rattle.std.proofs.Math.Option.{Option, none, some}
use Rattle.std.specs.Prelude.{Option as Maybe, Some, None, Result, Ok, Err}
use Rattle.numbers.specs.declared.refusal.Refusal.{Refusal}
use Rattle.numbers.specs.declared.refusal.Refusal.TheVariants.{BadEntry, OutputFull}
use Rattle.numbers.specs.declared.arithmetic.Arith as A
use Rattle.numbers.specs.declared.arithmetic.Arith.TheVariants.{Add, Sub, Mul, Div}
use Rattle.numbers.specs.declared.arithmetic.Compare as C
use Rattle.numbers.specs.declared.arithmetic.Compare.TheVariants.{Equal, Unequal, Less, AtLeast, Greater, AtMost}
use Rattle.numbers.specs.Refusals.{number_of}
use Rattle.numbers.specs.Bytes.{is_ascii, every}
use Rattle.numbers.specs.Line.{field, value_of, after_line, entry}
use Rattle.numbers.specs.Arithmetic.{Val, val, fault, Arith, add, sub, mul, div, Compare, equal, unequal, less, at_least, greater, at_most}

-- an operator's answer
abbrev pub val_of : Result ℤ Refusal → Val
val_of (Ok z) = val z
val_of (Err e) = fault (number_of e)

-- the operators of the code
abbrev pub arith_of : A.Arith → Arith
arith_of Add = add
arith_of Sub = sub
arith_of Mul = mul
arith_of Div = div

abbrev pub compare_of : C.Compare → Compare
compare_of Equal = equal
compare_of Unequal = unequal
compare_of Less = less
compare_of AtLeast = at_least
compare_of Greater = greater
compare_of AtMost = at_most

-- what may be missing
abbrev pub option_of : {A : Type 0} → Maybe A → Option A
option_of (Some x) = some x
option_of None = none

-- what a line means: `entry` says it of the first line of the input
unfoldable pub line_entry : List ℕ → Option ℤ
line_entry l = elim (every is_ascii l) [ true ↦ value_of (field l) | false ↦ none ]

-- the line at a place of the input was taken: its number, and where the next line starts
pub record Took (s : List ℕ) (at : ℕ) (z : ℤ) (n : ℕ) : Type 0 where
  pub value : entry (drop at s) ≡ some z
  pub rest : drop n s ≡ after_line (drop at s)
  pub later : at ≤ n
  pub within : n ≤ length s

-- taking an entry line at a place of the input
abbrev pub Takes : List ℕ → ℕ → Result (ℤ × ℕ) Refusal → Type 0
Takes s at (Ok (z, n)) = Took s at z n
Takes s at (Err e) = (e ≡ BadEntry) × (entry (drop at s) ≡ none)

-- the output with these bytes at a place
abbrev pub spliced : List ℕ → ℕ → List ℕ → List ℕ
spliced out at bs = take at out ++ (bs ++ drop (at + length bs) out)

-- the bytes fitted and were written, and the next go to n
pub record Wrote (bs : List ℕ) (at : ℕ) (before after : List ℕ) (n : ℕ) : Type 0 where
  pub fits : leb (at + length bs) (length before) ≡ true
  pub next : n ≡ at + length bs
  pub whole : after ≡ spliced before at bs

-- the bytes did not fit, and nothing is changed
pub record Kept (bs : List ℕ) (at : ℕ) (before after : List ℕ) : Type 0 where
  pub full : leb (at + length bs) (length before) ≡ false
  pub same : after ≡ before

-- putting bytes at a place of the output
abbrev pub Puts : List ℕ → ℕ → List ℕ → List ℕ → Result ℕ Refusal → Type 0
Puts bs at before after (Ok n) = Wrote bs at before after n
Puts bs at before after (Err e) = (e ≡ OutputFull) × Kept bs at before after

-- Laws of `span`, for a scan that goes one byte a turn.
use mathlib.Core.Path.{◌≡◌, refl, ◌∙◌}
use Prim.Native.Nat.{ℕ, suc, ◌+◌, ◌≤◌, ◌<◌, max}
use mathlib.Core.List.{List}
use mathlib.Core.Bool.{Bool, true, false}
use native.Mathlib.Numerals.{add-one}
use native.Mathlib.Nat.{max-eq_left, max-eq_right}
use native.Mathlib.Omega.{arith}
use lib.Dec.{leb}
use borrow.Author.Tests.{leb-true, leb-false}
use lib.ListN.{length, get_or, drop, drop_of_length-le, length-drop}
use lib.Seq.{drop-cons}
use Rattle.numbers.specs.Bytes.{span}
use Rattle.lexer.specs.Names.{span_length}

-- where the run from i on ends
abbrev pub stop : (ℕ → Bool) → List ℕ → ℕ → ℕ
stop p s i = i + span p (drop i s)

pub span_more : (p : ℕ → Bool) (s : List ℕ) (i : ℕ) → i < length s → p (get_or s i 0) ≡ true → span p (drop i s) ≡ suc (span p (drop (i + 1) s))
unfolding span
span_more p s i h e = rw (add-one, drop-cons s i 0 h, e, span)

pub span_stop : (p : ℕ → Bool) (s : List ℕ) (i : ℕ) → i < length s → p (get_or s i 0) ≡ false → span p (drop i s) ≡ 0
unfolding span
span_stop p s i h e = rw (drop-cons s i 0 h, e, span)

pub span_past : (p : ℕ → Bool) (s : List ℕ) (i : ℕ) → length s ≤ i → span p (drop i s) ≡ 0
unfolding span
span_past p s i h = rw (drop_of_length-le s h)

-- a scan that has come from `at` to i, and goes on, stops at a byte, or at the end
module _ (p : ℕ → Bool) (s : List ℕ) (at i : ℕ) (inv : stop p s i ≡ stop p s at) where
  pub run_more : i < length s → p (get_or s i 0) ≡ true → stop p s (i + 1) ≡ stop p s at
  run_more h e = omega (arith, span_more p s i h e)

  pub run_stop : i < length s → p (get_or s i 0) ≡ false → i ≡ stop p s at
  run_stop h e = omega (arith, span_stop p s i h e)

  pub run_past : length s ≤ i → i ≡ stop p s at
  run_past h = omega (arith, span_past p s i h)

  -- at the end of a loop over the places from `at` on, of which there may be none
  pub run_end : at ≤ i → (at ≤ length s → i ≤ length s) → length s ≤ i → max at (length s) ≡ stop p s at
  run_end g f h = by (leb at (length s)) refl
    where
      by : (x : Bool) → leb at (length s) ≡ x → max at (length s) ≡ stop p s at
      by true e =
          let k : at ≤ length s = leb-true _ _ e in
          let j : i ≤ length s = f k in
          max-eq_right k ∙ omega (arith, span_past p s i h)
      by false e =
          let k : length s < at = leb-false _ _ e in
          max-eq_left (omega arith) ∙ omega (arith, span_past p s at (omega arith))

-- a run ends within the text
pub stop_length : (p : ℕ → Bool) (s : List ℕ) (i : ℕ) → i ≤ length s → stop p s i ≤ length s
stop_length p s i h = omega (arith, span_length p (drop i s), length-drop i s)

-- Laws of lines: the line at a place of the input, and where the next one starts.
use mathlib.Core.Path.{◌≡◌, refl, sym, ap, ◌∙◌}
use mathlib.Core.List.{List}
use mathlib.Core.Option.{none, some}
use Prim.Native.Nat.{ℕ, suc, ◌+◌, ◌≤◌, ◌<◌}
use native.Mathlib.Omega.{arith}
use lib.IntN.{ℤ}
use lib.ListN.{length, drop, length-drop, drop_of_length-le}
use lib.Seq.{length-take-le, drop-drop}
use Rattle.std.specs.Prelude.{Option as Maybe, None, Err}
use Rattle.std.specs.Option.{ok_or}
use Rattle.numbers.specs.declared.refusal.Refusal.{Refusal}
use Rattle.numbers.specs.Bytes.{span}
use Rattle.numbers.specs.Line.{not_newline, line, after_line, field, value_of, entry}
use Rattle.numbers.specs.Answers.{line_entry, Took}
use Rattle.numbers.proofs.Scans.{span_le}

-- the refusal that stands for a value that is not there
pub refused_as : {A : Type 0} (r : Maybe A) (e w : Refusal) → r ≡ None → Err e ≡ ok_or r w → e ≡ w
refused_as r e w n h = cc (rw n at h)

-- an entry is what its line means
entry_line : (s : List ℕ) → entry s ≡ line_entry (line s)
unfolding entry line_entry
entry_line s = refl

-- there is no line past the end
pub entry_missing : (s : List ℕ) (at : ℕ) → length s ≤ at → entry (drop at s) ≡ none
unfolding entry line field value_of span
entry_missing s at h = rw (drop_of_length-le s h)

pub entry_bad : (s l : List ℕ) (at : ℕ) → l ≡ line (drop at s) → line_entry l ≡ none → entry (drop at s) ≡ none
entry_bad s l at e h = entry_line (drop at s) ∙ ap line_entry (sym e) ∙ h

pub line_length_is : (s : List ℕ) → length (line s) ≡ span not_newline s
unfolding line
line_length_is s = length-take-le (span not_newline s) s (span_le not_newline s)

module _ (s l : List ℕ) (at : ℕ) (h : at < length s) (e : l ≡ line (drop at s)) where
  passed : length l ≡ span not_newline (drop at s)
  passed = ap length e ∙ line_length_is (drop at s)

  pub line_within : at + length l ≤ length s
  line_within = omega (arith, passed, span_le not_newline (drop at s), length-drop at s)

  -- a line that another may follow
  pub took_line_lem : (z : ℤ) → line_entry l ≡ some z → at + length l < length s → Took s at z (at + length l + 1)
  unfolding after_line
  took_line_lem z v g =
      let n : at + length l + 1 ≡ at + suc (span not_newline (drop at s)) = omega (arith, passed) in
      record {
        value = entry_line (drop at s) ∙ ap line_entry (sym e) ∙ v;
        rest = ap (λ (k : ℕ). drop k s) n ∙ sym (drop-drop (suc (span not_newline (drop at s))) at s);
        later = omega arith;
        within = omega arith;
      }

  -- the last line
  pub took_last : (z : ℤ) → line_entry l ≡ some z → length s ≤ at + length l → Took s at z (at + length l)
  unfolding after_line
  took_last z v g =
      let n : length (drop at s) ≤ suc (span not_newline (drop at s)) = omega (arith, passed, length-drop at s) in
      record {
        value = entry_line (drop at s) ∙ ap line_entry (sym e) ∙ v;
        rest = drop_of_length-le s g ∙ sym (drop_of_length-le (drop at s) n);
        later = omega arith;
        within = omega (arith, line_within);
      }

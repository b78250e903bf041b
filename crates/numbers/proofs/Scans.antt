-- Laws of loops that go along a list: how many elements pass a test, and whether all do.
use mathlib.Core.Path.{◌≡◌, refl, sym, ap, ◌∙◌}
use mathlib.Core.Bool.{Bool, true, false}
use mathlib.Core.List.{List, [], ◌∷◌}
use Prim.Native.Nat.{ℕ, suc, ◌+◌, ◌-◌, ◌≤◌, ◌<◌}
use native.Mathlib.Omega.{arith}
use native.Mathlib.Numerals.{add-one}
use lib.ListN.{length, take, drop, get_or, length-drop, drop_of_length-le}
use lib.Seq.{drop-cons, take_all}
use lib.Dec.{ltb}
use borrow.Author.Tests.{ltb-false}
use Rattle.std.specs.Prelude.{Option, Some, None, cond, not, ◌&&◌, unwrap_or}
use Rattle.std.specs.List.{position_or_len, list_all}
use Rattle.std.proofs.lemmas.List.Recursion.{is_position_or_len}
use Rattle.numbers.specs.Bytes.{span, every}

module _ (p : ℕ → Bool) (s : List ℕ) (i : ℕ) where
  pub every_end : length s ≤ i → every p (drop i s) ≡ true
  every_end h = rw (drop_of_length-le s h)

  pub every_stop : i < length s → p (get_or s i 0) ≡ false → every p (drop i s) ≡ false
  every_stop h e = rw (drop-cons s i 0 h) (rw (e, every))

  pub every_more : i < length s → p (get_or s i 0) ≡ true → every p (drop i s) ≡ every p (drop (i + 1) s)
  every_more h e = rw (drop-cons s i 0 h, add-one i) (rw (e, every))

-- all of them pass
pub every_all : (p : ℕ → Bool) (s : List ℕ) → list_all p s ≡ every p s
every_all p [] = refl
every_all p (x ∷ s) = by (p x) (every_all p s)
  where
    by : (t : Bool) → list_all p s ≡ every p s → (t && list_all p s) ≡ elim t [ true ↦ every p s | false ↦ false ]
    by true h = h
    by false h = refl

-- what passes is no more than there is
pub span_le : (p : ℕ → Bool) (l : List ℕ) → span p l ≤ length l
unfolding span
span_le p [] = omega arith
span_le p (x ∷ l) = by (p x) refl (span_le p l)
  where
    by : (t : Bool) → p x ≡ t → span p l ≤ length l → span p (x ∷ l) ≤ suc (length l)
    by true e h = rw (e, span) (omega arith)
    by false e h = rw (e, span) (omega arith)

-- the first that fails a test, or the end where none does, is as far as they pass it
pub until : (p fails : ℕ → Bool) → ((b : ℕ) → p b ≡ not (fails b)) → (s : List ℕ) (r : Option ℕ)
    → r ≡ cond (ltb (position_or_len fails s) (length s)) (Some (position_or_len fails s)) None → unwrap_or r (length s) ≡ span p s
unfolding span
until p fails opposite s r e = rw (e, ← same s) (by (ltb (span p s) (length s)) refl)
  where
    same : (s : List ℕ) → span p s ≡ position_or_len fails s
    same = is_position_or_len (span p) fails refl (λ x xs. step x xs (fails x) refl)
      where
        one_more : (n : ℕ) → 1 + n ≡ suc n
        one_more n = omega arith

        step : (x : ℕ) (xs : List ℕ) (t : Bool) → fails x ≡ t → span p (x ∷ xs) ≡ cond (fails x) 0 (1 + span p xs)
        step x xs true h = let e : p x ≡ false = opposite x ∙ ap not h in rw (h, e, span)
        step x xs false h = let e : p x ≡ true = opposite x ∙ ap not h in rw (h, e, span) (sym (one_more (span p xs)))

    by : (t : Bool) → ltb (span p s) (length s) ≡ t → unwrap_or (cond t (Some (span p s)) None) (length s) ≡ span p s
    by true h = refl
    by false h = omega (arith, ltb-false (span p s) (length s) h, span_le p s)

-- a part up to the end is the rest
pub rest_of : (k : ℕ) (s : List ℕ) → take (length s - k) (drop k s) ≡ drop k s
rest_of k s = take_all (length s - k) (drop k s) (simp length-drop (omega arith))

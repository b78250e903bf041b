-- Laws of a listing: one line more, one that does not fit, and the end.
use mathlib.Core.Path.{◌≡◌, refl, sym, ap, ◌∙◌}
use mathlib.Core.Bool.{true, false}
use mathlib.Core.List.{List, [], ◌∷◌, ◌++◌}
use Prim.Native.Nat.{ℕ, suc, ◌+◌, ◌≤◌, ◌<◌}
use native.Mathlib.Omega.{arith}
use native.Mathlib.Numerals.{add-one}
use borrow.Author.Tests.{le-leb, lt-leb, leb-true}
use lib.ListN.{length, take, drop, get_or, take-append-drop, drop_of_length-le}
use lib.Seq.{drop-cons, drop-drop, length-take-le}
use Rattle.numbers.specs.Panel.{done, too_many_instructions, output_full}
use Rattle.numbers.specs.Limits.{max_code}
use Rattle.numbers.specs.Screen.{fits_in}
use Rattle.numbers.specs.Lent.{onto}
use Rattle.numbers.specs.Answers.{Wrote, Kept}
use Rattle.numbers.proofs.Screens.{take_spliced, drop_spliced, wrote_size}
use Rattle.pcode.specs.Code.{Instr, nil}
use Rattle.listing.specs.Listing.{line_of}
use Rattle.listing.specs.Outcome.{ends, lines_into, listed, list_leaves}

module _ (code : List Instr) (out₀ : List ℕ) where
  -- so many lines are written, and end at a place of the output
  pub record Stands (i at : ℕ) (out : List ℕ) : Type 0 where
    pub size : length out ≡ length out₀
    pub within : at ≤ length out
    pub beyond : drop at out ≡ drop at out₀
    pub goes : lines_into (length out₀) 0 code [] ≡ lines_into (length out₀) i (drop i code) (take at out)

  -- none yet
  pub stands_none : Stands 0 0 out₀
  stands_none = record { size = refl; within = omega arith; beyond = refl; goes = refl }

  module _ {i at : ℕ} {out : List ℕ} (s : Stands i at out) where
    -- the text so far has as many bytes
    so_far : length (take at out) ≡ at
    so_far = length-take-le at out s.within

    next_line : i < length code → lines_into (length out₀) 0 code [] ≡ lines_into (length out₀) i (get_or code i nil ∷ drop (suc i) code) (take at out)
    next_line h = s.goes ∙ ap (λ (l : List Instr). lines_into (length out₀) i l (take at out)) (drop-cons code i nil h)

    -- one more
    pub stands_more : {n : ℕ} {out' : List ℕ} → i < length code → Wrote (line_of i (get_or code i nil)) at out out' n → Stands (i + 1) n out'
    unfolding lines_into
    stands_more {n} {out'} h w =
        let line = line_of i (get_or code i nil) in
        let fits : fits_in (length out₀) (take at out) line ≡ true = rw (so_far, ← s.size) w.fits in
        let text : take n out' ≡ take at out ++ line = rw (w.next, w.whole) (take_spliced out at line s.within) in
        record {
          size = wrote_size w ∙ s.size;
          within = omega (arith, w.next, wrote_size w, leb-true (at + length line) (length out) w.fits);
          beyond =
              rw (w.next, w.whole)
              (drop_spliced out at line s.within
              ∙ sym (drop-drop (length line) at out)
              ∙ ap (λ (l : List ℕ). drop (length line) l) s.beyond
              ∙ drop-drop (length line) at out₀);
          goes = next_line h ∙ rw (fits, lines_into) (rw (add-one i, text));
        }

    -- what is left of the output is as it was
    left : out ≡ onto out₀ (take at out)
    left = sym (take-append-drop at out) ∙ ap (λ (l : List ℕ). take at out ++ l) (s.beyond ∙ ap (λ (n : ℕ). drop n out₀) (sym so_far))

    leaves : (number : ℕ) → lines_into (length out₀) 0 code [] ≡ ends number (take at out) → length code ≤ max_code → record { number = number; out_length = at; out = out } ≡ list_leaves (listed code (length out₀)) out₀
    unfolding listed list_leaves
    leaves number e few =
        rw (le-leb (length code) max_code few, listed)
        (rw e (λ j. record { number = number; out_length = sym so_far j; out = left j }))

    -- the next does not fit
    pub stands_full : {out' : List ℕ} → i < length code → length code ≤ max_code → Kept (line_of i (get_or code i nil)) at out out' → record { number = output_full; out_length = at; out = out' } ≡ list_leaves (listed code (length out₀)) out₀
    unfolding lines_into
    stands_full {out'} h few k =
        let line = line_of i (get_or code i nil) in
        let full : fits_in (length out₀) (take at out) line ≡ false = rw (so_far, ← s.size) k.full in
        rw k.same (leaves output_full (next_line h ∙ rw (full, lines_into)) few)

    -- there is no other
    pub stands_all : length code ≤ i → length code ≤ max_code → record { number = done; out_length = at; out = out } ≡ list_leaves (listed code (length out₀)) out₀
    unfolding lines_into
    stands_all h few = leaves done (s.goes ∙ rw (drop_of_length-le code h)) few

  -- too many instructions
  pub too_many_lem : max_code < length code → record { number = too_many_instructions; out_length = 0; out = out₀ } ≡ list_leaves (listed code (length out₀)) out₀
  unfolding listed list_leaves
  too_many_lem h = rw (lt-leb (length code) max_code h, listed)

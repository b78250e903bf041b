-- Laws of reading a line and of writing: what the lent output holds.
use mathlib.Core.Path.{◌≡◌, refl, sym, ap, ◌∙◌}
use mathlib.Core.Bool.{Bool, true, false}
use mathlib.Core.List.{List, ◌++◌, append_assoc}
use mathlib.Core.Option.{Option, none, some}
use Prim.Native.Nat.{ℕ, suc, ◌+◌, ◌-◌, ◌≤◌, ◌<◌}
use native.Mathlib.Omega.{arith}
use native.Mathlib.Numerals.{add-one}
use lib.IntN.{ℤ}
use lib.Dec.{leb, ltb}
use lib.ListN.{length, drop, length-append, length-drop}
use lib.Seq.{take_at, drop_at, drop-drop}
use borrow.Author.Tests.{lt-ltb, le-ltb, leb-true}
use Rattle.std.proofs.Common.{Result as Answer, Ok, Err}
use Rattle.numbers.specs.declared.refusal.Refusal.{Refusal}
use Rattle.numbers.specs.declared.refusal.Refusal.TheVariants.{BudgetSpent, CellOutside, BadEntry, OutputFull}
use Rattle.numbers.specs.Refusals.{number_of}
use Rattle.numbers.specs.Panel.{budget_spent, cell_outside, bad_entry, output_full}
use Rattle.numbers.specs.Limits.{max_cells}
use Rattle.numbers.specs.Lent.{onto}
use Rattle.numbers.specs.Screen.{prompt, fits_in}
use Rattle.numbers.specs.Line.{entry}
use Rattle.numbers.specs.Answers.{Takes, Took, Puts, Wrote, Kept, spliced}
use Rattle.walk.specs.declared.expressions.Env.{Env}
use Rattle.walk.specs.declared.progress.Progress.{Progress}
use Rattle.walk.specs.Walk.{State, Result, stop, refuse, got_line, read_line, took_line}
use Rattle.walk.specs.Holds.{Holds, read, unread, Enters}
use Rattle.walk.proofs.Steps.{step_on, refuse_on, spent_unless}

-- the lent output is as long as it was
pub onto_length : {A : Type 0} (lo new : List A) → length new ≤ length lo → length (onto lo new) ≡ length lo
onto_length lo new h = omega (arith, length-append new (drop (length new) lo), length-drop (length new) lo)

-- bytes after those that are written
pub onto_more : (lo new bs : List ℕ) (n : ℕ) → n ≡ length new → length new + length bs ≤ length lo → spliced (onto lo new) n bs ≡ onto lo (new ++ bs)
onto_more lo new bs n e h =
    rw e (rw (take_at new (drop (length new) lo) (length new) refl)
    (ap (λ (r : List ℕ). new ++ (bs ++ r)) (past ∙ rw (length-append new bs)) ∙ sym (append_assoc new bs (drop (length (new ++ bs)) lo))))
  where
    past : drop (length new + length bs) (new ++ drop (length new) lo) ≡ drop (length new + length bs) lo
    past = sym (drop-drop (length bs) (length new) (new ++ drop (length new) lo)) ∙ rw (drop_at new (drop (length new) lo) (length new) refl) (drop-drop (length bs) (length new) lo)

-- after a line was taken
abbrev pub entered : Progress → ℕ → ℕ → Progress
entered p n m = record { clock = record { left = p.clock.left - 1; top = p.clock.top + 1 }; at = n; written = m; lines = p.lines + 1 }

got_spent : (room : ℕ) (o : Option ℤ) (w : State) → got_line room o 0 w ≡ stop budget_spent 0 w
got_spent room none w = refl
got_spent room (some z) w = spent_unless (fits_in room w.out prompt) output_full z (took_line w) w

read_spent : (room : ℕ) (w : State) → read_line room 0 w ≡ stop budget_spent 0 w
unfolding read_line
read_spent room w = of (ltb w.top max_cells)
  where
    of : (b : Bool) → ◌≡◌ {A = Result ℤ} (elim b [ true ↦ got_line room (entry w.input) 0 w | false ↦ refuse cell_outside 0 w ]) (stop budget_spent 0 w)
    of true = got_spent room (entry w.input) w
    of false = refl

-- a refusal where p stands
module _ (input before : List ℕ) (p : Progress) where
  stays : (k : Refusal) → ((e : Env) (lv : List ℤ) (lo : List ℕ) (vars : List ℤ) (w : State) → Holds e input lv lo vars before p w → read_line (length lo) p.clock.left w ≡ stop (number_of k) p.clock.left w) → Enters input before before p p (Err k)
  stays k f = record {
    reads = λ e lv lo vars w h. unread {k = k} w (f e lv lo vars w h) h (omega arith);
    top = λ z x. let n : ◌≡◌ {A = ℕ} 0 1 = cc in absurd (omega arith);
  }

  pub enter_spent : p.clock.left ≡ 0 → Enters input before before p p (Err BudgetSpent)
  enter_spent z = stays BudgetSpent (λ e lv lo vars w h. rw z (read_spent (length lo) w))

  module _ (l : p.clock.left ≡ 0 → ⊥) where
    pub enter_full : max_cells ≤ p.clock.top → Enters input before before p p (Err CellOutside)
    unfolding read_line
    enter_full f = stays CellOutside (λ e lv lo vars w h. rw (le-ltb w.top max_cells (omega (arith, h.top)), read_line) (refuse_on cell_outside w p.clock.left l))

    module _ (f : p.clock.top < max_cells) where
      line_is : (e : Env) (lv : List ℤ) (lo : List ℕ) (vars : List ℤ) (w : State) → Holds e input lv lo vars before p w → read_line (length lo) p.clock.left w ≡ got_line (length lo) (entry (drop p.at input)) p.clock.left w
      unfolding read_line
      line_is e lv lo vars w h = rw (lt-ltb w.top max_cells (omega (arith, h.top)), read_line) (rw h.rest)

      pub enter_bad : {t : Answer (ℤ × ℕ) Refusal} {m : Refusal} → t ≡ Err m → Takes input p.at t → Enters input before before p p (Err m)
      enter_bad {m} x k =
          let f : (m ≡ BadEntry) × (entry (drop p.at input) ≡ none) = rw x at k in
          rw f.0 (stays BadEntry (λ e lv lo vars w h. line_is e lv lo vars w h ∙ rw f.1 (refuse_on bad_entry w p.clock.left l)))

      module _ {t : Answer (ℤ × ℕ) Refusal} (z : ℤ) (n : ℕ) (x : t ≡ Ok (z, n)) (k : Takes input p.at t) where
        took : Took input p.at z n
        took = rw x at k

        room_is : (e : Env) (lv : List ℤ) (lo : List ℕ) (vars : List ℤ) (w : State) → Holds e input lv lo vars before p w → fits_in (length lo) w.out prompt ≡ leb (p.written + length prompt) (length before)
        room_is e lv lo vars w h = rw (h.written, h.out_is, onto_length lo w.out h.fits)

        pub enter_unfit : {u : Answer ℕ Refusal} {m : Refusal} (after : List ℕ) → u ≡ Err m → Puts prompt p.written before after u → Enters input before after p p (Err m)
        enter_unfit {m} after y v =
            let g : (m ≡ OutputFull) × Kept prompt p.written before after = rw y at v in
            let q = g.1 in
            rw (g.0, q.same) (stays OutputFull (λ e lv lo vars w h. line_is e lv lo vars w h ∙ rw took.value (rw (room_is e lv lo vars w h ∙ q.full) (refuse_on output_full w p.clock.left l))))

        pub enter_on : {u : Answer ℕ Refusal} (after : List ℕ) (m : ℕ) (y : ℤ) → u ≡ Ok m → Puts prompt p.written before after u → y ≡ z → Enters input before after p (entered p n m) (Ok y)
        enter_on after m y s v d =
            let q : Wrote prompt p.written before after m = rw s at v in
            rw d (record {
              reads = λ e lv lo vars w h.
                  let fit : length w.out + length prompt ≤ length lo = leb-true (length w.out + length prompt) (length lo) (room_is e lv lo vars w h ∙ q.fits) in
                  read {z = z} (took_line w)
                  (line_is e lv lo vars w h ∙ rw took.value (rw (room_is e lv lo vars w h ∙ q.fits) (step_on z (took_line w) w p.clock.left l)))
                  (record {
                    top = ap suc h.top ∙ sym (add-one p.clock.top);
                    vars_are = h.vars_are;
                    many = h.many;
                    out_is = q.whole ∙ rw h.out_is (onto_more lo w.out prompt p.written h.written fit);
                    fits = omega (arith, length-append w.out prompt, fit);
                    written = omega (arith, q.next, h.written, length-append w.out prompt);
                    rest = rw h.rest (sym took.rest);
                    lines = ap suc h.lines ∙ sym (add-one p.lines);
                    few = omega (arith, h.few, l);
                  })
                  (omega arith);
              top = λ a c. omega arith;
            })

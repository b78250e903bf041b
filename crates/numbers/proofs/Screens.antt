-- Laws of what is written: bytes put into the middle of the output, what stands before and behind them, and others put behind them.
use mathlib.Core.Path.{◌≡◌, sym, ap, ◌∙◌}
use mathlib.Core.List.{List, ◌++◌, append_assoc}
use Prim.Native.Nat.{ℕ, ◌+◌, ◌-◌, ◌≤◌}
use native.Mathlib.Omega.{arith}
use lib.IntN.{ℤ}
use lib.Dec.{leb}
use lib.ListN.{length, take, drop, length-append, length-drop}
use lib.Seq.{drop-drop, length-take-le, take_at, drop_at}
use borrow.Author.Tests.{le-leb, leb-true}
use borrow.Rule.Slice.PartMut.{put_mid, Post-is}
use Rattle.std.specs.Prelude.{Result, Ok, Err}
use Rattle.numbers.specs.declared.refusal.Refusal.{Refusal}
use Rattle.numbers.specs.Bytes.{bytes}
use Rattle.numbers.specs.Screen.{decimal, written}
use Rattle.numbers.specs.Answers.{spliced, Wrote, Puts}
use Rattle.numbers.proofs.Signs.{clash}

-- a part that was lent is filled
pub part_filled : (out bs : List ℕ) (at e : ℕ) → e ≡ at + length bs → put_mid at (e - at) out bs ≡ spliced out at bs
part_filled out bs at e h = rw (Post-is at e out (omega arith), h)

-- bytes put behind the first n
module _ (out : List ℕ) (n : ℕ) (bs : List ℕ) (h : n ≤ length out) where
  front : length (take n out ++ bs) ≡ n + length bs
  front = length-append (take n out) bs ∙ rw (length-take-le n out h)

  pub take_spliced : take (n + length bs) (spliced out n bs) ≡ take n out ++ bs
  take_spliced = rw (← append_assoc (take n out) bs (drop (n + length bs) out)) (take_at (take n out ++ bs) (drop (n + length bs) out) (n + length bs) front)

  pub drop_spliced : drop (n + length bs) (spliced out n bs) ≡ drop (n + length bs) out
  drop_spliced = rw (← append_assoc (take n out) bs (drop (n + length bs) out)) (drop_at (take n out ++ bs) (drop (n + length bs) out) (n + length bs) front)

  pub length_spliced : n + length bs ≤ length out → length (spliced out n bs) ≡ length out
  length_spliced g = rw (length-append (take n out) (bs ++ drop (n + length bs) out), length-append bs (drop (n + length bs) out), length-take-le n out h, length-drop (n + length bs) out) (omega arith)

-- bytes that were written leave the output as long as it was
pub wrote_size : {bs out after : List ℕ} {at n : ℕ} → Wrote bs at out after n → length after ≡ length out
wrote_size {bs} {out} {after} {at} w =
    let room : at + length bs ≤ length out = leb-true (at + length bs) (length out) w.fits in
    rw w.whole (length_spliced out at bs (omega arith) room)

-- the bytes are what a definition says
pub wrote_as : {bs cs out after : List ℕ} {at n : ℕ} → bs ≡ cs → Wrote bs at out after n → Wrote cs at out after n
wrote_as e w = rw (← e) w

-- a part that was lent is filled with them
pub wrote_part : {bs out after : List ℕ} {at e : ℕ} → e ≡ at + length bs → e ≤ length out → after ≡ put_mid at (e - at) out bs → Wrote bs at out after e
wrote_part {bs} {out} {after} {at} {e} h room p = record {
  fits = le-leb (at + length bs) (length out) (omega arith);
  next = h;
  whole = p ∙ part_filled out bs at e h;
}

-- bytes, and others behind them
module _ {ds bs out mid after : List ℕ} {at n m : ℕ} (first : Wrote ds at out mid n) (second : Wrote bs n mid after m) where
  sum : length (ds ++ bs) ≡ length ds + length bs
  sum = length-append ds bs

  room : n + length bs ≤ length out
  room = omega (arith, leb-true (n + length bs) (length mid) second.fits, wrote_size first)

  start : at ≤ length out
  start = omega (arith, room, first.next)

  before : take n mid ≡ take at out ++ ds
  before = rw (first.next, first.whole) (take_spliced out at ds start)

  behind : drop (n + length bs) mid ≡ drop (at + length (ds ++ bs)) out
  behind =
      let e : at + length ds + length bs ≡ at + length (ds ++ bs) = omega (arith, sum) in
      sym (drop-drop (length bs) n mid)
      ∙ ap (λ (l : List ℕ). drop (length bs) l) (rw (first.next, first.whole) (drop_spliced out at ds start))
      ∙ drop-drop (length bs) (at + length ds) out
      ∙ ap (λ (k : ℕ). drop k out) e

  pub wrote_behind : Wrote (ds ++ bs) at out after m
  wrote_behind = record {
    fits = le-leb (at + length (ds ++ bs)) (length out) (omega (arith, sum, room, first.next));
    next = omega (arith, second.next, first.next, sum);
    whole = second.whole ∙ rw (before, behind) (simp append_assoc);
  }

-- bytes behind others, where there is room for all
pub put_behind : (ds bs after : List ℕ) {out mid : List ℕ} {at n : ℕ} (r : Result ℕ Refusal) → at + length (ds ++ bs) ≤ length out → Wrote ds at out mid n → Puts bs n mid after r → Puts (ds ++ bs) at out after r
put_behind ds bs after (Ok m) h first second = wrote_behind first second
put_behind ds bs after {mid = mid} {n = n} (Err e) h first (_, k) = clash (sym (le-leb (n + length bs) (length mid) (omega (arith, h, length-append ds bs, first.next, wrote_size first))) ∙ k.full)

-- the room that a number takes, with its two spaces
pub written_room : (x : ℤ) (count at room : ℕ) → count ≡ length (decimal x) → leb (at + (count + 2)) room ≡ leb (at + length (written x)) room
unfolding bytes
written_room x count at room e = let n : count + 2 ≡ length (written x) = omega (arith, length-append (decimal x) (bytes "  ")) in ap (λ (k : ℕ). leb (at + k) room) n

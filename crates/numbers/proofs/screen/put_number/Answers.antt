-- `screen::put_number` meets its contract.
use mathlib.Core.Path.{◌≡◌, refl, sym, ap, ◌∙◌}
use mathlib.Core.List.{List}
use Prim.Native.Nat.{ℕ, ◌+◌, ◌-◌, ◌≤◌}
use native.Mathlib.Omega.{arith}
use borrow.Author.Tests.{leb-true, not-true, not-false}
use lib.IntN.{ℤ}
use lib.ListN.{length, length-append}
use borrow.Rule.Slice.PartMut.{put_mid}
use Rattle.numbers.specs.Bytes.{bytes}
use Rattle.numbers.specs.Screen.{decimal, written}
use Rattle.numbers.proofs.Bits.{plain}
use Rattle.numbers.proofs.Decimals.{decimal_most}
use Rattle.numbers.proofs.Screens.{wrote_part, put_behind, written_room}
use Rattle.numbers.proofs.screen.put_number.Goals as goal

pub overflow_add-count : goal.overflow_add-count
overflow_add-count c = omega (arith, plain (λ (z : ℤ). length (decimal z)) c.args.x c.ranges.x c.decimal_length-count.ensures, decimal_most c.args.x)

pub returns-then-not-has_room : goal.returns-then-not-has_room
returns-then-not-has_room c =
    let count = plain (λ (z : ℤ). length (decimal z)) c.args.x c.ranges.x c.decimal_length-count.ensures in (
      refl,
      record {
        full = sym (written_room c.args.x c.decimal_length-count.result c.args.at (length c.args.out.now) count) ∙ sym c.has_room.ensures ∙ not-true _ c.if-not-has_room.true-raw;
        same = refl;
      },
    )

pub overflow_add-end : goal.overflow_add-end
overflow_add-end c = omega (arith, leb-true (c.args.at + (c.decimal_length-count.result + 2)) (length c.args.out.now) (sym c.has_room.ensures ∙ not-false _ c.if-not-has_room.false-raw))

pub slice_bounds-fill_decimal-end : goal.slice_bounds-fill_decimal-end
slice_bounds-fill_decimal-end c = omega (arith, leb-true (c.args.at + (c.decimal_length-count.result + 2)) (length c.args.out.now) (sym c.has_room.ensures ∙ not-false _ c.if-not-has_room.false-raw))

pub returns : goal.returns
unfolding bytes
returns c =
    let x = c.args.x in
    let at = c.args.at in
    let out = c.args.out.now in
    let count : c.decimal_length-count.result ≡ length (decimal x) = plain (λ (z : ℤ). length (decimal z)) x c.ranges.x c.decimal_length-count.ensures in
    let end : at + c.decimal_length-count.result ≡ at + length (decimal x) = ap (λ (k : ℕ). at + k) count in
    let digits : c.fill_decimal.new.part ≡ decimal x = plain decimal x c.ranges.x c.fill_decimal.ensures in
    let room : at + length (written x) ≤ length out = leb-true (at + length (written x)) (length out) (sym (written_room x c.decimal_length-count.result at (length out) count) ∙ sym c.has_room.ensures ∙ not-false _ c.if-not-has_room.false-raw) in
    put_behind (decimal x) (bytes "  ") _ c.put_bytes.result room
    (wrote_part end (omega (arith, room, end, length-append (decimal x) (bytes "  "))) (ap (λ (ds : List ℕ). put_mid at (at + c.decimal_length-count.result - at) out ds) digits))
    c.put_bytes.ensures

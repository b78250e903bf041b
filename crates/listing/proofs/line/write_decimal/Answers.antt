-- `line::write_decimal` meets its contract.
use mathlib.Core.Path.{◌≡◌, ap}
use mathlib.Core.List.{List}
use Prim.Native.Nat.{ℕ, ◌+◌, ◌-◌}
use native.Mathlib.Omega.{arith}
use lib.IntN.{ℤ}
use lib.ListN.{length}
use borrow.Rule.Slice.PartMut.{put_mid}
use Rattle.numbers.specs.Screen.{decimal}
use Rattle.numbers.proofs.Bits.{plain}
use Rattle.numbers.proofs.Screens.{wrote_part}
use Rattle.listing.proofs.line.write_decimal.Goals as goal

pub overflow_add-end : goal.overflow_add-end
overflow_add-end c = omega (arith, c.requires, plain (λ (z : ℤ). length (decimal z)) c.args.x c.ranges.x c.decimal_length.ensures)

pub slice_bounds-fill_decimal-end : goal.slice_bounds-fill_decimal-end
slice_bounds-fill_decimal-end c = omega (arith, c.requires, plain (λ (z : ℤ). length (decimal z)) c.args.x c.ranges.x c.decimal_length.ensures)

pub returns : goal.returns
returns c =
    let x = c.args.x in
    let at = c.args.at in
    let end = at + c.decimal_length.result in
    let count : c.decimal_length.result ≡ length (decimal x) = plain (λ (z : ℤ). length (decimal z)) x c.ranges.x c.decimal_length.ensures in
    let e : end ≡ at + length (decimal x) = omega (arith, count) in
    wrote_part e (omega (arith, c.requires, e)) (ap (λ (bs : List ℕ). put_mid at (end - at) c.args.out.now bs) (plain decimal x c.ranges.x c.fill_decimal.ensures))

-- `line::write_column` meets its contract.
use mathlib.Core.Path.{◌≡◌, ap}
use mathlib.Core.List.{List}
use Prim.Native.Nat.{ℕ, ◌+◌, ◌-◌}
use native.Mathlib.Omega.{arith}
use lib.ListN.{length}
use borrow.Rule.Slice.PartMut.{put_mid}
use Rattle.numbers.proofs.Screens.{wrote_part}
use Rattle.listing.specs.Listing.{right_aligned}
use Rattle.listing.proofs.line.write_column.Goals as goal

pub returns : goal.returns
returns c =
    let at = c.args.at in
    let end = at + c.column_length.result in
    let e : end ≡ at + length (right_aligned c.args.n) = omega (arith, c.column_length.ensures) in
    wrote_part e (omega (arith, c.requires, e)) (ap (λ (bs : List ℕ). put_mid at (end - at) c.args.out.now bs) c.fill_column.ensures)

-- `line::write_text` meets its contract.
use mathlib.Core.Path.{refl, ap}
use mathlib.Core.List.{List}
use Prim.Native.Nat.{ℕ, ◌+◌, ◌-◌}
use lib.ListN.{length}
use borrow.Rule.Slice.PartMut.{put_mid}
use Rattle.numbers.proofs.Screens.{wrote_part}
use Rattle.listing.proofs.line.write_text.Goals as goal

pub returns : goal.returns
returns c =
    let at = c.args.at in
    let end = at + length c.args.text.now in
    wrote_part refl c.requires (ap (λ (bs : List ℕ). put_mid at (end - at) c.args.out.now bs) c.copy_from_slice.ensures.after)

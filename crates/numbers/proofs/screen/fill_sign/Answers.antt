-- `screen::fill_sign` meets its contract.
use mathlib.Core.Path.{refl, ap, ◌∙◌}
use mathlib.Core.List.{List, ◌++◌}
use Prim.Native.Nat.{zero-le}
use native.Mathlib.Omega.{arith}
use lib.IntN.{pos, nat_abs}
use lib.ListN.{length, length-set}
use Rattle.numbers.specs.Screen.{decimal}
use Rattle.numbers.proofs.Bits.{sign}
use Rattle.numbers.proofs.Decimals.{decimal_plain, decimal_signed, sign_put}
use Rattle.numbers.proofs.screen.fill_sign.Goals as goal

pub bounds-part-0 : goal.bounds-part-0
bounds-part-0 c = let x = c.args.x in omega (arith, c.requires, ap length (decimal_signed x (nat_abs x) refl (sign x c.ranges.x c.if-x-lt0.true)))

pub returns-then-x-lt0 : goal.returns-then-x-lt0
returns-then-x-lt0 c =
    let x = c.args.x in
    let l = c.args.part.now in
    let signed = decimal_signed x (nat_abs x) refl (sign x c.ranges.x c.if-x-lt0.true) in (
      simp length-set (omega (arith, c.requires, ap length signed)),
      ap (λ (t : List _). t ++ decimal (pos (nat_abs x))) (sign_put l 45 (omega (arith, c.requires, ap length signed))) ∙ signed,
    )

pub returns : goal.returns
returns c = let x = c.args.x in (zero-le, decimal_plain x (nat_abs x) refl (sign x c.ranges.x c.if-x-lt0.false))

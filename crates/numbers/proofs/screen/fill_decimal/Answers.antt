-- `screen::fill_decimal` meets its contract.
use mathlib.Core.Path.{ap, ◌∙◌}
use mathlib.Core.List.{List, ◌++◌}
use Prim.Native.Nat.{ℕ}
use native.Mathlib.Omega.{arith}
use lib.IntN.{ℤ, pos, nat_abs}
use lib.ListN.{length, take, length-append, length-drop}
use lib.Seq.{length-take-le}
use mir.Syntax.{w64}
use mir.ValLaws.{to_z-of_z}
use Rattle.numbers.specs.Screen.{decimal}
use Rattle.numbers.proofs.Scans.{rest_of}
use Rattle.numbers.proofs.Bits.{back, plain}
use Rattle.numbers.proofs.Decimals.{rest_filled}
use Rattle.numbers.proofs.screen.fill_decimal.Goals as goal

pub fill_digits-requires : goal.fill_digits-requires
fill_digits-requires c =
    let x = c.args.x in
    let l = c.fill_sign-start.new.part in
    let r = c.fill_sign-start.result in
    rw (rest_of r l, length-drop r l, c.magnitude.ensures)
    (omega (arith, c.requires, ap (λ (z : ℤ). length (decimal z)) (to_z-of_z w64 x c.ranges.x), ap length c.fill_sign-start.ensures.1, length-append (take r l) (decimal (pos (nat_abs (back x)))), length-take-le r l c.fill_sign-start.ensures.0))

pub returns : goal.returns
returns c =
    let l = c.fill_sign-start.new.part in
    let r = c.fill_sign-start.result in
    plain decimal c.args.x c.ranges.x
    (rest_filled r l c.fill_digits.new.part ∙ ap (λ (t : List ℕ). take r l ++ t) (c.fill_digits.ensures ∙ ap (λ (k : ℕ). decimal (pos k)) c.magnitude.ensures) ∙ c.fill_sign-start.ensures.1)

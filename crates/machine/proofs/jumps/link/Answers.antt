-- `link`: the three stores are those of the definition.
use native.Mathlib.Omega.{arith}
use lib.IntN.{pos}
use mir.Syntax.{w64}
use mir.Val.{SFits}
use mir.ValLaws.{to_z-of_z}
use Rattle.machine.proofs.jumps.link.Goals as goal

pub returns : goal.returns
returns c =
    let h : SFits w64 (pos c.args.back) = record { sfits = omega (arith, c.requires) } in
    rw (to_z-of_z w64 c.args.base c.ranges.base, to_z-of_z w64 c.args.outer c.ranges.outer, to_z-of_z w64 (pos c.args.back) h)

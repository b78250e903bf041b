-- `outer_base`: the cell is set, and set back.
use native.Mathlib.Omega.{arith}
use lib.IntN.{pos}
use lib.ListN.{get_or}
use mir.Syntax.{w64}
use mir.Val.{SFits}
use mir.ValLaws.{to_z-of_z}
use borrow.Author.Rules.{rules}
use Rattle.machine.proofs.CellLaws.{set_back}
use Rattle.machine.proofs.jumps.outer_base.Goals as goal

pub returns : goal.returns
returns c =
    let cs = c.args.cells.now in
    let z = get_or cs c.args.top (pos 0) in
    let h : SFits w64 z = search rules in
    (rw (to_z-of_z w64 c.args.base c.ranges.base) at c.up-outer.ensures, rw (to_z-of_z w64 z h) (set_back cs c.args.top _ (pos 0) (omega (arith, c.requires, c.told-cells))))

-- `Page::put_number` meets its contract: the number is written where it belongs, or as much of it as there is room for.
use mathlib.Core.Path.{refl, ap, sym, ◌∙◌}
use native.Mathlib.Omega.{arith}
use lib.ListN.{length, take}
use lib.Seq.{take-length}
use mir.Syntax.{w64}
use mir.ValLaws.{to_z-of_z}
use Rattle.std.proofs.lemmas.Grind.{common_steps}
use Rattle.numbers.specs.Screen.{decimal}
use Rattle.desk.specs.Page.{number}
use Rattle.desk.proofs.Pages.{pasted}
use Rattle.desk.proofs.page.Page.put_number.Goals as goal

pub returns : goal.returns
unfolding number
returns c =
    let p = c.args.self.now in
    let x = to_z-of_z w64 c.args.x c.ranges.x in
    let size = c.decimal_length-size.ensures ∙ ap (λ z. length (decimal z)) x in
    record {
      holds = pasted p.room.now (decimal c.args.x) c.fill_decimal.new.part p.len c.decimal_length-size.result (omega (arith, p.within)) (omega (arith, size, c.left.ensures, c.if-left-size.false))
          (c.fill_decimal.ensures ∙ ap decimal x ∙ sym (take-length (decimal c.args.x)) ∙ ap (λ n. take n (decimal c.args.x)) (sym size));
      kept = grind (arith, common_steps);
      same = refl;
    }

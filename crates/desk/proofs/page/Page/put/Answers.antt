-- `Page::put` meets its contract: it copies as much as there is room for.
use mathlib.Core.Path.{refl}
use native.Mathlib.Omega.{arith}
use Rattle.std.proofs.lemmas.Grind.{common_steps}
use Rattle.desk.proofs.Pages.{pasted}
use Rattle.desk.proofs.page.Page.put.Goals as goal

pub returns : goal.returns
returns c = let p = c.args.self.now in record {
  holds = pasted p.room.now c.args.text.now c.copy_from_slice.new.self p.len c.min-n.result (omega (arith, p.within)) c.min-n.ensures c.copy_from_slice.ensures.after;
  kept = grind (arith, common_steps);
  same = refl;
}

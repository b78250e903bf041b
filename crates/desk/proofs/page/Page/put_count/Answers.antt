-- `Page::put_count` meets its contract: the digits that `io::decimal` writes are the number's decimal.
use mathlib.Core.Path.{◌∙◌}
use Rattle.desk.proofs.Pages.{said}
use Rattle.desk.proofs.Figures.{figures}
use Rattle.desk.proofs.page.Page.put_count.Goals as goal

pub returns : goal.returns
returns c = said (c.decimal-k.ensures.digits ∙ figures c.args.n c.decimal-k.result c.ranges.n.fits c.decimal-k.ensures.len) c.put.ensures

-- `Page::put_line` meets its contract: one part after the other.
use mathlib.Core.Path.{ap, sym, ◌∙◌}
use mir.Syntax.{w8, w64}
use mir.ValLaws.{to_z-of_z}
use Rattle.std.proofs.Common.{rules}
use Rattle.numbers.specs.Bytes.{bytes}
use Rattle.pcode.specs.Code.{kind_of}
use Rattle.desk.specs.Page.{number, right}
use Rattle.desk.specs.Listing.{line_text, letters, kind_text_lem}
use Rattle.desk.proofs.Letters.{kind_text_from}
use Rattle.desk.proofs.Pages.{then, said}
use Rattle.desk.proofs.page.Page.put_line.Goals as goal

pub returns : goal.returns
unfolding line_text bytes
returns c =
    let made = c.from.ensures ∙ ap kind_of (to_z-of_z w8 c.args.kind (search rules)) in
    let kind = said (c.letters.ensures ∙ ap (λ o. bytes (letters o)) made ∙ sym (kind_text_lem (kind_of c.args.kind)) ∙ kind_text_from c.args.kind) c.put-2.ensures in
    let level = said (ap right c.from-2.ensures) c.put_right-2.ensures in
    let operand = said (ap number (to_z-of_z w64 c.args.operand (search rules))) c.put_number.ensures in
    then (then (then (then (then (then (then c.put_right.ensures c.put.ensures) kind) c.put-3.ensures) level) c.put-4.ensures) operand) c.put-5.ensures

-- `line::field` meets its contract.
use mathlib.Core.Path.{◌≡◌, refl, ◌∙◌}
use mathlib.Core.Bool.{Bool, true, false, not}
use Prim.Native.Nat.{◌-◌}
use lib.ListN.{length, take, drop}
use Rattle.std.proofs.Common.{rules, tests}
use Rattle.std.proofs.lemmas.Iterator.{YieldsList-from_slice}
use Rattle.std.proofs.lemmas.Iterator.Search.{position_from_yields_List}
use Rattle.numbers.specs.Bytes.{is_blank, span}
use Rattle.numbers.specs.Line.{not_blank, field}
use Rattle.numbers.proofs.Scans.{until, rest_of}
use Rattle.numbers.proofs.line.field.Goals as goal

not_not : (t : Bool) → t ≡ not (not t)
not_not true = refl
not_not false = refl

pub returns : goal.returns
unfolding field
returns c =
    let s = c.args.s.now in
    let front = position_from_yields_List (λ b. not (is_blank b)) _ _ c.position.result c.position.ensures.ran (YieldsList-from_slice s (cc)) (λ x b q k. search (rules, tests)) in
    let a : c.unwrap_or-start.result ≡ span is_blank s = c.unwrap_or-start.ensures ∙ until is_blank (λ b. not (is_blank b)) (λ b. not_not (is_blank b)) s c.position.result front in
    let t = take (length s - c.unwrap_or-start.result) (drop c.unwrap_or-start.result s) in
    let end = position_from_yields_List is_blank _ _ c.position-2.result c.position-2.ensures.ran (YieldsList-from_slice t (cc)) (λ x b q k. search (rules, tests)) in
    let n : c.unwrap_or-end.result ≡ span not_blank t = c.unwrap_or-end.ensures ∙ until not_blank is_blank (λ b. refl) t c.position-2.result end in
    rw (n, rest_of c.unwrap_or-start.result s, a)

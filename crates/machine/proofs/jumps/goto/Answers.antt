-- `goto`: the halt, outside the list, or at its place.
use mathlib.Core.Path.{◌≡◌, refl, sym, ◌∙◌, ap}
use native.Mathlib.Omega.{arith}
use lib.IntN.{pos}
use mir.Syntax.{w64}
use mir.Val.{to_z}
use mir.ValLaws.{to_z-of_z}
use Rattle.std.proofs.lemmas.Result.{err_from_is_err_and}
use Rattle.std.specs.Prelude.{Ok}
use Rattle.machine.specs.declared.steps.Does.TheVariants.{Next}
use Rattle.machine.proofs.StepLaws.{arrived_first, arrived_on, first_in, inside_some, went_out, went_in}
use Rattle.machine.proofs.jumps.goto.Goals.{else-a-eq0-via-then-a-eq0+else-places-gt0, else-a-eq0-via-else-a-eq0}
use Rattle.machine.proofs.jumps.goto.Goals as goal

pub returns-then-places-gt0 : goal.returns-then-places-gt0
returns-then-places-gt0 c =
    let a = c.args in
    let e : a.a ≡ pos 0 = sym (to_z-of_z w64 a.a c.ranges.a) ∙ ap (to_z w64) c.if-a-eq0.true in
    ap Ok (arrived_first 0 a.f refl) ∙ went_in a.places a.f (first_in a.places a.a e c.if-places-gt0.true) e

pub returns-in_err-to : goal.returns-in_err-to
returns-in_err-to c =
    let a = c.args in
    let p = err_from_is_err_and c.from_residual.result c.from_residual.ensures.1 in
    let k = rw (to_z-of_z w64 a.a c.ranges.a) at c.in_err-to.ensures in
    rw (p.1, p.2 ∙ k.1) (went_out a.places a.a a.f k.0)

pub returns : goal.returns
returns c =
    let a = c.args in
    let to = c.in_ok-to.to in
    let k = rw (to_z-of_z w64 a.a c.ranges.a) at c.in_ok-to.ensures in
    let some : to ≡ 0 → ⊥ = λ z. elim c.else-a-eq0.branch [
      | else-a-eq0-via-then-a-eq0+else-places-gt0 w ↦ absurd (omega (arith, w.if-places-gt0.false, inside_some a.places a.a k.0))
      | else-a-eq0-via-else-a-eq0 w ↦ w.if-a-eq0.false (rw (k.1, z) refl)
    ] in
    ap Ok (ap Next c.jumped.ensures ∙ arrived_on to a.f some) ∙ went_in a.places a.f k.0 k.1

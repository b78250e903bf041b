-- The proof of `reach`.
use Rattle.std.proofs.Common.{arith}
use Rattle.emission.specs.Passed.{passed}
use Rattle.emission.specs.Drafting.{reach_not, reach_on}
use Rattle.emission.proofs.Places.{apart, distance, in_place}
use Rattle.emission.proofs.reach.Goals as goal

pub returns-in_err-distance : goal.returns-in_err-distance
returns-in_err-distance c = λ ρ w l m.
    let q = in_place c.in_err-distance.ensures.ok_part c.in_err-distance.ensures.value in
    let h = apart c.checked_sub.ensures c.in_err-distance.ensures.ok_part in
    rw (passed c.from_residual.ensures.1, q) (reach_not _ ρ w _ _ _ _ (omega arith))

pub returns : goal.returns
returns c = λ ρ w l m.
    let d = distance c.checked_sub.ensures c.in_ok-distance.ensures.ok_part in
    reach_on _ ρ w _ _ (omega (arith, d.0)) (rw (l, m, ← d.1) c.emit_wide.ensures)

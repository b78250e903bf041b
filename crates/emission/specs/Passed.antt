-- What `?` returns where a call was refused.
use Rattle.std.specs.Prelude.{◌≡◌, Result, Err}
use Rattle.std.specs.Result.{IsErrAnd}
use Rattle.std.proofs.Common.{ap, ◌∙◌}
use Rattle.std.proofs.lemmas.Result.{err_from_is_err_and}
use Rattle.numbers.specs.declared.refusal.Refusal.{Refusal}

-- the same refusal
pub passed : {T : Type 0} {r : Result T Refusal} {e : Refusal} → IsErrAnd r (λ x. x ≡ e) → r ≡ Err e
passed {r} {e} h = let p = err_from_is_err_and r h in p.1 ∙ ap Err p.2

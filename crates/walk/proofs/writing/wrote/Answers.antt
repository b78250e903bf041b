-- The proof of `wrote`.
use Rattle.std.proofs.lemmas.Result.{err_from_is_err_and}
use Rattle.walk.proofs.Outputs.{wrote_full, wrote_on}
use Rattle.walk.proofs.writing.wrote.Goals as goal

pub returns-in_err-progress : goal.returns-in_err-progress
returns-in_err-progress c =
    let p = err_from_is_err_and c.from_residual.result c.from_residual.ensures.1 in
    λ bs before after v. rw (p.1, p.2) (wrote_full c.args.progress.now _ bs before after v c.requires c.in_err-progress.was)

pub returns : goal.returns
returns c = λ bs before after v. wrote_on c.args.progress.now _ bs before after v _ c.requires c.in_ok-progress.was c.tick.ensures

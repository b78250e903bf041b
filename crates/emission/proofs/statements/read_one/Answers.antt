-- The proof of `read_one`.
use mathlib.Core.Path.{refl}
use Rattle.symbols.specs.Table.{row_of}
use Rattle.emission.specs.Meets.{here_of}
use Rattle.emission.specs.Passed.{passed}
use Rattle.emission.proofs.Sought.{storing_not, storing_stop, storing_made}
use Rattle.emission.proofs.statements.read_one.Goals as goal

pub returns-in_err-y : goal.returns-in_err-y
returns-in_err-y c = λ t a. rw (passed c.from_residual.ensures.1) (storing_not _ (c.in_err-y.ensures t a) _)

pub returns-in_err-m : goal.returns-in_err-m
returns-in_err-m c = λ t a. rw (passed c.from_residual-in_err-m.ensures.1) (storing_stop _ (c.in_ok-y.ensures t a) _ c.in_err-m.ensures)

pub returns : goal.returns
unfolding here_of row_of
returns c = λ t a. storing_made _ (c.in_ok-y.ensures t a) _ c.requires.ready.most c.in_ok-m.ensures (c.reach.ensures _ (row_of _ _ _) refl refl)

-- The proof of `assign`.
use mathlib.Core.Path.{refl}
use Rattle.tree.specs.Parts.{has_assigned}
use Rattle.symbols.specs.Table.{row_of}
use Rattle.emission.specs.Meets.{here_of}
use Rattle.emission.specs.Passed.{passed}
use Rattle.emission.proofs.Sought.{storing_not, storing_stop, storing_made}
use Rattle.emission.proofs.Stmts.{has_target, by_assign}
use Rattle.emission.proofs.statements.assign.Goals as goal

pub variable-requires-clause-has_name : goal.variable-requires-clause-has_name
variable-requires-clause-has_name c = has_target c.requires.has_kind c.requires.has_stmt

pub returns-in_err-y : goal.returns-in_err-y
returns-in_err-y c = rw (passed c.from_residual.ensures.1) (by_assign _ c.requires.has_kind (λ t e a b. storing_not _ (c.in_err-y.ensures t a) _))

pub exp-requires-clause-has_exp : goal.exp-requires-clause-has_exp
exp-requires-clause-has_exp c = has_assigned c.requires.has_kind c.requires.has_stmt

pub returns-in_err-m : goal.returns-in_err-m
returns-in_err-m c = rw (passed c.from_residual-in_err-m.ensures.1) (by_assign _ c.requires.has_kind (λ t e a b. storing_stop _ (c.in_ok-y.ensures t a) _ (c.in_err-m.ensures e b)))

pub returns : goal.returns
unfolding here_of row_of
returns c = by_assign _ c.requires.has_kind (λ t e a b. storing_made _ (c.in_ok-y.ensures t a) _ c.requires.ready.most (c.in_ok-m.ensures e b) (c.reach.ensures _ (row_of _ _ _) refl refl))

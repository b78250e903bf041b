-- The proof of `call`.
use mathlib.Core.Path.{refl}
use Rattle.symbols.specs.Table.{row_of}
use Rattle.emission.specs.Meets.{here_of}
use Rattle.emission.specs.Passed.{passed}
use Rattle.emission.proofs.Sought.{call_not, call_stop, call_made}
use Rattle.emission.proofs.Stmts.{by_call}
use Rattle.emission.proofs.statements.call.Goals as goal

pub returns-in_err-y : goal.returns-in_err-y
returns-in_err-y c = rw (passed c.from_residual.ensures.1) (by_call _ c.requires.has_kind (λ f es a. call_not _ (c.in_err-y.ensures f es a)))

pub returns-in_err-m : goal.returns-in_err-m
returns-in_err-m c = rw (passed c.from_residual-in_err-m.ensures.1) (by_call _ c.requires.has_kind (λ f es a. call_stop _ (c.in_ok-y.ensures f es a) (c.in_err-m.ensures f es a)))

pub returns : goal.returns
unfolding here_of row_of
returns c = by_call _ c.requires.has_kind (λ f es a. call_made _ (c.in_ok-y.ensures f es a) c.requires.ready.most (c.in_ok-m.ensures f es a) (c.reach.ensures _ (row_of _ _ _) refl refl))

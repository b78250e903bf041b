-- `see::want` meets its contract.
use mathlib.Core.Path.{sym, ap, ◌∙◌}
use borrow.Author.Tests.{eqb-true, eqb-false}
use Rattle.lexer.specs.Kinds.{kind_of}
use Rattle.parser.proofs.Tokens.{of_kind, kind_of_token}
use Rattle.parser.proofs.Seeing.{want_refused, want_took, want_other}
use Rattle.parser.proofs.Answers.{left_as}
use Rattle.parser.proofs.see.want.Goals as goal

pub returns-in_err-c : goal.returns-in_err-c
returns-in_err-c c k q =
    rw (left_as c.from_residual.ensures) (want_refused c.see.ensures k c.in_err-c.was)

pub returns-then-is : goal.returns-then-is
returns-then-is c k q =
    let e = eqb-true _ _ (sym c.is.ensures ∙ c.if-is.true) in
    want_took c.see.ensures k c.in_ok-c.was (of_kind _ k (e ∙ ap kind_of q ∙ kind_of_token k)) c.take.ensures

pub returns-else-is : goal.returns-else-is
returns-else-is c k q =
    let e = eqb-false _ _ (sym c.is.ensures ∙ c.if-is.false) in
    want_other c.see.ensures k c.in_ok-c.was (λ z. e (ap kind_of (z ∙ sym q)))

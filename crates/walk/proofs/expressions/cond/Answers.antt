-- The proof of `cond`.
use borrow.Author.Rules.{rules, sfits_of}
use native.Mathlib.Omega.{arith}
use mathlib.Core.Path.{sym, ap, ◌∙◌}
use mir.Syntax.{w64}
use mir.ValLaws.{to_z-of_z}
use Rattle.std.proofs.lemmas.Result.{err_from_is_err_and}
use Rattle.numbers.specs.Arithmetic.{val, oddness}
use Rattle.tree.specs.Parts.{cond_fits, cond_first, has_right}
use Rattle.tree.specs.Kinds.{not_kind}
use Rattle.tree.specs.declared.Kind.TheVariants.{Odd}
use Rattle.numbers.proofs.Bits.{plain}
use Rattle.walk.proofs.Exps.{cond_stop, cond_odd, cond_rel}
use Rattle.walk.proofs.expressions.cond.Goals as goal

pub overflow_add-i : goal.overflow_add-i
overflow_add-i c = omega (arith, cond_fits c.requires.has_cond.at, c.well_formed)

pub exp-requires-clause-has_exp : goal.exp-requires-clause-has_exp
exp-requires-clause-has_exp c = cond_first c.requires.has_cond.cond c.requires.has_cond.at

pub returns-in_err-x : goal.returns-in_err-x
returns-in_err-x c =
    let p = err_from_is_err_and c.from_residual.result c.from_residual.ensures.1 in
    rw (p.1, p.2) (cond_stop _ _ _ _ _ _ c.args.clock.now c.exp.ensures c.in_err-x.was)

pub returns-in-Odd : goal.returns-in-Odd
returns-in-Odd c = cond_odd _ _ _ _ _ _ c.args.clock.now c.exp.ensures c.in_ok-x.was (sym c.in-Odd.ensures) _
    (ap val (to_z-of_z w64 _ (sfits_of c.remainder.type_inv)) ∙ plain oddness c.in_ok-x.x (search rules) c.remainder.ensures) c.settle.ensures

pub after-other-requires : goal.after-other-requires
after-other-requires c = (_, (cond_first c.requires.has_cond.cond c.requires.has_cond.at).at.stands)

pub bounds-env-i : goal.bounds-env-i
bounds-env-i c = omega (arith, cond_fits c.requires.has_cond.at, c.well_formed)

pub related-requires-clause-has_exp : goal.related-requires-clause-has_exp
related-requires-clause-has_exp c = has_right (not_kind Odd c.kind_at.ensures c.in_default.not-Odd) c.after-other.ensures c.requires.has_cond

pub returns-in_default : goal.returns-in_default
returns-in_default c = cond_rel _ _ _ _ _ _ c.args.clock.now c.exp.ensures c.in_ok-x.was (not_kind Odd c.kind_at.ensures c.in_default.not-Odd) _ (to_z-of_z w64 c.in_ok-x.x (search rules)) c.after-other.ensures
    (λ o t e a w sh. rw (c.comparison.ensures o e) at (c.related.ensures t a w sh))

-- The proof of `l_exp`.
use Rattle.std.proofs.Common.{arith, sym, ◌∙◌}
use Rattle.tree.specs.declared.Kind.TheVariants.{Odd}
use Rattle.tree.specs.Kinds.{kind_is}
use Rattle.tree.specs.Parts.{cond_fits, cond_first, has_right}
use Rattle.emission.specs.Passed.{passed}
use Rattle.emission.specs.Drafting.{wrote_at}
use Rattle.emission.proofs.Exps.{cond_odd, cond_stop, cond_rel}
use Rattle.emission.proofs.expressions.l_exp.Goals as goal

pub kind_at-requires : goal.kind_at-requires
kind_at-requires c = (_, c.requires.has_cond.at.stands)

pub overflow_add-i : goal.overflow_add-i
overflow_add-i c = omega (arith, cond_fits c.requires.has_cond.at, c.well_formed)

pub operated-requires : goal.operated-requires
operated-requires c = record { ready = c.requires.ready; has_exp = cond_first _ c.requires.has_cond.at }

pub returns-in-Odd : goal.returns-in-Odd
returns-in-Odd c = cond_odd _ (sym c.in-Odd.ensures) c.operated.ensures

pub exp-requires : goal.exp-requires
exp-requires c = record { ready = c.requires.ready; has_exp = cond_first _ c.requires.has_cond.at }

pub returns-in_err-m-in_default : goal.returns-in_err-m-in_default
returns-in_err-m-in_default c = rw (passed c.from_residual.ensures.1) (cond_stop _ (λ h. c.in_default.not-Odd (kind_is _ Odd (c.kind_at.ensures ∙ h))) _ c.in_err-m-in_default.ensures)

pub after-second-requires : goal.after-second-requires
after-second-requires c = (_, (cond_first _ c.requires.has_cond.at).at.stands)

pub bounds-env-i : goal.bounds-env-i
bounds-env-i c = omega (arith, cond_fits c.requires.has_cond.at, c.well_formed)

pub operated-requires-in_default : goal.operated-requires-in_default
operated-requires-in_default c =
    record {
      ready = record { known = c.requires.ready.known; room = omega (arith, c.requires.ready.room); most = (wrote_at (c.in_ok-m-in_default.ensures _ (cond_first _ c.requires.has_cond.at).at)).most };
      has_exp = has_right (λ h. c.in_default.not-Odd (kind_is _ Odd (c.kind_at.ensures ∙ h))) c.after-second.ensures c.requires.has_cond;
    }

pub returns-in_ok-m-in_default : goal.returns-in_ok-m-in_default
returns-in_ok-m-in_default c = cond_rel _ (λ h. c.in_default.not-Odd (kind_is _ Odd (c.kind_at.ensures ∙ h))) c.in_ok-m-in_default.ensures c.requires.ready.most c.after-second.ensures c.comparison.ensures c.operated-in_default.ensures

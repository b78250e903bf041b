-- `conditions::comparison` meets its contract.
use mathlib.Core.Path.{refl}
use Rattle.lexer.specs.Marks.{equal_sign, unequal_sign, less_sign, at_least_sign, greater_sign, at_most_sign, place_of, same, listed}
use Rattle.lexer.specs.Tokens.{mark}
use Rattle.lexer.specs.declared.token.Token.TheVariants.{Eq, Ne, Lt, Ge, Gt, Le}
use Rattle.grammar.specs.Grammar.{comparisons, comparison_of}
use Rattle.parser.proofs.Conds.{compares_to, compares_none}
use Rattle.parser.proofs.conditions.comparison.Goals as goal

pub returns-in-Eq : goal.returns-in-Eq
unfolding comparison_of listed comparisons same place_of
returns-in-Eq c = compares_to _ Eq (mark equal_sign) _ (λ s. refl) refl c.in-Eq.is

pub returns-in-Ne : goal.returns-in-Ne
unfolding comparison_of listed comparisons same place_of
returns-in-Ne c = compares_to _ Ne (mark unequal_sign) _ (λ s. refl) refl c.in-Ne.is

pub returns-in-Lt : goal.returns-in-Lt
unfolding comparison_of listed comparisons same place_of
returns-in-Lt c = compares_to _ Lt (mark less_sign) _ (λ s. refl) refl c.in-Lt.is

pub returns-in-Ge : goal.returns-in-Ge
unfolding comparison_of listed comparisons same place_of
returns-in-Ge c = compares_to _ Ge (mark at_least_sign) _ (λ s. refl) refl c.in-Ge.is

pub returns-in-Gt : goal.returns-in-Gt
unfolding comparison_of listed comparisons same place_of
returns-in-Gt c = compares_to _ Gt (mark greater_sign) _ (λ s. refl) refl c.in-Gt.is

pub returns-in-Le : goal.returns-in-Le
unfolding comparison_of listed comparisons same place_of
returns-in-Le c = compares_to _ Le (mark at_most_sign) _ (λ s. refl) refl c.in-Le.is

pub returns-in_default : goal.returns-in_default
returns-in_default c = compares_none _ c.in_default.not-Eq c.in_default.not-Ne c.in_default.not-Lt c.in_default.not-Ge c.in_default.not-Gt c.in_default.not-Le

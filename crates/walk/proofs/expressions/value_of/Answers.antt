-- The proof of `value_of`.
use borrow.Author.Rules.{sfits_of}
use mathlib.Core.Path.{◌∙◌}
use mir.Syntax.{w64}
use mir.ValLaws.{to_z-of_z}
use Rattle.walk.proofs.Lookup.{nothing_value, row_lies, row_small, const_value, var_value, other_value}
use Rattle.walk.proofs.expressions.value_of.Goals as goal

pub returns-in_default : goal.returns-in_default
returns-in_default c = λ vs d. nothing_value _ _ _ _ _ (c.find.ensures _ c.requires.known.rows.seen) vs c.in_default.is

pub read_row-symbol-requires : goal.read_row-symbol-requires
read_row-symbol-requires c = row_lies _ _ _ _ _ (c.find.ensures _ c.requires.known.rows.seen) _ c.in-Some.is c.requires.known.rows.sound

pub whole-requires : goal.whole-requires
whole-requires c = row_small _ _ _ _ _ (c.find.ensures _ c.requires.known.rows.seen) _ c.in-Some.is _ c.read_row-symbol.ensures c.requires.known.rows.small

pub returns-in-Constant : goal.returns-in-Constant
returns-in-Constant c = λ vs d. to_z-of_z w64 _ (sfits_of c.whole.type_inv) ∙ c.whole.ensures ∙ const_value _ _ _ _ _ (c.find.ensures _ c.requires.known.rows.seen) _ c.in-Some.is _ c.read_row-symbol.ensures vs c.in-Constant.is

pub returns-in-Variable : goal.returns-in-Variable
returns-in-Variable c = λ vs d. to_z-of_z w64 _ (sfits_of c.variable.type_inv) ∙ var_value _ _ _ _ _ (c.find.ensures _ c.requires.known.rows.seen) _ c.in-Some.is _ c.read_row-symbol.ensures vs _ _ c.in-Variable.is c.place_of.ensures (c.variable.ensures vs d)

pub returns-in-Procedure : goal.returns-in-Procedure
returns-in-Procedure c = λ vs d. other_value _ _ _ _ _ (c.find.ensures _ c.requires.known.rows.seen) _ c.in-Some.is _ c.read_row-symbol.ensures vs c.in-Procedure.is

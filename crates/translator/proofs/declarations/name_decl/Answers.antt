-- The proof of `name_decl`.
use mathlib.Core.Path.{ap}
use Rattle.symbols.specs.declared.Symbol.{Symbol}
use Rattle.symbols.specs.Table.{rows_in}
use Rattle.tree.specs.Parts.{name_in_lem}
use Rattle.translator.proofs.Rowing.{name_row, var_declares, no_procedure}
use Rattle.translator.proofs.declarations.name_decl.Goals as goal

pub variable-y-requires : goal.variable-y-requires
variable-y-requires c = (name_in_lem c.requires.has_name.at).1

pub enter-requires : goal.enter-requires
enter-requires c = var_declares c.variable-y.ensures c.requires.can c.requires.has_name

pub returns-then-checked : goal.returns-then-checked
returns-then-checked c = name_row _ (rows_in _ _ _) c.if-checked.true c.variable-y.ensures c.enter.ensures

pub add-requires-clause-declares : goal.add-requires-clause-declares
add-requires-clause-declares c = var_declares c.variable-y.ensures c.requires.can c.requires.has_name

pub add-requires-clause-new_procedure : goal.add-requires-clause-new_procedure
add-requires-clause-new_procedure c = no_procedure _ (ap (λ (y : Symbol). y.kind) c.variable-y.ensures)

pub returns-else-checked : goal.returns-else-checked
returns-else-checked c = name_row _ (rows_in _ _ _) c.if-checked.false c.variable-y.ensures c.add.ensures

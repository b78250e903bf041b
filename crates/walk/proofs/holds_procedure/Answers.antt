-- The proof of `holds_procedure`.
use mathlib.Core.Path.{sym}
use Rattle.tree.specs.Kinds.{not_kind}
use Rattle.tree.specs.declared.Kind.TheVariants.{Procedure}
use Rattle.walk.proofs.Whole.{consts_at, names_at, procs_at, procs_some, procs_none}
use Rattle.walk.proofs.holds_procedure.Goals as goal

pub after-names-requires : goal.after-names-requires
after-names-requires c = (_, (consts_at _ c.requires.1).one)

pub after-procedures-requires : goal.after-procedures-requires
after-procedures-requires c = (_, (names_at _ c.requires.1 c.after-names.ensures).one)

pub kind_at-requires : goal.kind_at-requires
kind_at-requires c = (_, (procs_at _ c.requires.1 c.after-names.ensures c.after-procedures.ensures).one)

pub returns-in-Procedure : goal.returns-in-Procedure
returns-in-Procedure c = λ b st. procs_some b st c.after-names.ensures c.after-procedures.ensures (sym c.in-Procedure.ensures)

pub returns-in_default : goal.returns-in_default
returns-in_default c = λ b st. procs_none b st c.after-names.ensures c.after-procedures.ensures (not_kind Procedure c.kind_at.ensures c.in_default.not-Procedure)

-- The proof of `walk_tree`.
use native.Mathlib.Omega.{arith}
use mathlib.Core.Path.{refl}
use Rattle.walk.specs.declared.expressions.Env.{Env}
use Rattle.walk.proofs.Whole.{consts_at, names_at, procs_at, main_in, few_vars, rows_here, start_held, whole_walked}
use Rattle.walk.proofs.walk_tree.Goals as goal

pub after-names-requires : goal.after-names-requires
after-names-requires c = (_, (consts_at _ c.requires.has_tree.at.stands).one)

pub after-procedures-requires : goal.after-procedures-requires
after-procedures-requires c = (_, (names_at _ c.requires.has_tree.at.stands c.after-names.ensures).one)

pub after-main-requires : goal.after-main-requires
after-main-requires c = (_, (procs_at _ c.requires.has_tree.at.stands c.after-names.ensures c.after-procedures.ensures).one)

pub overflow_add-names : goal.overflow_add-names
overflow_add-names c =
    let p = names_at _ c.requires.has_tree.at.stands c.after-names.ensures in
    omega (arith, p.fits, p.least, c.well_formed)

pub number_at-requires : goal.number_at-requires
number_at-requires c =
    let p = names_at _ c.requires.has_tree.at.stands c.after-names.ensures in
    omega (arith, p.fits, p.least, c.well_formed)

pub main_part-answer-requires : goal.main_part-answer-requires
main_part-answer-requires c =
    let e : Env = record { text = c.args.text; tree = c.args.tree; table = c.args.table; used = c.args.used; vars = c.number_at.result } in
    record {
      rows = rows_here e c.after-names.ensures c.number_at.ensures c.requires.has_tree.at;
      has_stmt = record { stmt = _; at = main_in c.requires.has_tree.at c.after-names.ensures c.after-procedures.ensures c.after-main.ensures };
      has_state = start_held e c.after-names.ensures c.number_at.ensures (omega (arith, c.well_formed)) c.requires.vars_cleared c.requires.has_tree.at;
      at_start = refl;
      few = few_vars e c.after-names.ensures c.number_at.ensures c.requires.has_tree.at;
    }

pub returns : goal.returns
returns c =
    let e : Env = record { text = c.args.text; tree = c.args.tree; table = c.args.table; used = c.args.used; vars = c.number_at.result } in
    whole_walked e c.after-names.ensures c.number_at.ensures (omega (arith, c.well_formed)) c.requires.vars_cleared c.after-procedures.ensures c.after-main.ensures c.main_part-answer.ensures

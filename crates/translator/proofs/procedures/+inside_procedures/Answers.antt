-- The proof of the cycle of calls of blocks and procedures.
use native.Mathlib.Omega.{arith}
use mathlib.Core.Path.{refl, sym, ◌∙◌}
use Rattle.tree.specs.declared.Kind.TheVariants.{NoProcedures}
use Rattle.tree.specs.Kinds.{not_kind}
use Rattle.emission.specs.Passed.{passed}
use Rattle.translator.proofs.Rowing.{head_numbers}
use Rattle.translator.proofs.Insides.{consts_at, vars_at, procs_at, vars_fit, procs_fit, consts_stop, vars_can, vars_stop, place_start, procs_made}
use Rattle.translator.proofs.Nested.{none_here, of_proc, has_nested, head_stop, size_small, jump_stop, inner_start, inside_stop, entered, env_known, end_stop, later_start, later_made}
use Rattle.translator.proofs.procedures.+inside_procedures.Goals as goal

pub inside-after-vars-requires : goal.inside-after-vars-requires
inside-after-vars-requires t c =
    (_, (consts_at c.requires.has_inside.at).stands)

pub inside-after-procs-requires : goal.inside-after-procs-requires
inside-after-procs-requires t c =
    (_, (vars_at c.requires.has_inside.at c.after-vars.ensures).stands)

pub inside-const_decl-requires-clause-has_consts : goal.inside-const_decl-requires-clause-has_consts
inside-const_decl-requires-clause-has_consts t c =
    record { list = c.requires.has_inside.consts; at = consts_at c.requires.has_inside.at }

pub inside-returns-in_err-u : goal.inside-returns-in_err-u
inside-returns-in_err-u t c =
    rw (passed c.from_residual.ensures.1) (consts_stop c.args.source.now.text.now c.args.source.now.tree.now c.args.table.now c.args.draft.now c.args.i c.args.p c.requires.start c.in_err-u.ensures)

pub inside-names_decl-requires-clause-can : goal.inside-names_decl-requires-clause-can
inside-names_decl-requires-clause-can t c =
    vars_can c.args.source.now.text.now c.args.source.now.tree.now c.args.table.now c.args.draft.now c.args.i c.args.p c.requires.start c.in_ok-u.ensures c.requires.has_inside

pub inside-names_decl-requires-clause-has_names : goal.inside-names_decl-requires-clause-has_names
inside-names_decl-requires-clause-has_names t c =
    record { list = c.requires.has_inside.vars; at = vars_at c.requires.has_inside.at c.after-vars.ensures }

pub inside-returns-in_err-used : goal.inside-returns-in_err-used
inside-returns-in_err-used t c =
    rw (passed c.from_residual-in_err-used.ensures.1) (vars_stop c.args.source.now.text.now c.args.source.now.tree.now c.args.table.now c.args.draft.now c.args.i c.args.p c.requires.start c.in_ok-u.ensures c.after-vars.ensures c.in_err-used.ensures)

pub inside-overflow_add-frame : goal.inside-overflow_add-frame
inside-overflow_add-frame t c =
    omega (arith, (vars_fit c.requires.has_inside.at c.after-vars.ensures).1, c.well_formed)

pub inside-offset_bounds-source-vars : goal.inside-offset_bounds-source-vars
inside-offset_bounds-source-vars t c =
    omega (arith, (vars_fit c.requires.has_inside.at c.after-vars.ensures).1, c.well_formed)

pub inside-bounds-source-vars : goal.inside-bounds-source-vars
inside-bounds-source-vars t c =
    omega (arith, (vars_fit c.requires.has_inside.at c.after-vars.ensures).1, c.well_formed)

pub inside-overflow_add-frame-2 : goal.inside-overflow_add-frame-2
inside-overflow_add-frame-2 t c =
    let w = place_start c.args.source.now.text.now c.args.source.now.tree.now c.args.table.now c.args.draft.now c.args.i c.args.p c.requires.start c.in_ok-u.ensures c.after-vars.ensures c.in_ok-used.ensures c.requires.has_inside {es = c.args.draft.now} refl in
    omega (arith, w.low, w.sound.linked.most)

pub inside-procedures-requires : goal.inside-procedures-requires
inside-procedures-requires t c =
    let f = procs_fit c.requires.has_inside.at c.after-vars.ensures c.after-procs.ensures in
    (omega (arith, c.decreases, f.0, f.1), (place_start c.args.source.now.text.now c.args.source.now.tree.now c.args.table.now c.args.draft.now c.args.i c.args.p c.requires.start c.in_ok-u.ensures c.after-vars.ensures c.in_ok-used.ensures c.requires.has_inside refl, record { procs = c.requires.has_inside.procs; at = procs_at c.requires.has_inside.at c.after-vars.ensures c.after-procs.ensures }))

pub inside-returns : goal.inside-returns
inside-returns t c =
    procs_made c.args.source.now.text.now c.args.source.now.tree.now c.args.table.now c.args.draft.now c.args.i c.args.p c.requires.start c.in_ok-u.ensures c.after-vars.ensures c.in_ok-used.ensures c.after-procs.ensures c.procedures.ensures

pub procedures-returns-in-NoProcedures : goal.procedures-returns-in-NoProcedures
procedures-returns-in-NoProcedures t c =
    none_here _ (sym c.in-NoProcedures.ensures) c.requires.start _

pub procedures-heading-requires : goal.procedures-heading-requires
procedures-heading-requires t c =
    let m = has_nested (not_kind NoProcedures c.kind_at.ensures c.in_default.not-NoProcedures) c.requires.has_procs in
    record {
      can = record { sound = c.requires.start.sound; scoped = c.requires.start.scoped; low = c.requires.start.low };
      level_le_used = c.requires.start.level;
      has_heading = record { name = m.name; args = m.args; at = m.at.heading };
    }

pub procedures-returns-in_err-u : goal.procedures-returns-in_err-u
procedures-returns-in_err-u t c =
    rw (passed c.from_residual.ensures.1) (of_proc _ (not_kind NoProcedures c.kind_at.ensures c.in_default.not-NoProcedures) (λ n ar cs vs inner b later x. head_stop c.args.source.now.text.now c.args.source.now.tree.now c.args.table.now c.args.draft.now c.args.i c.args.p c.requires.start x (c.in_err-u.ensures n ar x.heading)))

pub procedures-emit-requires : goal.procedures-emit-requires
procedures-emit-requires t c =
    c.requires.start.room

pub procedures-returns-in_err-m : goal.procedures-returns-in_err-m
procedures-returns-in_err-m t c =
    rw (passed c.from_residual-in_err-m.ensures.1) (of_proc _ (not_kind NoProcedures c.kind_at.ensures c.in_default.not-NoProcedures) (λ n ar cs vs inner b later x. jump_stop c.args.source.now.text.now c.args.source.now.tree.now c.args.table.now c.args.draft.now c.args.i c.args.p c.requires.start x (c.in_ok-u.ensures n ar x.heading) c.in_err-m.ensures))

pub procedures-bounds-source-i : goal.procedures-bounds-source-i
procedures-bounds-source-i t c =
    let m = has_nested (not_kind NoProcedures c.kind_at.ensures c.in_default.not-NoProcedures) c.requires.has_procs in
    omega (arith, (head_numbers m.at.heading).fits)

pub procedures-overflow_add-frame : goal.procedures-overflow_add-frame
procedures-overflow_add-frame t c =
    let m = has_nested (not_kind NoProcedures c.kind_at.ensures c.in_default.not-NoProcedures) c.requires.has_procs in
    omega (arith, size_small c.args.source.now.text.now c.args.source.now.tree.now c.args.table.now c.args.draft.now c.args.i c.args.p c.requires.start m.at (c.in_ok-u.ensures m.name m.args m.at.heading))

pub procedures-after-consts-requires : goal.procedures-after-consts-requires
procedures-after-consts-requires t c =
    let m = has_nested (not_kind NoProcedures c.kind_at.ensures c.in_default.not-NoProcedures) c.requires.has_procs in
    (_, (head_numbers m.at.heading).args_at.stands)

pub procedures-inside-requires : goal.procedures-inside-requires
procedures-inside-requires t c =
    let m = has_nested (not_kind NoProcedures c.kind_at.ensures c.in_default.not-NoProcedures) c.requires.has_procs in
    let f = m.at.inside_fits c.after-consts.ensures in
    (omega (arith, c.decreases, f.0, f.1), (inner_start c.args.source.now.text.now c.args.source.now.tree.now c.args.table.now c.args.draft.now c.args.i c.args.p c.requires.start m.at (c.in_ok-u.ensures m.name m.args m.at.heading) c.in_ok-m.ensures c.emit.auto.draft, record { consts = m.consts; vars = m.vars; procs = m.inner; at = m.at.inside c.after-consts.ensures }))

pub procedures-returns-in_err-q : goal.procedures-returns-in_err-q
procedures-returns-in_err-q t c =
    rw (passed c.from_residual-in_err-q.ensures.1) (of_proc _ (not_kind NoProcedures c.kind_at.ensures c.in_default.not-NoProcedures) (λ n ar cs vs inner b later x. inside_stop c.args.source.now.text.now c.args.source.now.tree.now c.args.table.now c.args.draft.now c.args.i c.args.p c.requires.start x (c.in_ok-u.ensures n ar x.heading) c.in_ok-m.ensures (c.in_err-q.ensures cs vs inner (x.inside c.after-consts.ensures))))

pub procedures-overflow_cast-q : goal.procedures-overflow_cast-q
procedures-overflow_cast-q t c =
    let m = has_nested (not_kind NoProcedures c.kind_at.ensures c.in_default.not-NoProcedures) c.requires.has_procs in
    let e = entered c.args.source.now.text.now c.args.source.now.tree.now c.args.table.now c.args.draft.now c.args.i c.args.p c.requires.start m.at (c.in_ok-u.ensures m.name m.args m.at.heading) c.in_ok-m.ensures (c.in_ok-q.ensures m.consts m.vars m.inner (m.at.inside c.after-consts.ensures)) in
    omega (arith, e.2)

pub procedures-set_entry-requires : goal.procedures-set_entry-requires
procedures-set_entry-requires t c =
    let m = has_nested (not_kind NoProcedures c.kind_at.ensures c.in_default.not-NoProcedures) c.requires.has_procs in
    let e = entered c.args.source.now.text.now c.args.source.now.tree.now c.args.table.now c.args.draft.now c.args.i c.args.p c.requires.start m.at (c.in_ok-u.ensures m.name m.args m.at.heading) c.in_ok-m.ensures (c.in_ok-q.ensures m.consts m.vars m.inner (m.at.inside c.after-consts.ensures)) in
    omega (arith, e.0, e.1, e.3.linked.room)

pub procedures-see-requires : goal.procedures-see-requires
procedures-see-requires t c =
    let m = has_nested (not_kind NoProcedures c.kind_at.ensures c.in_default.not-NoProcedures) c.requires.has_procs in
    let e = entered c.args.source.now.text.now c.args.source.now.tree.now c.args.table.now c.args.draft.now c.args.i c.args.p c.requires.start m.at (c.in_ok-u.ensures m.name m.args m.at.heading) c.in_ok-m.ensures (c.in_ok-q.ensures m.consts m.vars m.inner (m.at.inside c.after-consts.ensures)) in
    record {
      linked = (c.set_entry.ensures c.args.source.now.text.now _ e.3 e.0).sound.linked;
      scope_le_used = omega (arith, e.0);
    }

pub procedures-overflow_add-q : goal.procedures-overflow_add-q
procedures-overflow_add-q t c =
    let m = has_nested (not_kind NoProcedures c.kind_at.ensures c.in_default.not-NoProcedures) c.requires.has_procs in
    let e = entered c.args.source.now.text.now c.args.source.now.tree.now c.args.table.now c.args.draft.now c.args.i c.args.p c.requires.start m.at (c.in_ok-u.ensures m.name m.args m.at.heading) c.in_ok-m.ensures (c.in_ok-q.ensures m.consts m.vars m.inner (m.at.inside c.after-consts.ensures)) in
    omega (arith, e.2, size_small c.args.source.now.text.now c.args.source.now.tree.now c.args.table.now c.args.draft.now c.args.i c.args.p c.requires.start m.at (c.in_ok-u.ensures m.name m.args m.at.heading))

pub procedures-fix-requires : goal.procedures-fix-requires
procedures-fix-requires t c =
    let m = has_nested (not_kind NoProcedures c.kind_at.ensures c.in_default.not-NoProcedures) c.requires.has_procs in
    let e = entered c.args.source.now.text.now c.args.source.now.tree.now c.args.table.now c.args.draft.now c.args.i c.args.p c.requires.start m.at (c.in_ok-u.ensures m.name m.args m.at.heading) c.in_ok-m.ensures (c.in_ok-q.ensures m.consts m.vars m.inner (m.at.inside c.after-consts.ensures)) in
    record {
      draft_places_in_bounds = omega (arith, c.requires.start.room, c.inside.auto.draft ∙ c.emit.auto.draft);
      p_lt_max_code = (e.4, omega (arith, e.2, size_small c.args.source.now.text.now c.args.source.now.tree.now c.args.table.now c.args.draft.now c.args.i c.args.p c.requires.start m.at (c.in_ok-u.ensures m.name m.args m.at.heading)));
    }

pub procedures-after-vars-requires : goal.procedures-after-vars-requires
procedures-after-vars-requires t c =
    let m = has_nested (not_kind NoProcedures c.kind_at.ensures c.in_default.not-NoProcedures) c.requires.has_procs in
    (_, (consts_at (m.at.inside c.after-consts.ensures)).stands)

pub procedures-after-requires : goal.procedures-after-requires
procedures-after-requires t c =
    let m = has_nested (not_kind NoProcedures c.kind_at.ensures c.in_default.not-NoProcedures) c.requires.has_procs in
    (_, (vars_at (m.at.inside c.after-consts.ensures) c.after-vars.ensures).stands)

pub procedures-after-main-requires : goal.procedures-after-main-requires
procedures-after-main-requires t c =
    let m = has_nested (not_kind NoProcedures c.kind_at.ensures c.in_default.not-NoProcedures) c.requires.has_procs in
    (_, (procs_at (m.at.inside c.after-consts.ensures) c.after-vars.ensures c.after.ensures).stands)

pub procedures-ending-requires : goal.procedures-ending-requires
procedures-ending-requires t c =
    let m = has_nested (not_kind NoProcedures c.kind_at.ensures c.in_default.not-NoProcedures) c.requires.has_procs in
    let e = entered c.args.source.now.text.now c.args.source.now.tree.now c.args.table.now c.args.draft.now c.args.i c.args.p c.requires.start m.at (c.in_ok-u.ensures m.name m.args m.at.heading) c.in_ok-m.ensures (c.in_ok-q.ensures m.consts m.vars m.inner (m.at.inside c.after-consts.ensures)) in
    let w = c.set_entry.ensures c.args.source.now.text.now _ e.3 e.0 in
    let v = c.see.ensures.rows_stay c.args.source.now.text.now w.sound in
    record {
      ready = record { known = env_known c.args.source.now.text.now c.args.source.now.tree.now c.args.table.now c.args.draft.now c.args.i c.args.p c.requires.start m.at (c.in_ok-u.ensures m.name m.args m.at.heading) c.in_ok-m.ensures (c.in_ok-q.ensures m.consts m.vars m.inner (m.at.inside c.after-consts.ensures)) w v _ (record { text = refl; table = refl; used = refl; scope = refl; level = refl }) c.see.ensures.seen; room = omega (arith, c.requires.start.room, c.fix.auto.draft ∙ c.inside.auto.draft ∙ c.emit.auto.draft); most = e.2 };
      has_body = record { stmts = m.stmts; at = m.at.body c.after-consts.ensures c.after-vars.ensures c.after.ensures c.after-main.ensures };
      count_le_max_code = size_small c.args.source.now.text.now c.args.source.now.tree.now c.args.table.now c.args.draft.now c.args.i c.args.p c.requires.start m.at (c.in_ok-u.ensures m.name m.args m.at.heading);
    }

pub procedures-returns-in_err-z : goal.procedures-returns-in_err-z
procedures-returns-in_err-z t c =
    rw (passed c.from_residual-in_err-z.ensures.1) (of_proc _ (not_kind NoProcedures c.kind_at.ensures c.in_default.not-NoProcedures) (λ n ar cs vs inner b later x.
    let e = entered c.args.source.now.text.now c.args.source.now.tree.now c.args.table.now c.args.draft.now c.args.i c.args.p c.requires.start x (c.in_ok-u.ensures n ar x.heading) c.in_ok-m.ensures (c.in_ok-q.ensures cs vs inner (x.inside c.after-consts.ensures)) in
    let w = c.set_entry.ensures c.args.source.now.text.now _ e.3 e.0 in
    let v = c.see.ensures.rows_stay c.args.source.now.text.now w.sound in
    end_stop c.args.source.now.text.now c.args.source.now.tree.now c.args.table.now c.args.draft.now c.args.i c.args.p c.requires.start x (c.in_ok-u.ensures n ar x.heading) c.in_ok-m.ensures (c.in_ok-q.ensures cs vs inner (x.inside c.after-consts.ensures)) w v _ (record { text = refl; table = refl; used = refl; scope = refl; level = refl }) c.fix.ensures (c.in_err-z.ensures b (x.body c.after-consts.ensures c.after-vars.ensures c.after.ensures c.after-main.ensures))))

pub procedures-after-requires-2 : goal.procedures-after-requires-2
procedures-after-requires-2 t c =
    let m = has_nested (not_kind NoProcedures c.kind_at.ensures c.in_default.not-NoProcedures) c.requires.has_procs in
    (_, (m.at.body c.after-consts.ensures c.after-vars.ensures c.after.ensures c.after-main.ensures).stands)

pub procedures-procedures-requires : goal.procedures-procedures-requires
procedures-procedures-requires t c =
    let m = has_nested (not_kind NoProcedures c.kind_at.ensures c.in_default.not-NoProcedures) c.requires.has_procs in
    let e = entered c.args.source.now.text.now c.args.source.now.tree.now c.args.table.now c.args.draft.now c.args.i c.args.p c.requires.start m.at (c.in_ok-u.ensures m.name m.args m.at.heading) c.in_ok-m.ensures (c.in_ok-q.ensures m.consts m.vars m.inner (m.at.inside c.after-consts.ensures)) in
    let w = c.set_entry.ensures c.args.source.now.text.now _ e.3 e.0 in
    let v = c.see.ensures.rows_stay c.args.source.now.text.now w.sound in
    let f = m.at.later_fits c.after-consts.ensures c.after-vars.ensures c.after.ensures c.after-main.ensures c.after-2.ensures in
    (omega (arith, c.decreases, f.0, f.1), (later_start c.args.source.now.text.now c.args.source.now.tree.now c.args.table.now c.args.draft.now c.args.i c.args.p c.requires.start m.at (c.in_ok-u.ensures m.name m.args m.at.heading) c.in_ok-m.ensures (c.in_ok-q.ensures m.consts m.vars m.inner (m.at.inside c.after-consts.ensures)) w v _ (record { text = refl; table = refl; used = refl; scope = refl; level = refl }) c.fix.ensures (c.in_ok-z.ensures m.stmts (m.at.body c.after-consts.ensures c.after-vars.ensures c.after.ensures c.after-main.ensures)) (c.ending.auto.draft ∙ c.fix.auto.draft ∙ c.inside.auto.draft ∙ c.emit.auto.draft), record { procs = m.later; at = m.at.later_at c.after-consts.ensures c.after-vars.ensures c.after.ensures c.after-main.ensures c.after-2.ensures }))

pub procedures-returns : goal.procedures-returns
procedures-returns t c =
    of_proc _ (not_kind NoProcedures c.kind_at.ensures c.in_default.not-NoProcedures) (λ n ar cs vs inner b later x.
    let e = entered c.args.source.now.text.now c.args.source.now.tree.now c.args.table.now c.args.draft.now c.args.i c.args.p c.requires.start x (c.in_ok-u.ensures n ar x.heading) c.in_ok-m.ensures (c.in_ok-q.ensures cs vs inner (x.inside c.after-consts.ensures)) in
    let w = c.set_entry.ensures c.args.source.now.text.now _ e.3 e.0 in
    let v = c.see.ensures.rows_stay c.args.source.now.text.now w.sound in
    later_made c.args.source.now.text.now c.args.source.now.tree.now c.args.table.now c.args.draft.now c.args.i c.args.p c.requires.start x (c.in_ok-u.ensures n ar x.heading) c.in_ok-m.ensures (c.in_ok-q.ensures cs vs inner (x.inside c.after-consts.ensures)) w v _ (record { text = refl; table = refl; used = refl; scope = refl; level = refl }) c.fix.ensures (c.in_ok-z.ensures b (x.body c.after-consts.ensures c.after-vars.ensures c.after.ensures c.after-main.ensures)) (c.procedures.ensures later (x.later_at c.after-consts.ensures c.after-vars.ensures c.after.ensures c.after-main.ensures c.after-2.ensures)))

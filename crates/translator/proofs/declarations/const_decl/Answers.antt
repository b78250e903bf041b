-- The proof of `const_decl`.
use native.Mathlib.Omega.{arith}
use mathlib.Core.Path.{refl}
use Rattle.symbols.specs.Table.{rows_in}
use Rattle.emission.specs.Passed.{passed}
use Rattle.translator.proofs.Rowing.{const_numbers, const_declares, const_row_lem, const_each, as_const, rowed_at, grows_start, grows_more, rows_start, rows_head, rows_stop, rows_more, rows_done, same_rows, list_fits}
use Rattle.translator.proofs.declarations.const_decl.Goals as goal

pub overflow_add-j : goal.overflow_add-j
overflow_add-j c = omega (arith, list_fits c.requires.has_consts.at, c.well_formed)

pub overflow_add-end : goal.overflow_add-end
overflow_add-end c = omega (arith, list_fits c.requires.has_consts.at, c.well_formed)

pub offset_bounds-source-i : goal.offset_bounds-source-i
offset_bounds-source-i c = omega (arith, list_fits c.requires.has_consts.at, c.well_formed)

pub bounds-source-i : goal.bounds-source-i
bounds-source-i c = omega (arith, list_fits c.requires.has_consts.at, c.well_formed)

pub loop-init : goal.loop-init
loop-init c = (grows_start c.requires.can, rows_start _ _ _ _ _ _ _ _ _ refl)

pub constant-requires : goal.constant-requires
constant-requires c =
    let d = rows_head _ _ _ _ _ _ _ _ _ c.loop.invariant.1 c.loop-test.true c.requires.has_consts.list c.requires.has_consts.at in
    (const_numbers (record { stands = d.stands; named = d.named })).fits

pub enter-requires : goal.enter-requires
enter-requires c =
    let d = rows_head _ _ _ _ _ _ _ _ _ c.loop.invariant.1 c.loop-test.true c.requires.has_consts.list c.requires.has_consts.at in
    const_declares c.constant.ensures c.loop.invariant.0.sound c.loop.invariant.0.scoped (record { stands = d.stands; named = d.named })

pub returns-in_err-used : goal.returns-in_err-used
returns-in_err-used c = λ l x.
    let w = as_const _ _ c.loop.invariant.0 (const_row_lem _ (rows_in _ _ _) c.constant.ensures c.in_err-used.ensures) in
    rw (passed c.from_residual.ensures.1) (same_rows (const_each _ _ _ _ l) (rows_stop _ _ _ _ _ _ _ _ _ c.loop.invariant.1 c.loop-test.true w _ l x))

pub after-j-requires : goal.after-j-requires
after-j-requires c =
    let d = rows_head _ _ _ _ _ _ _ _ _ c.loop.invariant.1 c.loop-test.true c.requires.has_consts.list c.requires.has_consts.at in
    (_, d.stands)

pub loop-preserved : goal.loop-preserved
loop-preserved c =
    let d = rows_head _ _ _ _ _ _ _ _ _ c.loop.invariant.1 c.loop-test.true c.requires.has_consts.list c.requires.has_consts.at in
    let h = const_row_lem _ (rows_in _ _ _) c.constant.ensures c.in_ok-used.ensures in
    (grows_more c.loop.invariant.0 (rowed_at (h d.head (record { stands = d.stands; named = d.named }))), rows_more _ _ _ _ _ _ _ _ _ c.loop.invariant.1 c.loop-test.true (as_const _ _ c.loop.invariant.0 h) c.after-j.ensures)

pub returns : goal.returns
returns c = λ l x. same_rows (const_each _ _ _ _ l) (rows_done _ _ _ _ _ _ _ _ _ c.loop.invariant.1 c.loop-test.false refl c.loop.invariant.0 l x)

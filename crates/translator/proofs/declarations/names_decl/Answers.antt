-- The proof of `names_decl`.
use native.Mathlib.Omega.{arith}
use mathlib.Core.Path.{refl}
use Rattle.emission.specs.Passed.{passed}
use Rattle.translator.proofs.Rowing.{names_each, as_name, name_one, rowed_at, grows_start, grows_more, rows_start, rows_head, rows_stop, rows_more, rows_done, same_rows, list_fits}
use Rattle.translator.proofs.declarations.names_decl.Goals as goal

pub overflow_add-j : goal.overflow_add-j
overflow_add-j c = omega (arith, list_fits c.requires.has_names.at, c.well_formed)

pub overflow_add-end : goal.overflow_add-end
overflow_add-end c = omega (arith, list_fits c.requires.has_names.at, c.well_formed)

pub offset_bounds-source-i : goal.offset_bounds-source-i
offset_bounds-source-i c = omega (arith, list_fits c.requires.has_names.at, c.well_formed)

pub bounds-source-i : goal.bounds-source-i
bounds-source-i c = omega (arith, list_fits c.requires.has_names.at, c.well_formed)

pub loop-init : goal.loop-init
loop-init c = (grows_start c.requires.can, c.requires.can.low, rows_start _ _ _ _ _ _ _ _ _ refl)

pub name_decl-requires : goal.name_decl-requires
name_decl-requires c =
    let d = rows_head _ _ _ _ _ _ _ _ _ c.loop.invariant.2 c.loop-test.true c.requires.has_names.list c.requires.has_names.at in
    record {
      can = record { sound = c.loop.invariant.0.sound; scoped = c.loop.invariant.0.scoped; low = c.loop.invariant.1 };
      has_name = record { name = d.head; at = record { stands = d.stands; named = d.named } };
    }

pub returns-in_err-used : goal.returns-in_err-used
returns-in_err-used c = λ l x.
    rw (passed c.from_residual.ensures.1) (same_rows (names_each c.args.checked _ _ _ _ l) (rows_stop _ _ _ _ _ _ _ _ _ c.loop.invariant.2 c.loop-test.true (as_name _ _ c.loop.invariant.0 c.args.checked c.in_err-used.ensures) _ l x))

pub overflow_add-address : goal.overflow_add-address
overflow_add-address c = omega (arith, c.loop.invariant.1, c.loop.invariant.0.sound.linked.most)

pub after-j-requires : goal.after-j-requires
after-j-requires c =
    let d = rows_head _ _ _ _ _ _ _ _ _ c.loop.invariant.2 c.loop-test.true c.requires.has_names.list c.requires.has_names.at in
    (_, d.stands)

pub loop-preserved : goal.loop-preserved
loop-preserved c =
    let d = rows_head _ _ _ _ _ _ _ _ _ c.loop.invariant.2 c.loop-test.true c.requires.has_names.list c.requires.has_names.at in
    let w = rowed_at (c.in_ok-used.ensures d.head (record { stands = d.stands; named = d.named })) in
    (grows_more c.loop.invariant.0 w, omega (arith, c.loop.invariant.1, name_one c.args.checked _ w), rows_more _ _ _ _ _ _ _ _ _ c.loop.invariant.2 c.loop-test.true (as_name _ _ c.loop.invariant.0 c.args.checked c.in_ok-used.ensures) c.after-j.ensures)

pub returns : goal.returns
returns c = λ l x. same_rows (names_each c.args.checked _ _ _ _ l) (rows_done _ _ _ _ _ _ _ _ _ c.loop.invariant.2 c.loop-test.false refl c.loop.invariant.0 l x)

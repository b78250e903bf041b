-- `lists::list` meets its contract. The loop's invariant: so many lines are written, and the definition goes on from there.
use mathlib.Core.Path.{ap}
use native.Mathlib.Omega.{arith}
use Rattle.numbers.proofs.Screens.{wrote_as}
use Rattle.pcode.specs.Code.{Code, Instr, instrs_in}
use Rattle.listing.specs.Listing.{line_of}
use Rattle.listing.specs.Outcome.{list_outcome}
use Rattle.listing.proofs.Standing.{stands_none, stands_more, stands_full, stands_all, too_many_lem}
use Rattle.listing.proofs.lists.list.Goals as goal

pub returns-then-places-gt-MAX_CODE : goal.returns-then-places-gt-MAX_CODE
unfolding list_outcome
returns-then-places-gt-MAX_CODE c =
    let a = c.args in
    let code : Code = record { kinds = a.kinds.now; levels = a.levels.now; operands = a.operands.now } in
    rw c.number.ensures (too_many_lem (instrs_in code) a.out.now (omega (arith, c.if-places-gt-MAX_CODE.true, c.len-places.ensures)))

pub loop-i-init : goal.loop-i-init
loop-i-init c =
    let a = c.args in
    let code : Code = record { kinds = a.kinds.now; levels = a.levels.now; operands = a.operands.now } in
    stands_none (instrs_in code) a.out.now

pub get-requires : goal.get-requires
get-requires c = omega (arith, c.loop-i-test.true, c.len-places.ensures)

pub returns-in-Err : goal.returns-in-Err
unfolding list_outcome
returns-in-Err c =
    let a = c.args in
    let code : Code = record { kinds = a.kinds.now; levels = a.levels.now; operands = a.operands.now } in
    let line = rw (c.in-Err.is, c.get.ensures) at c.put_line.ensures in
    rw (c.cut_short.ensures.0, c.cut_short.ensures.1, line.0) (stands_full (instrs_in code) a.out.now c.loop-i.invariant (omega (arith, c.loop-i-test.true, c.len-places.ensures)) (omega (arith, c.if-places-gt-MAX_CODE.false, c.len-places.ensures)) line.1)

pub loop-i-preserved : goal.loop-i-preserved
loop-i-preserved c =
    let a = c.args in
    let code : Code = record { kinds = a.kinds.now; levels = a.levels.now; operands = a.operands.now } in
    let line = rw c.in-Ok.is at c.put_line.ensures in
    stands_more (instrs_in code) a.out.now c.loop-i.invariant (omega (arith, c.loop-i-test.true, c.len-places.ensures)) (wrote_as (ap (λ (x : Instr). line_of c.loop-i.i x) c.get.ensures) line)

pub returns : goal.returns
unfolding list_outcome
returns c =
    let a = c.args in
    let code : Code = record { kinds = a.kinds.now; levels = a.levels.now; operands = a.operands.now } in
    stands_all (instrs_in code) a.out.now c.loop-i.invariant (omega (arith, c.loop-i-test.false, c.len-places.ensures)) (omega (arith, c.if-places-gt-MAX_CODE.false, c.len-places.ensures))

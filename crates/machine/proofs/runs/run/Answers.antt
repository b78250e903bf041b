-- `run`: too little room, too long a list, or the counted run from zeroed cells.
use Rattle.std.proofs.Common.{refl, drop, arith, ap, ℤ, List, ◌++◌}
use Rattle.numbers.specs.Limits.{max_cells}
use Rattle.pcode.specs.Code.{Code}
use Rattle.machine.proofs.RunLaws.{listed, zeroed_by, outcome_small, outcome_many, outcome_run}
use Rattle.machine.proofs.runs.run.Goals as goal

pub returns-in_default : goal.returns-in_default
returns-in_default c =
    let a = c.args in
    let code : Code = record { kinds = a.kinds.now; levels = a.levels.now; operands = a.operands.now } in
    outcome_small code a.input.now a.budget a.out.now a.cells.now c.refused.result c.in_default.ensures.cases c.refused.ensures

pub returns-then-places-gt-MAX_CODE : goal.returns-then-places-gt-MAX_CODE
returns-then-places-gt-MAX_CODE c =
    let a = c.args in
    let code : Code = record { kinds = a.kinds.now; levels = a.levels.now; operands = a.operands.now } in
    let r = c.refused-then-places-gt-MAX_CODE in
    let first = c.in-Some.ensures.cases in
    let z = zeroed_by a.cells.now first.enough first.same (c.fill.ensures.after (λ y h. h)) in
    outcome_many code a.input.now a.budget a.out.now a.cells.now r.result first.enough (omega (arith, c.if-places-gt-MAX_CODE.true, c.len-places.ensures)) r.ensures (ap (λ (l : List ℤ). l ++ drop max_cells a.cells.now) z)

pub counted-requires : goal.counted-requires
counted-requires c =
    let a = c.args in
    let code : Code = record { kinds = a.kinds.now; levels = a.levels.now; operands = a.operands.now } in
    listed code c.len-places.ensures c.if-places-gt-MAX_CODE.false

pub returns : goal.returns
returns c =
    let a = c.args in
    let code : Code = record { kinds = a.kinds.now; levels = a.levels.now; operands = a.operands.now } in
    let first = c.in-Some.ensures.cases in
    let z = zeroed_by a.cells.now first.enough first.same (c.fill.ensures.after (λ y h. h)) in
    outcome_run code a.input.now a.budget a.out.now a.cells.now c.counted.result first.enough (omega (arith, c.if-places-gt-MAX_CODE.false, c.len-places.ensures)) (rw z at c.counted.ensures.counted) c.counted.ensures.long refl

-- `opr`: the number says which operator, and each meets its definition.
use mir.Syntax.{w64}
use mir.ValLaws.{to_z-of_z}
use Rattle.numbers.specs.Arithmetic.{arith as arith_val, add, sub, mul, div, compared, equal, unequal, less, at_least, greater, at_most, negated, oddness}
use Rattle.machine.specs.Machine.{operate}
use Rattle.machine.proofs.StepLaws.{idle_on, line_on}
use Rattle.machine.proofs.CodeLaws.{opr_did, opr_none}
use Rattle.machine.proofs.opr.opr.Goals as goal

pub returns-in_default : goal.returns-in_default
returns-in_default c =
    let a = c.args in
    λ code room e. opr_none code room a.f a.cells.now a.a (rw (to_z-of_z w64 a.a c.ranges.a) at c.in_default.ensures)

pub returns-in-Return : goal.returns-in-Return
unfolding operate
returns-in-Return c =
    let a = c.args in
    let k = rw (to_z-of_z w64 a.a c.ranges.a, c.in-Return.is) at c.in-Some.ensures in
    λ code room e. opr_did code room a.f a.cells.now a.a k (c.back.ensures code room e)

pub returns-in-Negate : goal.returns-in-Negate
unfolding operate
returns-in-Negate c =
    let a = c.args in
    let k = rw (to_z-of_z w64 a.a c.ranges.a, c.in-Negate.is) at c.in-Some.ensures in
    λ code room e. opr_did code room a.f a.cells.now a.a k (c.unary.ensures code room negated (λ r p. p))

pub returns-in-Add : goal.returns-in-Add
unfolding operate
returns-in-Add c =
    let a = c.args in
    let k = rw (to_z-of_z w64 a.a c.ranges.a, c.in-Add.is) at c.in-Some.ensures in
    λ code room e. opr_did code room a.f a.cells.now a.a k (c.binary.ensures code room (arith_val add) (λ r p. p))

pub returns-in-Sub : goal.returns-in-Sub
unfolding operate
returns-in-Sub c =
    let a = c.args in
    let k = rw (to_z-of_z w64 a.a c.ranges.a, c.in-Sub.is) at c.in-Some.ensures in
    λ code room e. opr_did code room a.f a.cells.now a.a k (c.binary-in-Sub.ensures code room (arith_val sub) (λ r p. p))

pub returns-in-Mul : goal.returns-in-Mul
unfolding operate
returns-in-Mul c =
    let a = c.args in
    let k = rw (to_z-of_z w64 a.a c.ranges.a, c.in-Mul.is) at c.in-Some.ensures in
    λ code room e. opr_did code room a.f a.cells.now a.a k (c.binary-in-Mul.ensures code room (arith_val mul) (λ r p. p))

pub returns-in-Div : goal.returns-in-Div
unfolding operate
returns-in-Div c =
    let a = c.args in
    let k = rw (to_z-of_z w64 a.a c.ranges.a, c.in-Div.is) at c.in-Some.ensures in
    λ code room e. opr_did code room a.f a.cells.now a.a k (c.binary-in-Div.ensures code room (arith_val div) (λ r p. p))

pub returns-in-Odd : goal.returns-in-Odd
unfolding operate
returns-in-Odd c =
    let a = c.args in
    let k = rw (to_z-of_z w64 a.a c.ranges.a, c.in-Odd.is) at c.in-Some.ensures in
    λ code room e. opr_did code room a.f a.cells.now a.a k (c.unary-in-Odd.ensures code room oddness (λ r p. p))

pub returns-in-Idle : goal.returns-in-Idle
returns-in-Idle c =
    let a = c.args in
    let k = rw (to_z-of_z w64 a.a c.ranges.a, c.in-Idle.is) at c.in-Some.ensures in
    λ code room e. opr_did code room a.f a.cells.now a.a k (rw c.onward.ensures (idle_on code room a.f a.cells.now c.requires.top))

pub returns-in-Equal : goal.returns-in-Equal
unfolding operate
returns-in-Equal c =
    let a = c.args in
    let k = rw (to_z-of_z w64 a.a c.ranges.a, c.in-Equal.is) at c.in-Some.ensures in
    λ code room e. opr_did code room a.f a.cells.now a.a k (c.binary-in-Equal.ensures code room (compared equal) (λ r p. p))

pub returns-in-Unequal : goal.returns-in-Unequal
unfolding operate
returns-in-Unequal c =
    let a = c.args in
    let k = rw (to_z-of_z w64 a.a c.ranges.a, c.in-Unequal.is) at c.in-Some.ensures in
    λ code room e. opr_did code room a.f a.cells.now a.a k (c.binary-in-Unequal.ensures code room (compared unequal) (λ r p. p))

pub returns-in-Less : goal.returns-in-Less
unfolding operate
returns-in-Less c =
    let a = c.args in
    let k = rw (to_z-of_z w64 a.a c.ranges.a, c.in-Less.is) at c.in-Some.ensures in
    λ code room e. opr_did code room a.f a.cells.now a.a k (c.binary-in-Less.ensures code room (compared less) (λ r p. p))

pub returns-in-AtLeast : goal.returns-in-AtLeast
unfolding operate
returns-in-AtLeast c =
    let a = c.args in
    let k = rw (to_z-of_z w64 a.a c.ranges.a, c.in-AtLeast.is) at c.in-Some.ensures in
    λ code room e. opr_did code room a.f a.cells.now a.a k (c.binary-in-AtLeast.ensures code room (compared at_least) (λ r p. p))

pub returns-in-Greater : goal.returns-in-Greater
unfolding operate
returns-in-Greater c =
    let a = c.args in
    let k = rw (to_z-of_z w64 a.a c.ranges.a, c.in-Greater.is) at c.in-Some.ensures in
    λ code room e. opr_did code room a.f a.cells.now a.a k (c.binary-in-Greater.ensures code room (compared greater) (λ r p. p))

pub returns-in-AtMost : goal.returns-in-AtMost
unfolding operate
returns-in-AtMost c =
    let a = c.args in
    let k = rw (to_z-of_z w64 a.a c.ranges.a, c.in-AtMost.is) at c.in-Some.ensures in
    λ code room e. opr_did code room a.f a.cells.now a.a k (c.binary-in-AtMost.ensures code room (compared at_most) (λ r p. p))

pub returns-in-Write : goal.returns-in-Write
unfolding operate
returns-in-Write c =
    let a = c.args in
    let k = rw (to_z-of_z w64 a.a c.ranges.a, c.in-Write.is) at c.in-Some.ensures in
    λ code room e. opr_did code room a.f a.cells.now a.a k (c.write.ensures code room)

pub returns-in-NewLine : goal.returns-in-NewLine
returns-in-NewLine c =
    let a = c.args in
    let k = rw (to_z-of_z w64 a.a c.ranges.a, c.in-NewLine.is) at c.in-Some.ensures in
    λ code room e. opr_did code room a.f a.cells.now a.a k (line_on code room a.f a.cells.now c.requires.pc)

pub returns-in-Read : goal.returns-in-Read
unfolding operate
returns-in-Read c =
    let a = c.args in
    let k = rw (to_z-of_z w64 a.a c.ranges.a, c.in-Read.is) at c.in-Some.ensures in
    λ code room e. opr_did code room a.f a.cells.now a.a k (c.read.ensures code room a.cells.now)

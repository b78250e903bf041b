-- `line::line_length` meets its contract.
use mathlib.Core.Path.{ap}
use Prim.Native.Nat.{ℕ}
use native.Mathlib.Omega.{arith}
use lib.IntN.{ℤ}
use lib.ListN.{length}
use Rattle.numbers.specs.Screen.{decimal}
use Rattle.numbers.proofs.Bits.{plain}
use Rattle.numbers.proofs.Decimals.{decimal_most}
use Rattle.listing.proofs.Columns.{column_most, line_length}
use Rattle.listing.specs.Listing.{right_aligned}
use Rattle.listing.proofs.line.line_length.Goals as goal

pub overflow_add-result : goal.overflow_add-result
overflow_add-result c = omega (arith, c.column_length.ensures, c.column_length-2.ensures, column_most c.args.index, column_most c.args.level, ap (λ (k : ℕ). length (right_aligned k)) c.from.ensures)

pub overflow_add-result-2 : goal.overflow_add-result-2
overflow_add-result-2 c = omega (arith, c.column_length.ensures, c.column_length-2.ensures, column_most c.args.index, column_most c.args.level, ap (λ (k : ℕ). length (right_aligned k)) c.from.ensures, plain (λ (z : ℤ). length (decimal z)) c.args.operand c.ranges.operand c.decimal_length.ensures, decimal_most c.args.operand)

pub overflow_add-result-3 : goal.overflow_add-result-3
overflow_add-result-3 c = omega (arith, c.column_length.ensures, c.column_length-2.ensures, column_most c.args.index, column_most c.args.level, ap (λ (k : ℕ). length (right_aligned k)) c.from.ensures, plain (λ (z : ℤ). length (decimal z)) c.args.operand c.ranges.operand c.decimal_length.ensures, decimal_most c.args.operand)

pub returns : goal.returns
returns c = λ o. omega (arith, c.column_length.ensures, c.column_length-2.ensures, plain (λ (z : ℤ). length (decimal z)) c.args.operand c.ranges.operand c.decimal_length.ensures, line_length c.args.index o c.args.level c.args.operand, ap (λ (k : ℕ). length (right_aligned k)) c.from.ensures)

-- `line::put_line` meets its contract.
use mathlib.Core.Path.{refl, sym, ap, ◌∙◌}
use Prim.Native.Nat.{ℕ, ◌+◌}
use native.Mathlib.Omega.{arith}
use borrow.Author.Tests.{leb-true, not-true, not-false}
use lib.Dec.{leb}
use lib.IntN.{ℤ}
use lib.ListN.{length}
use mir.Syntax.{w64}
use mir.Val.{SFits}
use borrow.Author.Rules.{rules}
use Rattle.numbers.proofs.Bits.{plain}
use Rattle.pcode.specs.Code.{ins}
use Rattle.pcode.specs.Coded.{op_of}
use Rattle.listing.specs.Listing.{line_of}
use Rattle.listing.proofs.line.put_line.Goals as goal

pub returns-then-not-has_room : goal.returns-then-not-has_room
returns-then-not-has_room c =
    let index = c.args.index in
    let o = op_of c.args.i.kind in
    let level = c.args.i.level in
    let operand = c.args.i.operand in
    let ho : SFits w64 operand = search rules in
    let count = plain (λ (z : ℤ). length (line_of index (ins o level z))) operand ho (c.line_length.ensures o) in (
      refl,
      record {
        full = sym (ap (λ (k : ℕ). leb (c.args.at + k) (length c.args.out.now)) count) ∙ sym c.has_room.ensures ∙ not-true _ c.if-not-has_room.true-raw;
        same = refl;
      },
    )

pub write_line-requires : goal.write_line-requires
write_line-requires c =
    let index = c.args.index in
    let o = op_of c.args.i.kind in
    let level = c.args.i.level in
    let operand = c.args.i.operand in
    let ho : SFits w64 operand = search rules in
    let count = plain (λ (z : ℤ). length (line_of index (ins o level z))) operand ho (c.line_length.ensures o) in
    let room = leb-true (c.args.at + c.line_length.result) (length c.args.out.now) (sym c.has_room.ensures ∙ not-false _ c.if-not-has_room.false-raw) in
    omega (arith, count, room)

pub returns : goal.returns
returns c = c.write_line.ensures

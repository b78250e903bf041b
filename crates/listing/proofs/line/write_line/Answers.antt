-- `line::write_line` meets its contract: one piece behind the other.
use mathlib.Core.Path.{ap}
use native.Mathlib.Omega.{arith}
use lib.ListN.{length}
use mir.Syntax.{w64}
use mir.Val.{SFits}
use borrow.Author.Rules.{rules}
use mir.ValLaws.{to_z-of_z}
use Rattle.numbers.specs.Bytes.{bytes}
use Rattle.numbers.specs.Screen.{decimal}
use Rattle.numbers.proofs.Screens.{wrote_as, wrote_behind, wrote_size}
use Rattle.pcode.specs.Coded.{op_of}
use Rattle.listing.specs.Listing.{right_aligned}
use Rattle.listing.specs.LineLaws.{letters_three}
use Rattle.listing.proofs.Columns.{line_is, line_length, bar_room, kind_room, space_room, level_room, spaces_room, operand_room, end_room}
use Rattle.listing.proofs.line.write_line.Goals as goal

pub write_column-at-requires : goal.write_column-at-requires
write_column-at-requires c = omega (arith, c.requires, line_length c.args.index (op_of c.args.i.kind) c.args.i.level c.args.i.operand)

pub write_text-at-requires : goal.write_text-at-requires
unfolding bytes
write_text-at-requires c =
    let index = c.args.index in
    let o = op_of c.args.i.kind in
    let level = c.args.i.level in
    let operand = c.args.i.operand in
    let ho : SFits w64 operand = search rules in
    bar_room index o level operand c.requires c.write_column-at.ensures

pub write_text-at-requires-2 : goal.write_text-at-requires-2
unfolding bytes
write_text-at-requires-2 c =
    let index = c.args.index in
    let o = op_of c.args.i.kind in
    let level = c.args.i.level in
    let operand = c.args.i.operand in
    let ho : SFits w64 operand = search rules in
    omega (arith, kind_room index o level operand c.requires (wrote_behind c.write_column-at.ensures c.write_text-at.ensures), ap length c.letters_of-letters.ensures, letters_three o)

pub write_text-at-requires-3 : goal.write_text-at-requires-3
unfolding bytes
write_text-at-requires-3 c =
    let index = c.args.index in
    let o = op_of c.args.i.kind in
    let level = c.args.i.level in
    let operand = c.args.i.operand in
    let ho : SFits w64 operand = search rules in
    space_room index o level operand c.requires (wrote_behind (wrote_behind c.write_column-at.ensures c.write_text-at.ensures) (wrote_as c.letters_of-letters.ensures c.write_text-at-2.ensures))

pub write_column-at-requires-2 : goal.write_column-at-requires-2
unfolding bytes
write_column-at-requires-2 c =
    let index = c.args.index in
    let o = op_of c.args.i.kind in
    let level = c.args.i.level in
    let operand = c.args.i.operand in
    let ho : SFits w64 operand = search rules in
    rw c.from.ensures (level_room index o level operand c.requires (wrote_behind (wrote_behind (wrote_behind c.write_column-at.ensures c.write_text-at.ensures) (wrote_as c.letters_of-letters.ensures c.write_text-at-2.ensures)) c.write_text-at-3.ensures))

pub write_text-at-requires-4 : goal.write_text-at-requires-4
unfolding bytes
write_text-at-requires-4 c =
    let index = c.args.index in
    let o = op_of c.args.i.kind in
    let level = c.args.i.level in
    let operand = c.args.i.operand in
    let ho : SFits w64 operand = search rules in
    spaces_room index o level operand c.requires (wrote_behind (wrote_behind (wrote_behind (wrote_behind c.write_column-at.ensures c.write_text-at.ensures) (wrote_as c.letters_of-letters.ensures c.write_text-at-2.ensures)) c.write_text-at-3.ensures) (wrote_as (ap right_aligned c.from.ensures) c.write_column-at-2.ensures))

pub write_decimal-at-requires : goal.write_decimal-at-requires
unfolding bytes
write_decimal-at-requires c =
    let index = c.args.index in
    let o = op_of c.args.i.kind in
    let level = c.args.i.level in
    let operand = c.args.i.operand in
    let ho : SFits w64 operand = search rules in
    rw (to_z-of_z w64 operand ho) (operand_room index o level operand c.requires (wrote_behind (wrote_behind (wrote_behind (wrote_behind (wrote_behind c.write_column-at.ensures c.write_text-at.ensures) (wrote_as c.letters_of-letters.ensures c.write_text-at-2.ensures)) c.write_text-at-3.ensures) (wrote_as (ap right_aligned c.from.ensures) c.write_column-at-2.ensures)) c.write_text-at-4.ensures))

pub write_text-requires : goal.write_text-requires
unfolding bytes
write_text-requires c =
    let index = c.args.index in
    let o = op_of c.args.i.kind in
    let level = c.args.i.level in
    let operand = c.args.i.operand in
    let ho : SFits w64 operand = search rules in
    end_room index o level operand c.requires (wrote_behind (wrote_behind (wrote_behind (wrote_behind (wrote_behind (wrote_behind c.write_column-at.ensures c.write_text-at.ensures) (wrote_as c.letters_of-letters.ensures c.write_text-at-2.ensures)) c.write_text-at-3.ensures) (wrote_as (ap right_aligned c.from.ensures) c.write_column-at-2.ensures)) c.write_text-at-4.ensures) (wrote_as (ap decimal (to_z-of_z w64 operand ho)) c.write_decimal-at.ensures))

pub shape_of-out : goal.shape_of-out
unfolding bytes
shape_of-out c =
    let index = c.args.index in
    let o = op_of c.args.i.kind in
    let level = c.args.i.level in
    let operand = c.args.i.operand in
    let ho : SFits w64 operand = search rules in
    wrote_size (wrote_behind (wrote_behind (wrote_behind (wrote_behind (wrote_behind (wrote_behind (wrote_behind c.write_column-at.ensures c.write_text-at.ensures) (wrote_as c.letters_of-letters.ensures c.write_text-at-2.ensures)) c.write_text-at-3.ensures) (wrote_as (ap right_aligned c.from.ensures) c.write_column-at-2.ensures)) c.write_text-at-4.ensures) (wrote_as (ap decimal (to_z-of_z w64 operand ho)) c.write_decimal-at.ensures)) c.write_text.ensures)

pub returns : goal.returns
unfolding bytes
returns c =
    let index = c.args.index in
    let o = op_of c.args.i.kind in
    let level = c.args.i.level in
    let operand = c.args.i.operand in
    let ho : SFits w64 operand = search rules in
    wrote_as (line_is index o level operand) (wrote_behind (wrote_behind (wrote_behind (wrote_behind (wrote_behind (wrote_behind (wrote_behind c.write_column-at.ensures c.write_text-at.ensures) (wrote_as c.letters_of-letters.ensures c.write_text-at-2.ensures)) c.write_text-at-3.ensures) (wrote_as (ap right_aligned c.from.ensures) c.write_column-at-2.ensures)) c.write_text-at-4.ensures) (wrote_as (ap decimal (to_z-of_z w64 operand ho)) c.write_decimal-at.ensures)) c.write_text.ensures)

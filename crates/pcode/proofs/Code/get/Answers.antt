-- `get` reads within each part, and what it reads is the instruction there.
use mir.ValLaws.{to_z-of_z}
use Rattle.std.proofs.Common.{◌<◌, length, get_or, arith, rules, pos, w8, w64, SFits}
use Rattle.pcode.specs.Code.{places_in}
use Rattle.pcode.specs.PlaceLaws.{length_instrs, in_kinds, in_levels, in_operands, instr_at}
use Rattle.pcode.specs.Coded.{lent}
use Rattle.pcode.proofs.Code.get.Goals as goal

pub bounds-self-i : goal.bounds-self-i
bounds-self-i c = omega (arith, in_kinds (lent c.args.self.now))

pub offset_bounds-self-i : goal.offset_bounds-self-i
offset_bounds-self-i c = omega (arith, in_levels (lent c.args.self.now))

pub bounds-self-i-2 : goal.bounds-self-i-2
bounds-self-i-2 c = omega (arith, in_levels (lent c.args.self.now))

pub offset_bounds-self-i-2 : goal.offset_bounds-self-i-2
offset_bounds-self-i-2 c = omega (arith, in_operands (lent c.args.self.now))

pub bounds-self-i-3 : goal.bounds-self-i-3
bounds-self-i-3 c = omega (arith, in_operands (lent c.args.self.now))

pub returns : goal.returns
returns c =
    let s = c.args.self.now in
    let h : c.args.i < length (places_in s.kinds.now s.levels.now s.operands.now) = omega (arith, length_instrs s.kinds.now s.levels.now s.operands.now) in
    let k = get_or s.kinds.now c.args.i (pos 0) in
    let o = get_or s.operands.now c.args.i (pos 0) in
    let hk : SFits w8 k = search rules in
    let ho : SFits w64 o = search rules in
    cc (instr_at s.kinds.now s.levels.now s.operands.now c.args.i h, to_z-of_z w8 k hk, to_z-of_z w64 o ho)

-- `step`: the kind says which instruction, and each meets its definition.
use mathlib.Core.Path.{sym, ap, ◌∙◌}
use Prim.Native.Nat.{◌<◌}
use native.Mathlib.Omega.{arith}
use lib.IntN.{pos}
use lib.ListN.{length, get_or}
use mir.Syntax.{w8, w64}
use mir.Val.{SFits}
use mir.ValLaws.{to_z-of_z}
use borrow.Author.Rules.{rules}
use Rattle.numbers.proofs.Bits.{plain}
use Rattle.pcode.specs.Code.{LIT, OPR, LOD, STO, STA, CAL, INT, JMP, JPC, RED, WRT, instrs_in}
use Rattle.pcode.specs.Coded.{op_of, lent}
use Rattle.machine.specs.Machine.{perform}
use Rattle.machine.specs.Steps.{went}
use Rattle.machine.proofs.StepLaws.{jump_did}
use Rattle.machine.proofs.CodeLaws.{opr_level, int_level, step_out, step_none, step_did}
use Rattle.machine.proofs.step.step.Goals as goal

pub returns-then-places-pc : goal.returns-then-places-pc
returns-then-places-pc c = λ room. step_out (lent c.args.code) room c.args.f c.args.cells.now (omega (arith, c.requires.0.all, c.if-places-pc.true))

pub returns-in_default : goal.returns-in_default
returns-in_default c =
    let a = c.args in
    let q : a.f.pc < length (instrs_in (lent a.code)) = omega (arith, c.requires.0.all, c.if-places-pc.false) in
    let n = get_or a.code.kinds.now a.f.pc (pos 0) in
    let hn : SFits w8 n = search rules in
    λ room. step_none (lent a.code) room a.f a.cells.now q (rw (to_z-of_z w8 n hn) at c.in_default.ensures)

pub returns-in-Nil : goal.returns-in-Nil
unfolding perform
returns-in-Nil c =
    let a = c.args in
    let list = instrs_in (lent a.code) in
    let q : a.f.pc < length list = omega (arith, c.requires.0.all, c.if-places-pc.false) in
    let n = get_or a.code.kinds.now a.f.pc (pos 0) in
    let z = get_or a.code.operands.now a.f.pc (pos 0) in
    let hn : SFits w8 n = search rules in
    let hz : SFits w64 z = search rules in
    let k = sym (rw (to_z-of_z w8 n hn) at c.in-Some.ensures) ∙ ap op_of c.in-Nil.is in
    λ room. step_none (lent a.code) room a.f a.cells.now q k

pub returns-in-Lit : goal.returns-in-Lit
unfolding perform
returns-in-Lit c =
    let a = c.args in
    let list = instrs_in (lent a.code) in
    let q : a.f.pc < length list = omega (arith, c.requires.0.all, c.if-places-pc.false) in
    let n = get_or a.code.kinds.now a.f.pc (pos 0) in
    let z = get_or a.code.operands.now a.f.pc (pos 0) in
    let hn : SFits w8 n = search rules in
    let hz : SFits w64 z = search rules in
    let k = sym (rw (to_z-of_z w8 n hn) at c.in-Some.ensures) ∙ ap op_of c.in-Lit.is in
    λ room. step_did (lent a.code) room a.f a.cells.now LIT q k (rw (to_z-of_z w64 z hz) at (c.push.ensures list room))

pub returns-in-Opr : goal.returns-in-Opr
unfolding perform
returns-in-Opr c =
    let a = c.args in
    let list = instrs_in (lent a.code) in
    let q : a.f.pc < length list = omega (arith, c.requires.0.all, c.if-places-pc.false) in
    let n = get_or a.code.kinds.now a.f.pc (pos 0) in
    let z = get_or a.code.operands.now a.f.pc (pos 0) in
    let hn : SFits w8 n = search rules in
    let hz : SFits w64 z = search rules in
    let k = sym (rw (to_z-of_z w8 n hn) at c.in-Some.ensures) ∙ ap op_of c.in-Opr.is in
    λ room. step_did (lent a.code) room a.f a.cells.now OPR q k (opr_level list room a.f a.cells.now (get_or a.code.levels.now a.f.pc 0) z (rw (to_z-of_z w64 z hz) at (c.opr.ensures list room c.requires.0.all)))

pub returns-in-Lod : goal.returns-in-Lod
unfolding perform
returns-in-Lod c =
    let a = c.args in
    let list = instrs_in (lent a.code) in
    let q : a.f.pc < length list = omega (arith, c.requires.0.all, c.if-places-pc.false) in
    let n = get_or a.code.kinds.now a.f.pc (pos 0) in
    let z = get_or a.code.operands.now a.f.pc (pos 0) in
    let hn : SFits w8 n = search rules in
    let hz : SFits w64 z = search rules in
    let k = sym (rw (to_z-of_z w8 n hn) at c.in-Some.ensures) ∙ ap op_of c.in-Lod.is in
    λ room. step_did (lent a.code) room a.f a.cells.now LOD q k (rw (to_z-of_z w64 z hz) at (c.lod.ensures list room))

pub returns-in-Sto : goal.returns-in-Sto
unfolding perform
returns-in-Sto c =
    let a = c.args in
    let list = instrs_in (lent a.code) in
    let q : a.f.pc < length list = omega (arith, c.requires.0.all, c.if-places-pc.false) in
    let n = get_or a.code.kinds.now a.f.pc (pos 0) in
    let z = get_or a.code.operands.now a.f.pc (pos 0) in
    let hn : SFits w8 n = search rules in
    let hz : SFits w64 z = search rules in
    let k = sym (rw (to_z-of_z w8 n hn) at c.in-Some.ensures) ∙ ap op_of c.in-Sto.is in
    λ room. step_did (lent a.code) room a.f a.cells.now STO q k (rw (to_z-of_z w64 z hz) at (c.sto.ensures list room))

pub returns-in-Sta : goal.returns-in-Sta
unfolding perform
returns-in-Sta c =
    let a = c.args in
    let list = instrs_in (lent a.code) in
    let q : a.f.pc < length list = omega (arith, c.requires.0.all, c.if-places-pc.false) in
    let n = get_or a.code.kinds.now a.f.pc (pos 0) in
    let z = get_or a.code.operands.now a.f.pc (pos 0) in
    let hn : SFits w8 n = search rules in
    let hz : SFits w64 z = search rules in
    let k = sym (rw (to_z-of_z w8 n hn) at c.in-Some.ensures) ∙ ap op_of c.in-Sta.is in
    λ room. step_did (lent a.code) room a.f a.cells.now STA q k (rw (to_z-of_z w64 z hz) at (c.sta.ensures list room))

pub returns-in-Cal : goal.returns-in-Cal
unfolding perform
returns-in-Cal c =
    let a = c.args in
    let list = instrs_in (lent a.code) in
    let q : a.f.pc < length list = omega (arith, c.requires.0.all, c.if-places-pc.false) in
    let n = get_or a.code.kinds.now a.f.pc (pos 0) in
    let z = get_or a.code.operands.now a.f.pc (pos 0) in
    let hn : SFits w8 n = search rules in
    let hz : SFits w64 z = search rules in
    let k = sym (rw (to_z-of_z w8 n hn) at c.in-Some.ensures) ∙ ap op_of c.in-Cal.is in
    λ room. step_did (lent a.code) room a.f a.cells.now CAL q k (rw (to_z-of_z w64 z hz) at (c.cal.ensures list room c.requires.0.all))

pub returns-in-Int : goal.returns-in-Int
unfolding perform
returns-in-Int c =
    let a = c.args in
    let list = instrs_in (lent a.code) in
    let q : a.f.pc < length list = omega (arith, c.requires.0.all, c.if-places-pc.false) in
    let n = get_or a.code.kinds.now a.f.pc (pos 0) in
    let z = get_or a.code.operands.now a.f.pc (pos 0) in
    let hn : SFits w8 n = search rules in
    let hz : SFits w64 z = search rules in
    let k = sym (rw (to_z-of_z w8 n hn) at c.in-Some.ensures) ∙ ap op_of c.in-Int.is in
    λ room. step_did (lent a.code) room a.f a.cells.now INT q k (int_level list room a.f a.cells.now (get_or a.code.levels.now a.f.pc 0) z (rw (to_z-of_z w64 z hz) at (c.int.ensures list room a.cells.now)))

pub returns-in-Jmp : goal.returns-in-Jmp
unfolding perform
returns-in-Jmp c =
    let a = c.args in
    let list = instrs_in (lent a.code) in
    let q : a.f.pc < length list = omega (arith, c.requires.0.all, c.if-places-pc.false) in
    let n = get_or a.code.kinds.now a.f.pc (pos 0) in
    let z = get_or a.code.operands.now a.f.pc (pos 0) in
    let hn : SFits w8 n = search rules in
    let hz : SFits w64 z = search rules in
    let k = sym (rw (to_z-of_z w8 n hn) at c.in-Some.ensures) ∙ ap op_of c.in-Jmp.is in
    λ room. step_did (lent a.code) room a.f a.cells.now JMP q k (jump_did list room c.requires.0.all a.f a.cells.now z c.requires.1 (plain (λ y. went a.places y a.f) z hz c.goto.ensures))

pub returns-in-Jpc : goal.returns-in-Jpc
unfolding perform
returns-in-Jpc c =
    let a = c.args in
    let list = instrs_in (lent a.code) in
    let q : a.f.pc < length list = omega (arith, c.requires.0.all, c.if-places-pc.false) in
    let n = get_or a.code.kinds.now a.f.pc (pos 0) in
    let z = get_or a.code.operands.now a.f.pc (pos 0) in
    let hn : SFits w8 n = search rules in
    let hz : SFits w64 z = search rules in
    let k = sym (rw (to_z-of_z w8 n hn) at c.in-Some.ensures) ∙ ap op_of c.in-Jpc.is in
    λ room. step_did (lent a.code) room a.f a.cells.now JPC q k (rw (to_z-of_z w64 z hz) at (c.jpc.ensures list room c.requires.0.all))

pub returns-in-Red : goal.returns-in-Red
unfolding perform
returns-in-Red c =
    let a = c.args in
    let list = instrs_in (lent a.code) in
    let q : a.f.pc < length list = omega (arith, c.requires.0.all, c.if-places-pc.false) in
    let n = get_or a.code.kinds.now a.f.pc (pos 0) in
    let z = get_or a.code.operands.now a.f.pc (pos 0) in
    let hn : SFits w8 n = search rules in
    let hz : SFits w64 z = search rules in
    let k = sym (rw (to_z-of_z w8 n hn) at c.in-Some.ensures) ∙ ap op_of c.in-Red.is in
    λ room. step_did (lent a.code) room a.f a.cells.now RED q k (rw (to_z-of_z w64 z hz) at (c.red.ensures list room))

pub returns-in-Wrt : goal.returns-in-Wrt
unfolding perform
returns-in-Wrt c =
    let a = c.args in
    let list = instrs_in (lent a.code) in
    let q : a.f.pc < length list = omega (arith, c.requires.0.all, c.if-places-pc.false) in
    let n = get_or a.code.kinds.now a.f.pc (pos 0) in
    let z = get_or a.code.operands.now a.f.pc (pos 0) in
    let hn : SFits w8 n = search rules in
    let hz : SFits w64 z = search rules in
    let k = sym (rw (to_z-of_z w8 n hn) at c.in-Some.ensures) ∙ ap op_of c.in-Wrt.is in
    λ room. step_did (lent a.code) room a.f a.cells.now WRT q k (c.write.ensures list room)

-- `arguments::parse_exps` meets its contract.
use mathlib.Core.Path.{refl}
use Prim.Native.Nat.{◌+◌, ◌*◌}
use native.Mathlib.Omega.{arith}
use Rattle.lexer.specs.Marks.{close_sign}
use Rattle.lexer.specs.Stands.{left}
use Rattle.tree.specs.Nodes.{exp_node}
use Rattle.parser.proofs.Answers.{grew, made, room_after, same_left, one_fewer, refuses, left_as}
use Rattle.parser.proofs.Loops.{going_start, going_room, going_more, going_refused, going_end}
use Rattle.parser.proofs.Commas.{member_more, member_refused, comma_stop, comma_turn, comma_end}
use Rattle.parser.proofs.Plain.{argues_refused, argues_ended}
use Rattle.parser.proofs.arguments.parse_exps.Goals as goal

pub loop-e-init : goal.loop-e-init
loop-e-init c =
    λ N l. going_start _ _ _ _ _ _ _ _ (omega (arith, c.requires.room.room)) c.requires.used_bound.1

pub parse_exp-requires : goal.parse_exp-requires
parse_exp-requires c =
    going_room _ _ _ _ (c.loop-e.invariant (8 * left c.args.cur + 3) (omega arith)) c.requires.room

pub returns-in_err-e : goal.returns-in_err-e
returns-in_err-e c =
    let i = c.loop-e.invariant (8 * left c.args.cur + 3) (omega arith) in
    rw (left_as c.from_residual.ensures) (argues_refused _ _ (λ x l k s. going_refused _ _ _ _ (c.loop-e.invariant x l) (member_refused _ _ (exp_node 0) (λ k s. refuses c.in_err-e.ensures x (omega (arith, l, i.fewer)) k s)) x (omega (arith, l)) k s))

pub returns-in_err-f : goal.returns-in_err-f
returns-in_err-f c =
    let i = c.loop-e.invariant (8 * left c.args.cur + 3) (omega arith) in
    rw (left_as c.from_residual-in_err-f.ensures) (argues_refused _ _ (λ x l k s. going_refused _ _ _ _ (c.loop-e.invariant x l) (comma_stop _ _ (exp_node 0) (λ k s. made c.in_ok-e.ensures refl x (omega (arith, l, i.fewer)) k s) c.see.ensures c.in_err-f.was) x (omega (arith, l)) k s))

pub overflow_add-count : goal.overflow_add-count
overflow_add-count c =
    let i = c.loop-e.invariant (8 * left c.args.cur + 3) (omega arith) in
    omega (arith, i.few, i.room, i.same, c.requires.room.room, c.requires.room.small)

pub end_list-requires : goal.end_list-requires
end_list-requires c =
    let g = grew c.in_ok-e.ensures refl in
    let i = c.loop-e.invariant (8 * left c.args.cur + 3) (omega arith) in
    let k = c.parse_exp.auto.tree in
    let p = going_room _ _ _ _ i c.requires.room in
    let l = member_more _ _ (exp_node 0) (λ k s. made c.in_ok-e.ensures refl (8 * left c.args.cur + 3) (omega (arith, i.fewer)) k s) p.place p.stands in
    record {
      used_bound = (omega (arith, g.above, i.above, c.requires.used_bound.0), omega (arith, g.room, p.room));
      count_le_end = (omega (arith, i.few), omega (arith, p.small));
    }

pub returns-in_default : goal.returns-in_default
returns-in_default c =
    let g = grew c.in_ok-e.ensures refl in
    let i = c.loop-e.invariant (8 * left c.args.cur + 3) (omega arith) in
    let p = going_room _ _ _ _ i c.requires.room in
    let a = room_after c.in_ok-e.ensures refl {t = 0} p c.parse_exp.auto.tree (omega arith) in
    let o = same_left a c.see.ensures c.in_ok-f.was in
    argues_ended _ _
    (λ x l k s. going_end _ _ _ _ (c.loop-e.invariant x l) (comma_end _ _ (exp_node 0) (λ k s. made c.in_ok-e.ensures refl x (omega (arith, l, i.fewer)) k s) c.see.ensures c.in_ok-f.was c.in_default.not-Comma) refl x (omega (arith, l)) k s)
    c.requires.used_bound.0 (omega (arith, g.above, i.above)) (omega (arith, g.fewer, i.fewer)) (omega (arith, g.room, i.room)) c.requires.room.place c.requires.room.stands _ (c.end_list.ensures close_sign refl)

pub loop-e-smaller : goal.loop-e-smaller
loop-e-smaller c =
    let p = going_room _ _ _ _ (c.loop-e.invariant (8 * left c.args.cur + 3) (omega arith)) c.requires.room in
    let a = room_after c.in_ok-e.ensures refl {t = 0} p c.parse_exp.auto.tree (omega arith) in
    omega (arith, (grew c.in_ok-e.ensures refl).fewer, one_fewer a c.see.ensures c.in_ok-f.was c.take-c.ensures)

pub loop-e-preserved : goal.loop-e-preserved
loop-e-preserved c =
    let i = c.loop-e.invariant (8 * left c.args.cur + 3) (omega arith) in
    let p = going_room _ _ _ _ i c.requires.room in
    let a = room_after c.in_ok-e.ensures refl {t = 0} p c.parse_exp.auto.tree (omega arith) in
    λ N l. going_more _ _ _ _ (c.loop-e.invariant N l) c.requires.room (comma_turn _ _ (exp_node 0) (λ k s. made c.in_ok-e.ensures refl N (omega (arith, l, i.fewer)) k s) c.see.ensures c.in_ok-f.was c.in-Comma.is c.take-c.ensures (one_fewer a c.see.ensures c.in_ok-f.was c.take-c.ensures) (grew c.in_ok-e.ensures refl)) c.parse_exp.auto.tree

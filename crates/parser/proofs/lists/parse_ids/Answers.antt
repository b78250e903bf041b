-- `lists::parse_ids` meets its contract.
use mathlib.Core.Path.{refl}
use Prim.Native.Nat.{◌+◌}
use native.Mathlib.Omega.{arith}
use Rattle.tree.specs.Nodes.{name_node}
use Rattle.parser.proofs.Answers.{refused, grew, made, room_after, room_at, same_left, one_fewer, refuses, left_as}
use Rattle.parser.proofs.Loops.{going_start, going_room, going_more, going_refused, going_end}
use Rattle.parser.proofs.Commas.{member_more, member_refused, comma_stop, comma_turn, comma_end, list_refused, list_ended}
use Rattle.parser.proofs.lists.parse_ids.Goals as goal

pub loop-e-init : goal.loop-e-init
loop-e-init c =
    going_start _ _ _ _ _ _ _ _ (omega (arith, c.requires.room)) (omega arith)

pub parse_id-requires : goal.parse_id-requires
parse_id-requires c =
    going_room _ _ _ _ c.loop-e.invariant (room_at c.requires refl _ 0 (omega arith))

pub returns-in_err-e : goal.returns-in_err-e
returns-in_err-e c =
    λ nk q m z. rw (left_as c.from_residual.ensures) (refused (list_refused _ _ name_node m (going_refused _ _ _ _ c.loop-e.invariant (member_refused _ _ name_node (λ k s. refuses c.in_err-e.ensures 0 (omega arith) k s)))))

pub returns-in_err-f : goal.returns-in_err-f
returns-in_err-f c =
    λ nk q m z. rw (left_as c.from_residual-in_err-f.ensures) (refused (list_refused _ _ name_node m (going_refused _ _ _ _ c.loop-e.invariant (comma_stop _ _ name_node (λ k s. made c.in_ok-e.ensures refl 0 (omega arith) k s) c.see.ensures c.in_err-f.was))))

pub end_list-requires : goal.end_list-requires
end_list-requires c =
    let g = grew c.in_ok-e.ensures refl in
    let i = c.loop-e.invariant in
    let k = c.parse_id.auto.tree in
    let p = going_room _ _ _ _ c.loop-e.invariant (room_at c.requires refl _ 0 (omega arith)) in
    let l = member_more _ _ name_node (λ k s. made c.in_ok-e.ensures refl 0 (omega arith) k s) p.place p.stands in
    record {
      used_bound = (omega (arith, g.above, i.above), omega (arith, g.room, p.room));
      count_le_end = (omega (arith, i.few), omega (arith, p.small));
    }

pub returns-in_default : goal.returns-in_default
returns-in_default c nk q m e =
    let g = grew c.in_ok-e.ensures refl in
    let i = c.loop-e.invariant in
    let p = going_room _ _ _ _ c.loop-e.invariant (room_at c.requires refl _ 0 (omega arith)) in
    let a = room_after c.in_ok-e.ensures refl {t = 0} p c.parse_id.auto.tree (omega arith) in
    let o = same_left a c.see.ensures c.in_ok-f.was in
    list_ended _ _ name_node m
    (going_end _ _ _ _ i (comma_end _ _ name_node (λ k s. made c.in_ok-e.ensures refl 0 (omega arith) k s) c.see.ensures c.in_ok-f.was c.in_default.not-Comma) refl)
    (omega (arith, g.above, i.above)) (omega (arith, g.fewer, i.fewer)) (omega (arith, g.room, i.room)) c.requires.place c.requires.stands _ (c.end_list.ensures m e) nk q

pub loop-e-smaller : goal.loop-e-smaller
loop-e-smaller c =
    let p = going_room _ _ _ _ c.loop-e.invariant (room_at c.requires refl _ 0 (omega arith)) in
    let a = room_after c.in_ok-e.ensures refl {t = 0} p c.parse_id.auto.tree (omega arith) in
    omega (arith, (grew c.in_ok-e.ensures refl).fewer, one_fewer a c.see.ensures c.in_ok-f.was c.take-c.ensures)

pub loop-e-preserved : goal.loop-e-preserved
loop-e-preserved c =
    let i = c.loop-e.invariant in
    let b = room_at c.requires refl (c.args.used + 4) 0 (omega arith) in
    let p = going_room _ _ _ _ i b in
    let a = room_after c.in_ok-e.ensures refl {t = 0} p c.parse_id.auto.tree (omega arith) in
    going_more _ _ _ _ i b (comma_turn _ _ name_node (λ k s. made c.in_ok-e.ensures refl 0 (omega arith) k s) c.see.ensures c.in_ok-f.was c.in-Comma.is c.take-c.ensures (one_fewer a c.see.ensures c.in_ok-f.was c.take-c.ensures) (grew c.in_ok-e.ensures refl)) c.parse_id.auto.tree

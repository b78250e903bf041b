-- `declarations::parse_consts` meets its contract.
use mathlib.Core.Path.{refl}
use Prim.Native.Nat.{◌+◌}
use native.Mathlib.Omega.{arith}
use Rattle.lexer.specs.Marks.{semicolon_sign}
use Rattle.tree.specs.Layout.{list_kind}
use Rattle.tree.specs.Nodes.{const_node}
use Rattle.parser.proofs.Answers.{refused, grew, made, room_after, room_at, same_left, one_fewer, left_as, refuses}
use Rattle.parser.proofs.Loops.{going_start, going_room, going_more, going_refused, going_end}
use Rattle.parser.proofs.Commas.{member_more, member_refused, comma_stop, comma_turn, comma_end, list_refused, list_ended}
use Rattle.parser.proofs.declarations.parse_consts.Goals as goal

pub overflow_add-end : goal.overflow_add-end
overflow_add-end c = omega (arith, c.requires.room, c.requires.small)

pub loop-e-init : goal.loop-e-init
loop-e-init c = going_start _ _ _ _ _ _ _ _ (omega (arith, c.requires.room)) (omega arith)

pub parse_const-requires : goal.parse_const-requires
parse_const-requires c = going_room _ _ _ _ c.loop-e.invariant (room_at c.requires refl _ 4 (omega arith))

pub returns-in_err-e : goal.returns-in_err-e
returns-in_err-e c =
    let z = refuses c.in_err-e.ensures in
    rw (left_as c.from_residual.ensures)
    (refused (list_refused _ _ const_node semicolon_sign (going_refused _ _ _ _ c.loop-e.invariant (member_refused _ _ const_node (λ k s. z 0 (omega arith) k s)))))

pub overflow_add-count : goal.overflow_add-count
overflow_add-count c = omega (arith, c.loop-e.invariant.few, c.loop-e.invariant.room, c.loop-e.invariant.same, c.requires.room, c.requires.small)

pub returns-in_err-f : goal.returns-in_err-f
returns-in_err-f c =
    rw (left_as c.from_residual-in_err-f.ensures)
    (refused (list_refused _ _ const_node semicolon_sign (going_refused _ _ _ _ c.loop-e.invariant (comma_stop _ _ const_node (λ k s. made c.in_ok-e.ensures refl 0 (omega arith) k s) c.in_err-f.ensures refl))))

pub end_list-requires : goal.end_list-requires
end_list-requires c =
    let g = grew c.in_ok-e.ensures refl in
    let i = c.loop-e.invariant in
    let k = c.parse_const.auto.tree in
    let p = going_room _ _ _ _ i (room_at c.requires refl _ 4 (omega arith)) in
    let l = member_more _ _ const_node (λ k s. made c.in_ok-e.ensures refl 0 (omega arith) k s) p.place p.stands in
    record {
      used_bound = (omega (arith, g.above, i.above), omega (arith, g.room, p.room));
      count_le_end = (omega (arith, i.few), omega (arith, p.small));
    }

pub returns-in_default : goal.returns-in_default
returns-in_default c =
    let g = grew c.in_ok-e.ensures refl in
    let i = c.loop-e.invariant in
    let p = going_room _ _ _ _ i (room_at c.requires refl _ 4 (omega arith)) in
    let a = room_after c.in_ok-e.ensures refl {t = 0} p c.parse_const.auto.tree (omega arith) in
    let o = same_left a c.in_ok-f.ensures refl in
    list_ended _ _ const_node semicolon_sign
    (going_end _ _ _ _ i (comma_end _ _ const_node (λ k s. made c.in_ok-e.ensures refl 0 (omega arith) k s) c.in_ok-f.ensures refl c.in_default.not-Comma) refl)
    (omega (arith, g.above, i.above)) (omega (arith, g.fewer, i.fewer)) (omega (arith, g.room, i.room)) c.requires.place c.requires.stands _ (c.end_list.ensures semicolon_sign refl) list_kind refl

pub loop-e-smaller : goal.loop-e-smaller
loop-e-smaller c =
    let i = c.loop-e.invariant in
    let p = going_room _ _ _ _ i (room_at c.requires refl _ 4 (omega arith)) in
    let a = room_after c.in_ok-e.ensures refl {t = 0} p c.parse_const.auto.tree (omega arith) in
    omega (arith, (grew c.in_ok-e.ensures refl).fewer, one_fewer a c.in_ok-f.ensures refl c.take-c.ensures)

pub loop-e-preserved : goal.loop-e-preserved
loop-e-preserved c =
    let i = c.loop-e.invariant in
    let b = room_at c.requires refl (c.args.used + 4) 4 (omega arith) in
    let p = going_room _ _ _ _ i b in
    let a = room_after c.in_ok-e.ensures refl {t = 0} p c.parse_const.auto.tree (omega arith) in
    going_more _ _ _ _ i b (comma_turn _ _ const_node (λ k s. made c.in_ok-e.ensures refl 0 (omega arith) k s) c.in_ok-f.ensures refl c.in-Comma.is c.take-c.ensures (one_fewer a c.in_ok-f.ensures refl c.take-c.ensures) (grew c.in_ok-e.ensures refl)) c.parse_const.auto.tree

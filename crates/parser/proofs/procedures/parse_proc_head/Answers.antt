-- `procedures::parse_proc_head` meets its contract.
use mathlib.Core.Path.{refl}
use native.Mathlib.Omega.{arith}
use Rattle.lexer.specs.Marks.{procedure_word, open_sign, semicolon_sign}
use Rattle.parser.proofs.Answers.{refused, grew, room_after, room_took, wanted_fewer, left_as, refuses}
use Rattle.parser.proofs.Procs.{head_stop, head_name, head_open, head_args, head_end, head_done}
use Rattle.parser.proofs.procedures.parse_proc_head.Goals as goal

pub returns-in_err-c : goal.returns-in_err-c
returns-in_err-c c =
    rw (left_as c.from_residual.ensures) (refused (head_stop _ (c.in_err-c.ensures procedure_word refl) refl))

pub parse_id-requires : goal.parse_id-requires
parse_id-requires c =
    room_took c.requires (c.in_ok-c.ensures procedure_word refl) refl _ 0 (omega arith)

pub returns-in_err-named : goal.returns-in_err-named
returns-in_err-named c =
    rw (left_as c.from_residual-in_err-named.ensures) (refused (head_name _ (c.in_ok-c.ensures procedure_word refl) refl (refuses c.in_err-named.ensures)))

pub returns-in_err-e : goal.returns-in_err-e
returns-in_err-e c =
    rw (left_as c.from_residual-in_err-e.ensures) (refused (head_open _ (c.in_ok-c.ensures procedure_word refl) refl c.in_ok-named.ensures refl (c.in_err-e.ensures open_sign refl) refl))

pub parse_args-requires : goal.parse_args-requires
parse_args-requires c =
    let a = room_took c.requires (c.in_ok-c.ensures procedure_word refl) refl c.args.used 12 (omega arith) in
    let b = room_after c.in_ok-named.ensures refl {t = 12} a c.parse_id.auto.tree (omega arith) in
    room_took b (c.in_ok-e.ensures open_sign refl) refl _ 4 (omega arith)

pub returns-in_err-end : goal.returns-in_err-end
returns-in_err-end c =
    let a = room_took c.requires (c.in_ok-c.ensures procedure_word refl) refl c.args.used 12 (omega arith) in
    let b = room_after c.in_ok-named.ensures refl {t = 12} a c.parse_id.auto.tree (omega arith) in
    let f = wanted_fewer c.requires (c.in_ok-c.ensures procedure_word refl) refl in
    let g = wanted_fewer b (c.in_ok-e.ensures open_sign refl) refl in
    rw (left_as c.from_residual-in_err-end.ensures) (refused (head_args _ (c.in_ok-c.ensures procedure_word refl) refl c.in_ok-named.ensures refl (c.in_ok-e.ensures open_sign refl) refl (omega (arith, (grew c.in_ok-named.ensures refl).fewer)) (refuses c.in_err-end.ensures)))

pub returns-in_err-g : goal.returns-in_err-g
returns-in_err-g c =
    let a = room_took c.requires (c.in_ok-c.ensures procedure_word refl) refl c.args.used 12 (omega arith) in
    let b = room_after c.in_ok-named.ensures refl {t = 12} a c.parse_id.auto.tree (omega arith) in
    let f = wanted_fewer c.requires (c.in_ok-c.ensures procedure_word refl) refl in
    let g = wanted_fewer b (c.in_ok-e.ensures open_sign refl) refl in
    rw (left_as c.from_residual-in_err-g.ensures) (refused (head_end _ (c.in_ok-c.ensures procedure_word refl) refl c.in_ok-named.ensures refl (c.in_ok-e.ensures open_sign refl) refl (omega (arith, (grew c.in_ok-named.ensures refl).fewer)) c.in_ok-end.ensures refl (c.in_err-g.ensures semicolon_sign refl) refl))

pub returns : goal.returns
returns c =
    let a = room_took c.requires (c.in_ok-c.ensures procedure_word refl) refl c.args.used 12 (omega arith) in
    let b = room_after c.in_ok-named.ensures refl {t = 12} a c.parse_id.auto.tree (omega arith) in
    let f = wanted_fewer c.requires (c.in_ok-c.ensures procedure_word refl) refl in
    let g = wanted_fewer b (c.in_ok-e.ensures open_sign refl) refl in
    let d = room_took b (c.in_ok-e.ensures open_sign refl) refl c.in_ok-named.named 12 (omega arith) in
    let e = room_after c.in_ok-end.ensures refl {t = 0} d c.parse_args.auto.tree (omega arith) in
    let s = c.in_ok-g.ensures semicolon_sign refl in
    head_done _ (c.in_ok-c.ensures procedure_word refl) refl c.in_ok-named.ensures refl (c.in_ok-e.ensures open_sign refl) refl (omega (arith, (grew c.in_ok-named.ensures refl).fewer)) c.in_ok-end.ensures refl s refl f g (wanted_fewer e s refl)

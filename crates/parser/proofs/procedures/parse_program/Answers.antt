-- `procedures::parse_program` meets its contract.
use mathlib.Core.Path.{refl}
use native.Mathlib.Omega.{arith}
use Rattle.lexer.specs.Marks.{program_word, semicolon_sign}
use Rattle.parser.proofs.Answers.{refused, grew, room_after, moved, room_took, wanted_fewer, left_as, refuses}
use Rattle.parser.proofs.Procs.{program_stop, program_name, program_end, program_block, from_start}
use Rattle.parser.proofs.procedures.parse_program.Goals as goal

pub returns-in_err-c : goal.returns-in_err-c
returns-in_err-c c =
    rw (left_as c.from_residual.ensures) (refused (program_stop _ (c.in_err-c.ensures program_word refl) refl))

pub parse_id-requires : goal.parse_id-requires
parse_id-requires c =
    room_took c.requires (c.in_ok-c.ensures program_word refl) refl _ 0 (omega arith)

pub returns-in_err-d : goal.returns-in_err-d
returns-in_err-d c =
    rw (left_as c.from_residual-in_err-d.ensures) (refused (program_name _ (c.in_ok-c.ensures program_word refl) refl (refuses c.in_err-d.ensures)))

pub returns-in_err-e : goal.returns-in_err-e
returns-in_err-e c =
    rw (left_as c.from_residual-in_err-e.ensures) (refused (program_end _ (c.in_ok-c.ensures program_word refl) refl c.in_ok-d.ensures refl (c.in_err-e.ensures semicolon_sign refl) refl))

pub parse_block-requires : goal.parse_block-requires
parse_block-requires c =
    let a = room_took c.requires (c.in_ok-c.ensures program_word refl) refl 0 20 (omega arith) in
    let b = room_after c.in_ok-d.ensures refl {t = 20} a c.parse_id.auto.tree (omega arith) in
    room_took b (c.in_ok-e.ensures semicolon_sign refl) refl 0 20 (omega arith)

pub returns : goal.returns
returns c =
    let a = room_took c.requires (c.in_ok-c.ensures program_word refl) refl 0 20 (omega arith) in
    let b = room_after c.in_ok-d.ensures refl {t = 20} a c.parse_id.auto.tree (omega arith) in
    let f = wanted_fewer c.requires (c.in_ok-c.ensures program_word refl) refl in
    let g = wanted_fewer b (c.in_ok-e.ensures semicolon_sign refl) refl in
    let i = (grew c.in_ok-d.ensures refl).fewer in
    moved _ (omega arith) (omega arith) (λ n l k s. program_block _ (c.in_ok-c.ensures program_word refl) refl c.in_ok-d.ensures refl (c.in_ok-e.ensures semicolon_sign refl) refl n (omega arith) k s) (from_start _ c.parse_block.ensures)

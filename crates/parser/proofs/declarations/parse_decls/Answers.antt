-- `declarations::parse_decls` meets its contract.
use mathlib.Core.Path.{refl}
use native.Mathlib.Omega.{arith}
use Rattle.parser.proofs.Answers.{refused, room_after, room_at, left_as, refuses}
use Rattle.parser.proofs.Sequences.{first_refused, second_done}
use Rattle.parser.proofs.Declared.{decls_whole, decls_join}
use Rattle.parser.proofs.declarations.parse_decls.Goals as goal

pub parse_const_decl-requires : goal.parse_const_decl-requires
parse_const_decl-requires c = room_at c.requires refl _ 4 (omega arith)

pub returns-in_err-end : goal.returns-in_err-end
returns-in_err-end c = rw (left_as c.from_residual.ensures) (refused (first_refused (decls_whole _) (omega arith) (refuses c.in_err-end.ensures)))

pub parse_var_decl-requires : goal.parse_var_decl-requires
parse_var_decl-requires c = room_after c.in_ok-end.ensures refl {t = 4} c.requires c.parse_const_decl.auto.tree (omega arith)

pub returns : goal.returns
returns c = second_done (decls_whole _) decls_join c.in_ok-end.ensures refl c.requires.place c.requires.stands _ 0 8 c.parse_var_decl.ensures (omega arith) (omega arith) (omega arith)

-- One name for all that a row of a table computes through.
use Rattle.std.specs.Prelude.{ℕ}
use Rattle.numbers.specs.Arithmetic.{eq_z, fits, checked, quotient, arith, compare}
use Rattle.numbers.specs.Screen.{decimal_of, decimal, prompt}
use Rattle.numbers.specs.Line.{line, after_line, field, magnitude, plus, minus, value_of, entry}
use Rattle.grammar.specs.Rows.{reading as texts}
use Rattle.grammar.specs.Source.{reading}
use Rattle.pcode.specs.Operators.{operators, oper_of}
use Rattle.pcode.specs.Code.{kind_no, kinds, kind_of, place_for, instr_in, code_for, places_in, instrs_in}
use Rattle.symbols.specs.Symbols.{is_in, all_in, same_scope, find_in, find, declared, one_more, fresh, const_rows, var_rows, arg_rows}
use Rattle.emission.specs.Pieces.{◌⨾◌, nothing, refusing, emit, jump_over}
use Rattle.emission.specs.Statements.{reach, exp_code, cond_code, args_code, writes_code, reads_code, stmt_code}
use Rattle.translator.specs.Translate.{stas, procs_code, block_code}
use Rattle.machine.specs.Machine.{cell_at, from, up, there, with, goto, put, reading as readingStep, operate, perform, step, run, start, run_of}
use Rattle.walk.specs.Walk.{push, walk_exp, walk_cond, store, loop, put as put_w, read_line, walk_reads, walk_writes, walk_stmt, walk_main, walked, begin, declared_rows, walk_block}
use Rattle.outcomes.specs.Compile.{translated, from_tree, compile, walk}

unfoldable pub computing : ℕ
unfolding texts reading eq_z fits checked quotient arith compare decimal_of decimal prompt line after_line field magnitude plus minus value_of entry operators oper_of kind_no kinds kind_of place_for instr_in code_for places_in instrs_in is_in all_in same_scope find_in find declared one_more fresh const_rows var_rows arg_rows ◌⨾◌ nothing refusing emit jump_over reach exp_code cond_code args_code writes_code reads_code stmt_code stas procs_code block_code cell_at from up there with goto put readingStep operate perform step run start run_of push walk_exp walk_cond store loop put_w read_line walk_reads walk_writes walk_stmt walk_main walked begin declared_rows walk_block translated from_tree compile walk
computing = 0

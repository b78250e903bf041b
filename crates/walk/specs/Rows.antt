-- Rows of the walk: number, steps completed, top, variables and output of small programs; and two single steps at the last cell.
use Rattle.std.specs.Prelude.{◌≡◌, refl, List, [], ◌∷◌, ◌++◌, ℕ, ◌-◌, ℤ, pos, negsuc}
use Rattle.numbers.specs.Panel.{done, cell_outside, output_full}
use Rattle.numbers.specs.Bytes.{bytes}
use Rattle.numbers.specs.Arithmetic.{eq_z, fits, checked, quotient, arith, compare}
use Rattle.numbers.specs.Screen.{decimal_of, decimal, prompt}
use Rattle.numbers.specs.Line.{line, after_line, field, magnitude, plus, minus, value_of, entry}
use Rattle.grammar.specs.Grammar.{Parsed, tree, refused, parse}
use Rattle.grammar.specs.Rows.{reading}
use Rattle.symbols.specs.Symbols.{is_in, all_in, same_scope, find_in, find, declared, one_more, fresh, const_rows, var_rows}
use Rattle.walk.specs.Walk.{State, stop, push, walk_exp, walk_cond, store, loop, put, read_line, walk_reads, walk_writes, walk_stmt, walk_main, walked, begin, declared_rows, walk_block}

-- what a row says of the walk's end
record Seen : Type 0 where
  number : ℕ
  steps : ℕ
  top : ℕ
  vars : List ℤ
  out : List ℕ

abbrev seen : ℕ → ℕ → ℕ → List ℤ → List ℕ → Seen
seen n k t vs o = record { number = n; steps = k; top = t; vars = vs; out = o }

-- the walk on a parsed text, with a budget of 1,000
abbrev walk_on : Parsed → List ℕ → ℕ → Seen
walk_on (tree b) input room = let x = walk_block b input 1000 room in seen x.number (1000 - x.left) x.final.top x.final.vars x.final.out
walk_on (refused n) input room = seen n 0 0 [] []

abbrev S : List ℕ
S = bytes "program p; var x; "

programs :
    (walk_on (parse (S ++ bytes "begin x:=1 end")) [] 1000 ≡ seen done 5 4 (pos 1 ∷ []) [])
    × (walk_on (parse (S ++ bytes "begin if x=0 then x:=2 end")) [] 1000 ≡ seen done 10 5 (pos 2 ∷ []) [])
    × (walk_on (parse (S ++ bytes "begin if odd x then x:=2 else x:=3 end")) [] 1000 ≡ seen done 8 5 (pos 3 ∷ []) [])
    × (walk_on (parse (S ++ bytes "begin while x<2 do x:=x+1 end")) [] 1000 ≡ seen done 25 7 (pos 2 ∷ []) [])
    × (walk_on (parse (S ++ bytes "begin x:=-7/2; write(x,7-2) end")) [] 1000 ≡ seen done 15 6 (negsuc 2 ∷ []) (bytes "-3  5  \n"))
    × (walk_on (parse (S ++ bytes "begin read(x) end")) (bytes "5") 1000 ≡ seen done 5 4 (pos 5 ∷ []) (bytes "<== Please input: "))
    × (walk_on (parse (S ++ bytes "begin read(x) end")) (bytes "5") 17 ≡ seen output_full 2 4 (pos 0 ∷ []) [])
unfolding reading eq_z fits checked quotient arith compare decimal_of decimal prompt line after_line field magnitude plus minus value_of entry is_in all_in same_scope find_in find declared one_more fresh const_rows var_rows push walk_exp walk_cond store loop put read_line walk_reads walk_writes walk_stmt walk_main walked begin declared_rows walk_block
programs = (refl, refl, refl, refl, refl, refl, refl)

-- every cell is taken
abbrev full : State
full = record { top = 4096; vars = []; out = []; input = []; lines = 0 }

-- 17, and before 22
last_cell : (push (pos 1) 5 full ≡ stop cell_outside 5 full) × (read_line 100 5 full ≡ stop cell_outside 5 full)
unfolding push read_line
last_cell = (refl, refl)

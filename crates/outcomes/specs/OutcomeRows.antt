-- Rows of the public outcomes: rooms that are too small, more than 4,096 code places, and what is left in lent lists.
use Rattle.std.specs.Prelude.{◌≡◌, refl, List, [], ◌∷◌, ◌++◌, ℕ, ℤ, pos, negsuc, replicate}
use Rattle.numbers.specs.Panel.{done, body_failed_quietly, too_many_instructions, not_an_operation, room_too_small, procedure_in_tree}
use Rattle.numbers.specs.Bytes.{bytes}
use Rattle.pcode.specs.Code.{Code}
use Rattle.outcomes.specs.Computing.{computing}
use Rattle.machine.specs.Outcome.{run_leaves, run_outcome}
use Rattle.outcomes.specs.Outcomes.{compile_leaves, compile_outcome, walk_leaves, walk_outcome, Work}

-- n places with 7 in them
abbrev sevens : ℕ → List ℕ
sevens n = replicate n 7

abbrev pos7 : ℕ → List ℤ
pos7 n = replicate n (pos 7)

abbrev room : ℕ → Code
room n = record { kinds = pos7 n; levels = sevens n; operands = pos7 n }

-- a working room with sevens in it
abbrev working : ℕ → ℕ → ℕ → Work
working t r d = record { tree = sevens t; table = sevens r; draft = sevens d }

-- as large as it must be
abbrev ample : Work
ample = working 98400 6144 16384

sheet : List ℕ
sheet = bytes "program p; var x; begin x:=1 end"

-- 24: one place too few, and nothing has changed
small_code : compile_outcome sheet (room 4095) ample ≡ record { number = room_too_small; length = 0; code = room 4095; work = ample }
unfolding computing compile_outcome sheet
small_code = refl

small_work :
    (compile_outcome sheet (room 4096) (working 98399 6144 16384) ≡ record { number = room_too_small; length = 0; code = room 4096; work = working 98399 6144 16384 })
    × ((compile_outcome sheet (room 4096) (working 98400 6143 16384)).number ≡ room_too_small)
    × ((compile_outcome sheet (room 4096) (working 98400 6144 16383)).number ≡ room_too_small)
unfolding computing compile_outcome sheet
small_work = (refl, refl, refl)

-- the sheet's code, NIL 0 0 up to place 4,095, and the two places past it as they were
code_left : (compile_outcome sheet (room 4098) ample).code ≡ record {
  kinds = pos 7 ∷ pos 6 ∷ pos 0 ∷ pos 3 ∷ pos 1 ∷ replicate 4091 (negsuc 0) ++ pos7 2;
  levels = replicate 4096 0 ++ sevens 2;
  operands = pos 1 ∷ pos 4 ∷ pos 1 ∷ pos 3 ∷ replicate 4092 (pos 0) ++ pos7 2;
}
unfolding computing compile_leaves compile_outcome sheet
code_left = refl

-- NIL 0 0 everywhere on refusal
code_refused : ((compile_outcome (bytes "program p; begin ; end") (room 4097) ample).code ≡ record { kinds = replicate 4096 (negsuc 0) ++ pos7 1; levels = replicate 4096 0 ++ sevens 1; operands = replicate 4096 (pos 0) ++ pos7 1 })
    × ((compile_outcome (bytes "program p; begin ; end") (room 4097) ample).number ≡ body_failed_quietly)
unfolding computing compile_leaves compile_outcome
code_refused = (refl, refl)

-- working room is zero, and past it as it was
work_left : (compile_outcome sheet (room 4096) (working 98401 6145 16385)).work ≡ record { tree = replicate 98400 0 ++ sevens 1; table = replicate 6144 0 ++ sevens 1; draft = replicate 16384 0 ++ sevens 1 }
unfolding computing compile_leaves compile_outcome sheet
work_left = refl

-- run: 24; 15, with the cells zeroed; an unknown kind counts as NIL; cells and output past what was written as they were
small_cells : run_outcome (room 1) [] 5 (sevens 3) (pos7 4095) ≡ record { number = room_too_small; out_length = 0; lines = 0; steps = 0; out = sevens 3; cells = pos7 4095 }
unfolding computing run_outcome
small_cells = refl

too_long : run_outcome (room 4097) [] 5 (sevens 3) (pos7 4098) ≡ record { number = too_many_instructions; out_length = 0; lines = 0; steps = 0; out = sevens 3; cells = replicate 4096 (pos 0) ++ pos7 2 }
unfolding computing run_leaves run_outcome
too_long = refl

no_such_kind : run_outcome (record { kinds = pos 0 ∷ pos 11 ∷ []; levels = 0 ∷ 0 ∷ []; operands = pos 5 ∷ pos 0 ∷ [] }) [] 5 (sevens 3) (pos7 4096)
    ≡ record { number = not_an_operation; out_length = 0; lines = 0; steps = 1; out = sevens 3; cells = pos 5 ∷ replicate 4095 (pos 0) }
unfolding computing run_leaves run_outcome
no_such_kind = refl

wrote : run_outcome (record { kinds = pos 0 ∷ pos 10 ∷ pos 7 ∷ []; levels = 0 ∷ 0 ∷ 0 ∷ []; operands = pos 5 ∷ pos 0 ∷ pos 0 ∷ [] }) [] 5 (sevens 5) (pos7 4096)
    ≡ record { number = done; out_length = 3; lines = 0; steps = 3; out = bytes "5  " ++ sevens 2; cells = pos 5 ∷ replicate 4095 (pos 0) }
unfolding computing run_leaves run_outcome
wrote = refl

-- walk: 24; the variables, zero beyond them, and past 512 as it was; zero throughout on 25
small_vars : walk_outcome sheet [] 5 (sevens 3) (pos7 511) ample ≡ record { number = room_too_small; out_length = 0; lines = 0; steps = 0; out = sevens 3; vars = pos7 511; work = ample }
unfolding computing walk_outcome sheet
small_vars = refl

walk_left : let x = walk_outcome sheet [] 5 (sevens 3) (pos7 513) ample in (x.number ≡ done) × (x.steps ≡ 5) × (x.out ≡ sevens 3) × (x.vars ≡ pos 1 ∷ replicate 511 (pos 0) ++ pos7 1)
unfolding computing walk_leaves walk_outcome sheet
walk_left = (refl, refl, refl, refl)

walk_refused : let x = walk_outcome (bytes "program p; procedure q(); begin write(1) end begin call q() end") [] 5 (sevens 3) (pos7 513) ample in
    (x.number ≡ procedure_in_tree) × (x.steps ≡ 0) × (x.out ≡ sevens 3) × (x.vars ≡ replicate 512 (pos 0) ++ pos7 1)
unfolding computing walk_leaves walk_outcome
walk_refused = (refl, refl, refl, refl)

-- compile and walk as answers: what a text gives, before anything is put into a lent list.
use Rattle.std.specs.Prelude.{List, [], ℕ}
use Rattle.numbers.specs.Panel.{done, procedure_in_tree}
use Rattle.tree.specs.Tree.{Procs, no_procs, proc}
use Rattle.grammar.specs.Grammar.{parse, Parsed, tree, refused}
use Rattle.grammar.specs.Source.{reading}
use Rattle.pcode.specs.Code.{Instr}
use Rattle.translator.specs.Translate.{Done, finished, failed, block_code}
use Rattle.walk.specs.Walk.{Walked, begin, walk_block}

-- the code, or the refusal's number
pub data Compiled : Type 0 where
  accepted : List Instr → Compiled
  not_accepted : ℕ → Compiled

-- the number that the panel shows
abbrev pub number_of : Compiled → ℕ
number_of (accepted c) = done
number_of (not_accepted n) = n

-- the code, none if refused
abbrev pub code_of : Compiled → List Instr
code_of (accepted c) = c
code_of (not_accepted n) = []

-- what the translator gave
unfoldable pub translated : Done → Compiled
translated (finished c rs a) = accepted c
translated (failed n) = not_accepted n

-- what the parser gave, translated
unfoldable pub from_tree : Parsed → Compiled
from_tree (tree b) = translated (block_code b)
from_tree (refused n) = not_accepted n

-- "then 1, 2, then the parser's first refusal in reading order", which is the parser's `reading`; "then the translator's first in its own order"
unfoldable pub compile : List ℕ → Compiled
compile src = from_tree (reading src)

-- no step was made
abbrev pub unwalked : ℕ → List ℕ → ℕ → Walked
unwalked n input budget = record { number = n; left = budget; final = begin 0 input }

-- "walk, and the tree holds a procedure" is 25
abbrev pub walk_unless : Procs → Walked → List ℕ → ℕ → Walked
walk_unless no_procs x input budget = x
walk_unless (proc n ar cs vs ps s l) x input budget = unwalked procedure_in_tree input budget

-- the walk on what the parser gave
abbrev pub walk_parsed : Parsed → List ℕ → ℕ → ℕ → Walked
walk_parsed (tree b) input budget room = walk_unless b.procs (walk_block b input budget room) input budget
walk_parsed (refused n) input budget room = unwalked n input budget

-- compile's refusals first
abbrev pub walk_after : Compiled → Parsed → List ℕ → ℕ → ℕ → Walked
walk_after (accepted c) t input budget room = walk_parsed t input budget room
walk_after (not_accepted n) t input budget room = unwalked n input budget

-- "Walk: all of compile, then 25", then the walk on the tree
unfoldable pub walk : List ℕ → List ℕ → ℕ → ℕ → Walked
walk src input budget room = walk_after (compile src) (parse src) input budget room

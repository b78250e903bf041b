-- 01, "The walk": evaluation on the tree alone, with its steps and its top counted. It runs no code.
use Rattle.std.specs.Prelude.{Bool, true, false, List, [], ◌∷◌, ◌++◌, ℕ, zero, suc, ◌+◌, ◌-◌, ℤ, pos, ltb, length, get_or, set, replicate}
use Rattle.std.proofs.Math.Option.{Option, none, some}
use Rattle.numbers.specs.Panel.{done, budget_spent, cell_outside, bad_entry, output_full}
use Rattle.numbers.specs.Limits.{max_cells}
use Rattle.numbers.specs.Arithmetic.{eq_z, Val, val, fault, arith, compared, negated, oddness}
use Rattle.numbers.specs.Screen.{written, newline, prompt, fits_in}
use Rattle.numbers.specs.Line.{entry, after_line}
use Rattle.numbers.specs.Stack.{links, after_test, after_write}
use Rattle.lexer.specs.Tokens.{Name}
use Rattle.tree.specs.Tree.{Exp, lit, ref, neg, chain, brackets, Chain, end, link, Cond, is_odd, rel, Stmt, assign, if_then, if_else, while, call, body, read_s, write_s, Stmts, last, more, Block}
use Rattle.symbols.specs.Symbols.{Kind, const, var, procedure, main_scope, Row, find, rows_of, const_rows, var_rows}

-- the top that the machine would have, the variables, the output so far, the input left and the lines taken
pub record State : Type 0 where
  pub top : ℕ
  pub vars : List ℤ
  pub out : List ℕ
  pub input : List ℕ
  pub lines : ℕ

-- each answer has the budget that is left and the state; `stop` has the refusal's number first
pub data Result (A : Type 0) : Type 0 where
  ok : A → ℕ → State → Result A
  stop : ℕ → ℕ → State → Result A

-- from a budget and a state to an answer
abbrev pub Walk : Type 0 → Type 0
Walk A = ℕ → State → Result A

-- one after the other: a refusal ends the walk
abbrev pub then : {A B : Type 0} → (A → Walk B) → Result A → Result B
then k (ok a b w) = k a b w
then k (stop n b w) = stop n b w

infixr 20 ◌>>=◌
abbrev pub ◌>>=◌ : {A B : Type 0} → Walk A → (A → Walk B) → Walk B
◌>>=◌ p k = λ b w. then k (p b w)

infixr 20 ◌>>◌
abbrev pub ◌>>◌ : {A B : Type 0} → Walk A → Walk B → Walk B
◌>>◌ p q = λ b w. then (λ a. q) (p b w)

-- a value, with no step
abbrev pub pure : {A : Type 0} → A → Walk A
pure a b w = ok a b w

-- the first where the test passes, and the second where it does not
abbrev pub whether : {A : Type 0} → Bool → A → A → A
whether true p q = p
whether false p q = q

-- one step that changes the state: 16 first
abbrev pub step : {A : Type 0} → A → State → Walk A
step a w' zero w = stop budget_spent zero w
step a w' (suc b) w = ok a b w'

-- one step that is refused: 16 first
abbrev pub refuse : {A : Type 0} → ℕ → Walk A
refuse n zero w = stop budget_spent zero w
refuse n (suc b) w = stop n (suc b) w

-- one step that changes nothing
abbrev pub tick : Walk (Unit {0})
tick b w = step tt w b w

-- a step where the test passes, and the refusal n where it does not
abbrev pub unless : {A : Type 0} → Bool → ℕ → A → State → Walk A
unless true n a w' b w = step a w' b w
unless false n a w' b w = refuse n b w

-- with another top
abbrev pub at_top : ℕ → State → State
at_top t w = record { top = t; vars = w.vars; out = w.out; input = w.input; lines = w.lines }

-- the value on top goes to the variable in place i
abbrev pub stored : ℕ → ℤ → State → State
stored i z w = record { top = w.top - 1; vars = set w.vars i z; out = w.out; input = w.input; lines = w.lines }

-- with these bytes written, and another top
abbrev pub wrote : List ℕ → ℕ → State → State
wrote bs t w = record { top = t; vars = w.vars; out = w.out ++ bs; input = w.input; lines = w.lines }

-- with the prompt written, a line taken, and its number pushed
abbrev pub took_line : State → State
took_line w = record { top = suc w.top; vars = w.vars; out = w.out ++ prompt; input = after_line w.input; lines = suc w.lines }

-- 1 for a literal or a name: a value is pushed; 17 where there is no cell
unfoldable pub push : ℤ → Walk ℤ
push z b w = unless (ltb w.top max_cells) cell_outside z (at_top (suc w.top) w) b w

-- 1 for an operator: its result, in place of what it takes off, with the top t
abbrev pub result : ℕ → Val → Walk ℤ
result t (val z) b w = step z (at_top t w) b w
result t (fault n) b w = refuse n b w

-- 1 for a leading minus or `odd`, on the value on top
abbrev pub on_one : Val → Walk ℤ
on_one u b w = result w.top u b w

-- 1 for an operator or a comparison, on the two values on top
abbrev pub on_two : Val → Walk ℤ
on_two u b w = result (w.top - 1) u b w

-- 1 for a condition tested
abbrev pub tested : Walk (Unit {0})
tested b w = step tt (at_top (after_test w.top) w) b w

-- the row that a name finds in the main block
abbrev pub row_for : List Row → Name → Option Row
row_for rs n = find rs n.text main_scope

-- a name's value: a constant's, or the variable's at the row's address
abbrev pub value_by : Row → Kind → List ℤ → ℤ
value_by r const vs = pos r.value
value_by r var vs = get_or vs (r.addr - links) (pos 0)
value_by r procedure vs = pos 0

-- the value of the row that was found
abbrev pub value_in : Option Row → List ℤ → ℤ
value_in none vs = pos 0
value_in (some r) vs = value_by r r.kind vs

-- the place of a row's variable
abbrev pub place_in : Option Row → ℕ
place_in none = 0
place_in (some r) = r.addr - links

-- over the rows that give the names their meaning
module _ (rs : List Row) where
  unfoldable mutual
    -- "Operands come before their operator, left before right"
    pub walk_exp : Exp → Walk ℤ
    walk_exp (lit v) = push (pos v)
    walk_exp (ref n) = λ b w. push (value_in (row_for rs n) w.vars) b w
    walk_exp (neg e) = walk_exp e >>= λ z. on_one (negated z)
    walk_exp (chain e c) = walk_exp e >>= λ x. walk_chain c x
    walk_exp (brackets e) = walk_exp e

    -- x is what came before
    pub walk_chain : Chain → ℤ → Walk ℤ
    walk_chain end x = pure x
    walk_chain (link o e c) x = walk_exp e >>= λ y. on_two (arith o x y) >>= λ z. walk_chain c z

  -- a condition's value
  unfoldable pub walk_cond : Cond → Walk ℤ
  walk_cond (is_odd e) = walk_exp e >>= λ z. on_one (oddness z)
  walk_cond (rel o l r) = walk_exp l >>= λ x. walk_exp r >>= λ y. on_two (compared o x y)

  -- 1 for an assignment: the value on top goes to a variable
  unfoldable pub store : Name → ℤ → Walk (Unit {0})
  store n z b w = step tt (stored (place_in (row_for rs n)) z w) b w

-- "1 per lap of a `while` back". n bounds the laps; each takes a step, so that n above the budget never comes to 0
unfoldable pub loop : ℕ → Walk ℤ → Walk (Unit {0}) → Walk (Unit {0})
loop zero c s = λ b w. stop budget_spent b w
loop (suc n) c s = c >>= λ z. tested >> whether (eq_z z (pos 0)) (pure tt) (s >> tick >> loop n c s)

-- output and input, within the output's room
module _ (room : ℕ) where
  -- bytes are written, and the top is t afterwards: 23 where they do not fit
  unfoldable pub put : List ℕ → ℕ → Walk (Unit {0})
  put bs t b w = unless (fits_in room w.out bs) output_full tt (wrote bs t w) b w

  -- "1 per number written and 1 for the line"
  abbrev pub put_number : ℤ → Walk (Unit {0})
  put_number z b w = put (written z) (after_write w.top) b w

  -- the newline
  abbrev pub put_line : Walk (Unit {0})
  put_line b w = put newline w.top b w

  -- the number of a line: 22, then 23 for the prompt
  abbrev pub got_line : Option ℤ → Walk ℤ
  got_line none b w = refuse bad_entry b w
  got_line (some z) b w = unless (fits_in room w.out prompt) output_full z (took_line w) b w

  -- "Each read takes one line": 17 first
  unfoldable pub read_line : Walk ℤ
  read_line b w = elim (ltb w.top max_cells) [ true ↦ got_line (entry w.input) b w | false ↦ refuse cell_outside b w ]

-- the frame of v variables is opened
abbrev pub opened : ℕ → Walk (Unit {0})
opened v b w = step tt (at_top (links + v) w) b w

module _ (rs : List Row) (room : ℕ) where
  -- "2 per name read"
  unfoldable pub walk_reads : List Name → Walk (Unit {0})
  walk_reads [] = pure tt
  walk_reads (n ∷ ns) = (read_line room >>= λ z. store rs n z) >> walk_reads ns

  -- each number, and then the line
  unfoldable pub walk_writes : List Exp → Walk (Unit {0})
  walk_writes [] = put_line room
  walk_writes (e ∷ es) = walk_exp rs e >>= λ z. put_number room z >> walk_writes es

  unfoldable mutual
    -- by the kind of statement
    pub walk_stmt : Stmt → Walk (Unit {0})
    walk_stmt (assign n e) = walk_exp rs e >>= λ z. store rs n z
    -- "1 per condition tested; 1 after a `then` part"
    walk_stmt (if_then c s) = walk_cond rs c >>= λ z. tested >> whether (eq_z z (pos 0)) (pure tt) (walk_stmt s >> tick)
    walk_stmt (if_else c s e) = walk_cond rs c >>= λ z. tested >> whether (eq_z z (pos 0)) (walk_stmt e) (walk_stmt s >> tick)
    walk_stmt (while c s) = λ b w. loop (suc b) (walk_cond rs c) (walk_stmt s) b w
    -- never met: without a procedure the translator refuses a call with 10 or 11
    walk_stmt (call n es) = pure tt
    walk_stmt (body l) = walk_stmts l
    walk_stmt (read_s ns) = walk_reads ns
    walk_stmt (write_s es) = walk_writes es

    -- statements, one after the other
    pub walk_stmts : Stmts → Walk (Unit {0})
    walk_stmts (last s) = walk_stmt s
    walk_stmts (more s l) = walk_stmt s >> walk_stmts l

  -- "2 at the start and 1 at the end"
  unfoldable pub walk_main : ℕ → Stmts → Walk (Unit {0})
  walk_main v s = tick >> opened v >> walk_stmts s >> tick

-- the number, the budget that is left, and the state
pub record Walked : Type 0 where
  pub number : ℕ
  pub left : ℕ
  pub final : State

-- how a walk ended
unfoldable pub walked : Result (Unit {0}) → Walked
walked (ok u b w) = record { number = done; left = b; final = w }
walked (stop n b w) = record { number = n; left = b; final = w }

-- before the first step, with v variables
unfoldable pub begin : ℕ → List ℕ → State
begin v input = record { top = 0; vars = replicate v (pos 0); out = []; input = input; lines = 0 }

-- the rows of a main block without procedures
unfoldable pub declared_rows : Block → List Row
declared_rows b = rows_of (var_rows (rows_of (const_rows [] 0 links main_scope b.consts)) 0 links main_scope b.vars)

-- the walk on a tree without procedures
unfoldable pub walk_block : Block → List ℕ → ℕ → ℕ → Walked
walk_block b input budget room = let v = length b.vars in walked (walk_main (declared_rows b) room v b.main budget (begin v input))

-- 01, "Names and code": what expressions and statements become.
use Rattle.std.specs.Prelude.{true, false, List, [], ◌∷◌, ℕ, ◌-◌, pos, leb, eqb, length}
use Rattle.std.proofs.Math.Option.{Option, none, some}
use Rattle.numbers.specs.Panel.{name_not_found, wrong_kind, wrong_arguments, level_above}
use Rattle.lexer.specs.Tokens.{Name}
use Rattle.tree.specs.Tree.{Exp, lit, ref, neg, chain, brackets, Chain, end, link, Cond, is_odd, rel, Stmt, assign, if_then, if_else, while, call, body, read_s, write_s, Stmts, last, more}
use Rattle.pcode.specs.Operators.{negate, arithmetic, odd, comparison, write, new_line, read}
use Rattle.pcode.specs.Code.{Op, LIT, LOD, STO, CAL, JMP, JPC}
use Rattle.symbols.specs.Symbols.{Kind, const, var, procedure, Scope, Row, find}
use Rattle.emission.specs.Pieces.{Piece, ◌⨾◌, nothing, refusing, emit, emit_oper, jump_over}

-- what holds while statements are translated
pub record Env : Type 0 where
  pub rows : List Row
  pub level : ℕ
  pub scope : Scope

-- the row that a name finds
abbrev pub row_for : Env → Name → Option Row
row_for ρ n = find ρ.rows n.text ρ.scope

-- "Levels: current minus the row's"; 13 where the row's is above
unfoldable pub reach : Op → Env → Row → ℕ → Piece
reach o ρ r a = elim (leb r.level ρ.level) [ true ↦ emit o (ρ.level - r.level) (pos a) | false ↦ refusing level_above ]

-- a name in an expression, by the kind of its row
abbrev pub value_code : Env → Row → Kind → Piece
value_code ρ r const = emit LIT 0 (pos r.value)
value_code ρ r var = reach LOD ρ r r.addr
value_code ρ r procedure = refusing wrong_kind

-- "name not found" is 10
abbrev pub used : Env → Option Row → Piece
used ρ none = refusing name_not_found
used ρ (some r) = value_code ρ r r.kind

unfoldable mutual
  -- operands and then their operator, left before right
  pub exp_code : Env → Exp → Piece
  exp_code ρ (lit v) = emit LIT 0 (pos v)
  exp_code ρ (ref n) = used ρ (row_for ρ n)
  exp_code ρ (neg e) = exp_code ρ e ⨾ emit_oper negate
  exp_code ρ (chain e c) = exp_code ρ e ⨾ chain_code ρ c
  exp_code ρ (brackets e) = exp_code ρ e

  -- {sign operand}: the operand and then the operator
  pub chain_code : Env → Chain → Piece
  chain_code ρ end = nothing
  chain_code ρ (link o e c) = exp_code ρ e ⨾ emit_oper (arithmetic o) ⨾ chain_code ρ c

-- a condition leaves its value on top
unfoldable pub cond_code : Env → Cond → Piece
cond_code ρ (is_odd e) = exp_code ρ e ⨾ emit_oper odd
cond_code ρ (rel o a b) = exp_code ρ a ⨾ exp_code ρ b ⨾ emit_oper (comparison o)

-- a call's arguments
unfoldable pub args_code : Env → List Exp → Piece
args_code ρ [] = nothing
args_code ρ (e ∷ es) = exp_code ρ e ⨾ args_code ρ es

-- "Write: exp, OPR 14 each, then OPR 15"
unfoldable pub writes_code : Env → List Exp → Piece
writes_code ρ [] = emit_oper new_line
writes_code ρ (e ∷ es) = exp_code ρ e ⨾ emit_oper write ⨾ writes_code ρ es

-- a name that must be a variable: "name of the wrong kind" is 11
abbrev pub if_var : Kind → Piece → Piece
if_var const g = refusing wrong_kind
if_var var g = g
if_var procedure g = refusing wrong_kind

-- a name that must be a procedure
abbrev pub if_proc : Kind → Piece → Piece
if_proc const g = refusing wrong_kind
if_proc var g = refusing wrong_kind
if_proc procedure g = g

-- the name must be a variable; then the piece, then STO to it: "Checks come before the expressions or arguments; 13 comes after them"
abbrev pub storing : Env → Piece → Option Row → Piece
storing ρ g none = refusing name_not_found
storing ρ g (some r) = if_var r.kind (g ⨾ reach STO ρ r r.addr)

-- "Read: OPR 16, STO each"
unfoldable pub reads_code : Env → List Name → Piece
reads_code ρ [] = nothing
reads_code ρ (n ∷ ns) = storing ρ (emit_oper read) (row_for ρ n) ⨾ reads_code ρ ns

-- the name must be a procedure with that many arguments; then the arguments, then CAL
abbrev pub call_code : Env → List Exp → Option Row → Piece
call_code ρ es none = refusing name_not_found
call_code ρ es (some r) = if_proc r.kind (elim (eqb r.size (length es)) [ true ↦ args_code ρ es ⨾ reach CAL ρ r r.value | false ↦ refusing wrong_arguments ])

unfoldable mutual
  -- by the kind of statement
  pub stmt_code : Env → Stmt → Piece
  stmt_code ρ (assign n e) = storing ρ (exp_code ρ e) (row_for ρ n)
  -- "If: cond, JPC, then, JMP, else; JPC points past JMP, JMP past all"
  stmt_code ρ (if_then c s) = cond_code ρ c ⨾ jump_over JPC 1 (stmt_code ρ s) ⨾ jump_over JMP 0 nothing
  stmt_code ρ (if_else c s e) = cond_code ρ c ⨾ jump_over JPC 1 (stmt_code ρ s) ⨾ jump_over JMP 0 (stmt_code ρ e)
  -- "While: cond, JPC out, statement, JMP back"
  stmt_code ρ (while c s) = λ p. (cond_code ρ c ⨾ jump_over JPC 1 (stmt_code ρ s) ⨾ emit JMP 0 (pos p)) p
  stmt_code ρ (call n es) = call_code ρ es (row_for ρ n)
  stmt_code ρ (body s) = stmts_code ρ s
  stmt_code ρ (read_s ns) = reads_code ρ ns
  stmt_code ρ (write_s es) = writes_code ρ es

  -- statements, one after the other
  pub stmts_code : Env → Stmts → Piece
  stmts_code ρ (last s) = stmt_code ρ s
  stmts_code ρ (more s l) = stmt_code ρ s ⨾ stmts_code ρ l

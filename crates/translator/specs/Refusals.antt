-- No refusal of the translator has the number 0.
use Rattle.std.specs.Prelude.{◌≡◌, refl, Bool, true, false, List, [], ◌∷◌, ℕ, zero, suc, ◌+◌, ℤ, leb, ltb, eqb, length}
use Rattle.std.proofs.Math.Option.{Option, none, some}
use Rattle.numbers.specs.Panel.{name_not_found, wrong_kind, wrong_arguments, level_above}
use Rattle.numbers.specs.Limits.{max_rows, max_code}
use Rattle.lexer.specs.Tokens.{Name}
use Rattle.tree.specs.Tree.{Exp, lit, ref, neg, chain, brackets, Chain, end, link, Cond, is_odd, rel, Stmt, assign, if_then, if_else, while, call, body, read_s, write_s, Stmts, last, more, Const, Procs, no_procs, proc, Block}
use Rattle.pcode.specs.Code.{Op, Instr}
use Rattle.emission.specs.Pieces.{Out, made, refuse, Piece, onward, before, ◌⨾◌, nothing, emit, refusing, jump_past, jump_over}
use Rattle.symbols.specs.Symbols.{rows, Kind, const, var, procedure, Row, find, declared, Rows, refuse_rows, and_rows, one_more, fresh, const_rows, var_rows, arg_rows}
use Rattle.emission.specs.Statements.{Env, reach, value_code, used, exp_code, chain_code, cond_code, args_code, writes_code, if_var, if_proc, storing, reads_code, call_code, stmt_code, stmts_code}
use Rattle.translator.specs.Translate.{stas, Done, finished, failed, with_rows, with_done, with_code, procs_code, block_code}

data Numbered : Out → Type 0 where
  is_made : {c : List Instr} → Numbered (made c)
  is_no : {n : ℕ} → ltb 0 n ≡ true → Numbered (refuse n)

abbrev Always : Piece → Type 0
Always g = (p : ℕ) → Numbered (g p)

test_out : (x : Bool) (a b : Out) → Numbered a → Numbered b → Numbered (elim x as (λ y. Out) [ true ↦ a | false ↦ b ])
test_out true a b h k = h
test_out false a b h k = k

test : (x : Bool) (a b : Piece) → Always a → Always b → Always (elim x as (λ y. Piece) [ true ↦ a | false ↦ b ])
test true a b h k = h
test false a b h k = k

before_no : {o : Out} (c : List Instr) → Numbered o → Numbered (before c o)
before_no c is_made = is_made
before_no c (is_no l) = is_no l

onward_no : {o : Out} (p : ℕ) (h : Piece) → Numbered o → Always h → Numbered (onward p h o)
onward_no p h (is_made {c}) k = before_no c (k (p + length c))
onward_no p h (is_no l) k = is_no l

infixr 30 ◌⨟◌
◌⨟◌ : {g h : Piece} → Always g → Always h → Always (g ⨾ h)
unfolding ◌⨾◌
◌⨟◌ {g} {h} a b = λ p. onward_no p h (a p) b

jumped_no : {x : Out} (o : Op) (k p : ℕ) → Numbered x → Numbered (jump_past o k p x)
jumped_no o k p is_made = is_made
jumped_no o k p (is_no l) = is_no l

emit_no : (o : Op) (l : ℕ) (a : ℤ) → Always (emit o l a)
unfolding emit
emit_no o l a p = test_out (ltb p max_code) _ _ is_made (is_no refl)

no_no : (n : ℕ) → ltb 0 n ≡ true → Always (refusing n)
unfolding refusing
no_no n l p = is_no l

nothing_no : Always nothing
unfolding nothing
nothing_no p = is_made

jump_no : (o : Op) (k : ℕ) {g : Piece} → Always g → Always (jump_over o k g)
unfolding jump_over
jump_no o k h p = test_out (ltb p max_code) _ _ (jumped_no o k p (h (suc p))) (is_no refl)

reach_no : (o : Op) (ρ : Env) (r : Row) (a : ℕ) → Always (reach o ρ r a)
unfolding reach
reach_no o ρ r a = test (leb r.level ρ.level) _ _ (emit_no o _ _) (no_no level_above refl)

reading_no : (ρ : Env) (r : Row) (k : Kind) → Always (value_code ρ r k)
reading_no ρ r const = emit_no _ _ _
reading_no ρ r var = reach_no _ ρ r _
reading_no ρ r procedure = no_no wrong_kind refl

used_no : (ρ : Env) (f : Option Row) → Always (used ρ f)
used_no ρ none = no_no name_not_found refl
used_no ρ (some r) = reading_no ρ r r.kind

mutual
  unfolding exp_code

  exp_no_lem : (ρ : Env) (e : Exp) → Always (exp_code ρ e)
  exp_no_lem ρ (lit v) = emit_no _ _ _
  exp_no_lem ρ (ref n) = used_no ρ (find ρ.rows n.text ρ.scope)
  exp_no_lem ρ (neg e) = exp_no_lem ρ e ⨟ emit_no _ _ _
  exp_no_lem ρ (chain e c) = exp_no_lem ρ e ⨟ chain_no ρ c
  exp_no_lem ρ (brackets e) = exp_no_lem ρ e

  chain_no : (ρ : Env) (c : Chain) → Always (chain_code ρ c)
  chain_no ρ end = nothing_no
  chain_no ρ (link o e c) = exp_no_lem ρ e ⨟ emit_no _ _ _ ⨟ chain_no ρ c

cond_no_lem : (ρ : Env) (c : Cond) → Always (cond_code ρ c)
unfolding cond_code
cond_no_lem ρ (is_odd e) = exp_no_lem ρ e ⨟ emit_no _ _ _
cond_no_lem ρ (rel o a b) = exp_no_lem ρ a ⨟ exp_no_lem ρ b ⨟ emit_no _ _ _

exps_no : (ρ : Env) (es : List Exp) → Always (args_code ρ es)
unfolding args_code
exps_no ρ [] = nothing_no
exps_no ρ (e ∷ es) = exp_no_lem ρ e ⨟ exps_no ρ es

writes_no : (ρ : Env) (es : List Exp) → Always (writes_code ρ es)
unfolding writes_code
writes_no ρ [] = emit_no _ _ _
writes_no ρ (e ∷ es) = exp_no_lem ρ e ⨟ emit_no _ _ _ ⨟ writes_no ρ es

if_var_no : (k : Kind) (g : Piece) → Always g → Always (if_var k g)
if_var_no const g h = no_no wrong_kind refl
if_var_no var g h = h
if_var_no procedure g h = no_no wrong_kind refl

if_proc_no : (k : Kind) (g : Piece) → Always g → Always (if_proc k g)
if_proc_no const g h = no_no wrong_kind refl
if_proc_no var g h = no_no wrong_kind refl
if_proc_no procedure g h = h

storing_no : (ρ : Env) (g : Piece) (f : Option Row) → Always g → Always (storing ρ g f)
storing_no ρ g none h = no_no name_not_found refl
storing_no ρ g (some r) h = if_var_no r.kind _ (h ⨟ reach_no _ ρ r _)

reads_no : (ρ : Env) (ns : List Name) → Always (reads_code ρ ns)
unfolding reads_code
reads_no ρ [] = nothing_no
reads_no ρ (n ∷ ns) = storing_no ρ _ (find ρ.rows n.text ρ.scope) (emit_no _ _ _) ⨟ reads_no ρ ns

calling_no : (ρ : Env) (es : List Exp) (f : Option Row) → Always (call_code ρ es f)
calling_no ρ es none = no_no name_not_found refl
calling_no ρ es (some r) = if_proc_no r.kind _ (test (eqb r.size (length es)) _ _ (exps_no ρ es ⨟ reach_no _ ρ r _) (no_no wrong_arguments refl))

mutual
  unfolding stmt_code

  stmt_no_lem : (ρ : Env) (s : Stmt) → Always (stmt_code ρ s)
  stmt_no_lem ρ (assign n e) = storing_no ρ _ (find ρ.rows n.text ρ.scope) (exp_no_lem ρ e)
  stmt_no_lem ρ (if_then c s) = cond_no_lem ρ c ⨟ jump_no _ _ (stmt_no_lem ρ s) ⨟ jump_no _ _ nothing_no
  stmt_no_lem ρ (if_else c s e) = cond_no_lem ρ c ⨟ jump_no _ _ (stmt_no_lem ρ s) ⨟ jump_no _ _ (stmt_no_lem ρ e)
  stmt_no_lem ρ (while c s) = λ p. (cond_no_lem ρ c ⨟ jump_no _ _ (stmt_no_lem ρ s) ⨟ emit_no _ _ _) p
  stmt_no_lem ρ (call n es) = calling_no ρ es (find ρ.rows n.text ρ.scope)
  stmt_no_lem ρ (body s) = stmts_no ρ s
  stmt_no_lem ρ (read_s ns) = reads_no ρ ns
  stmt_no_lem ρ (write_s es) = writes_no ρ es

  stmts_no : (ρ : Env) (l : Stmts) → Always (stmts_code ρ l)
  stmts_no ρ (last s) = stmt_no_lem ρ s
  stmts_no ρ (more s l) = stmt_no_lem ρ s ⨟ stmts_no ρ l

-- declarations and blocks

data RowsNumbered : Rows → Type 0 where
  are_rows : {rs : List Row} → RowsNumbered (rows rs)
  no_rows : {n : ℕ} → ltb 0 n ≡ true → RowsNumbered (refuse_rows n)

test_rows : (x : Bool) (a b : Rows) → RowsNumbered a → RowsNumbered b → RowsNumbered (elim x as (λ y. Rows) [ true ↦ a | false ↦ b ])
test_rows true a b h k = h
test_rows false a b h k = k

and_no : {x : Rows} (k : List Row → Rows) → RowsNumbered x → ((rs : List Row) → RowsNumbered (k rs)) → RowsNumbered (and_rows x k)
and_no k (are_rows {rs}) f = f rs
and_no k (no_rows l) f = no_rows l

more_no : (rs : List Row) (r : Row) → RowsNumbered (one_more rs r)
unfolding one_more
more_no rs r = test_rows (ltb (length rs) max_rows) _ _ are_rows (no_rows refl)

fresh_no : (rs : List Row) (r : Row) → RowsNumbered (fresh rs r)
unfolding fresh
fresh_no rs r = test_rows (declared rs r.name r.scope) _ _ (no_rows refl) (more_no rs r)

const_no : (cs : List Const) (rs : List Row) (l a : ℕ) (sc : List (List ℕ)) → RowsNumbered (const_rows rs l a sc cs)
unfolding const_rows
const_no [] rs l a sc = are_rows
const_no (c ∷ cs) rs l a sc = and_no _ (fresh_no rs _) λ r. const_no cs r l a sc

var_no : (ns : List Name) (rs : List Row) (l a : ℕ) (sc : List (List ℕ)) → RowsNumbered (var_rows rs l a sc ns)
unfolding var_rows
var_no [] rs l a sc = are_rows
var_no (n ∷ ns) rs l a sc = and_no _ (fresh_no rs _) λ r. var_no ns r l (suc a) sc

arg_no : (ns : List Name) (rs : List Row) (l a : ℕ) (sc : List (List ℕ)) → RowsNumbered (arg_rows rs l a sc ns)
unfolding arg_rows
arg_no [] rs l a sc = are_rows
arg_no (n ∷ ns) rs l a sc = and_no _ (more_no rs _) λ r. arg_no ns r l (suc a) sc

stas_no : (k n i : ℕ) → Always (stas n i k)
unfolding stas
stas_no zero n i = nothing_no
stas_no (suc k) n i = emit_no _ _ _ ⨟ stas_no k n (suc i)

pub data DoneNumbered : Done → Type 0 where
  is_done : {c : List Instr} {rs : List Row} {a : ℕ} → DoneNumbered (finished c rs a)
  not_done : {n : ℕ} → ltb 0 n ≡ true → DoneNumbered (failed n)

with_rows_lem : {x : Rows} (k : List Row → Done) → RowsNumbered x → ((rs : List Row) → DoneNumbered (k rs)) → DoneNumbered (with_rows x k)
with_rows_lem k (are_rows {rs}) f = f rs
with_rows_lem k (no_rows l) f = not_done l

with_done_lem : {x : Done} (k : List Instr → List Row → ℕ → Done) → DoneNumbered x → ((c : List Instr) (rs : List Row) (a : ℕ) → DoneNumbered (k c rs a)) → DoneNumbered (with_done x k)
with_done_lem k (is_done {c} {rs} {a}) f = f c rs a
with_done_lem k (not_done l) f = not_done l

with_code_lem : {x : Out} (k : List Instr → Done) → Numbered x → ((c : List Instr) → DoneNumbered (k c)) → DoneNumbered (with_code x k)
with_code_lem k (is_made {c}) f = f c
with_code_lem k (is_no l) f = not_done l

test_done : (x : Bool) (a b : Done) → DoneNumbered a → DoneNumbered b → DoneNumbered (elim x as (λ y. Done) [ true ↦ a | false ↦ b ])
test_done true a b h k = h
test_done false a b h k = k

procs_no_lem : (ps : Procs) (l : ℕ) (sc : List (List ℕ)) (a : ℕ) (rs : List Row) (p : ℕ) → DoneNumbered (procs_code ps l sc a rs p)
unfolding procs_code
procs_no_lem no_procs l sc a rs p = is_done
procs_no_lem (proc n ar cs vs inner b later) l sc a rs p =
    with_rows_lem _ (fresh_no rs _) λ r1.
    with_rows_lem _ (arg_no ar r1 _ _ _) λ r2.
    test_done (ltb p max_code) _ _
    (with_rows_lem _ (const_no cs r2 _ _ _) λ r3.
    with_rows_lem _ (var_no vs r3 _ _ _) λ r4.
    with_done_lem _ (procs_no_lem inner _ _ _ r4 _) λ c1 r5 a1.
    with_code_lem _ ((stas_no (length ar) (length ar) 1 ⨟ emit_no _ _ _ ⨟ stmts_no _ b ⨟ emit_no _ _ _) _) λ c2.
    with_done_lem _ (procs_no_lem later _ _ _ _ _) λ c3 r7 a3. is_done)
    (not_done refl)

-- no refusal of the translator has the number 0
pub block_no : (b : Block) → DoneNumbered (block_code b)
unfolding block_code
block_no b =
    with_rows_lem _ (const_no b.consts [] _ _ _) λ r1.
    with_rows_lem _ (var_no b.vars r1 _ _ _) λ r2.
    with_done_lem _ (procs_no_lem b.procs _ _ _ r2 _) λ c1 r3 a.
    with_code_lem _ ((emit_no _ _ _ ⨟ stmts_no _ b.main ⨟ emit_no _ _ _) _) λ c2. is_done

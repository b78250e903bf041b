-- The shape of the code that the translator makes: every piece of it has it, and so a block's code does.
use Rattle.std.specs.Prelude.{◌≡◌, refl, Bool, true, false, ◌&&◌, ℤ, pos, leb, ltb, eqb, length, get_or, set}
use mathlib.Core.List.{List, [], ◌∷◌, ◌++◌}
use Rattle.std.proofs.Math.Option.{Option, none, some}
use Prim.Native.Nat.{ℕ, zero, suc, ◌+◌, ◌-◌, ◌≤◌, ◌<◌}
use Rattle.std.proofs.Common.{arith, length-append, length-set, ltb-true}
use Rattle.numbers.specs.Panel.{too_many_instructions, level_above, wrong_arguments}
use Rattle.numbers.specs.Limits.{max_code, max_rows, greatest}
use Rattle.numbers.specs.Stack.{links}
use Rattle.numbers.specs.Bytes.{eq_list}
use Rattle.lexer.specs.Tokens.{Name}
use Rattle.tree.specs.Tree.{Exp, lit, ref, neg, chain, brackets, Chain, end, link, Cond, is_odd, rel, Stmt, assign, if_then, if_else, while, call, body, read_s, write_s, Stmts, last, more, Const, Procs, no_procs, proc, Block}
use Rattle.tree.specs.Named.{Each as NamedEach, NamedExp, NamedChain, NamedCond, NamedStmt, NamedStmts, NamedConst, NamedProcs, Named}
use Rattle.grammar.specs.Depth.{Nest}
use Rattle.pcode.specs.Operators.{Oper, negate, arithmetic, odd, comparison, write, new_line, read, return}
use Rattle.pcode.specs.Code.{Op, LOD, STO, CAL, JMP, JPC, Instr, ins, opr}
use Rattle.symbols.specs.Symbols.{Kind, const, var, procedure, Scope, main_scope, Row, no_row, find_in, find, all_in, declared, Rows, rows, refuse_rows, and_rows, one_more, fresh, const_row, var_row, proc_row, const_rows, var_rows, arg_rows}
use Rattle.emission.specs.Pieces.{Out, made, refuse, Piece, before, onward, ◌⨾◌, nothing, refusing, emit, emit_oper, jump_past, jump_over}
use Rattle.emission.specs.Statements.{Env, row_for, reach, value_code, used, exp_code, chain_code, cond_code, args_code, writes_code, if_var, if_proc, storing, reads_code, call_code, stmt_code, stmts_code}
use Rattle.translator.specs.Translate.{stas, body_code, Done, finished, failed, with_rows, with_done, with_code, entry_at, procs_code, block_code}
use Rattle.translator.specs.Shape.{furthest, Within, literal, operator, load, store, argument, calls, raise, jump, test, Each, each_none, each_more, Shape}

wider : {n m l : ℕ} {i : Instr} → n ≤ m → Within n l i → Within m l i
wider h (literal v) = literal v
wider h (operator o) = operator o
wider h (load k a) = load k a
wider h (store k a) = store k a
wider h (argument i a) = argument i a
wider h (calls t k j) = calls t k (omega (arith, j))
wider h (raise a) = raise a
wider h (jump t j) = jump t (omega (arith, j))
wider h (test t j) = test t (omega (arith, j))

module _ {A : Type 0} {P Q : A → Type 0} where
  each_map : ((x : A) → P x → Q x) → {xs : List A} → Each P xs → Each Q xs
  each_map f each_none = each_none
  each_map f (each_more {x} h t) = each_more (f x h) (each_map f t)

module _ {A : Type 0} {P : A → Type 0} where
  each_append : {xs ys : List A} → Each P xs → Each P ys → Each P (xs ++ ys)
  each_append each_none k = k
  each_append (each_more h t) k = each_more h (each_append t k)

  each_get : {xs : List A} (d : A) (i : ℕ) → P d → Each P xs → P (get_or xs i d)
  each_get d i k each_none = k
  each_get d zero k (each_more h t) = h
  each_get d (suc i) k (each_more h t) = each_get d i k t

  each_set : {xs : List A} (i : ℕ) (y : A) → Each P xs → P y → Each P (set xs i y)
  each_set i y each_none k = each_none
  each_set zero y (each_more h t) k = each_more k t
  each_set (suc i) y (each_more h t) k = each_more h (each_set i y t k)

all_wider : {n m l : ℕ} {c : List Instr} → n ≤ m → Each (λ i. Within n l i) c → Each (λ i. Within m l i) c
all_wider h e = each_map (λ i. wider h) e

-- what a piece made at p is: at least m instructions, below place 4,096, with jumps up to k places past its end
data Fine (l m k p : ℕ) : Out → Type 0 where
  is_made : (c : List Instr) → m ≤ length c → (1 ≤ length c → p + length c ≤ max_code) → Each (λ i. Within (suc (p + length c + k)) l i) c → Fine l m k p (made c)
  is_no : {n : ℕ} → Fine l m k p (refuse n)

-- wherever it is made, from place e on
abbrev FineFrom : ℕ → ℕ → ℕ → ℕ → Piece → Type 0
FineFrom l e m k g = (p : ℕ) → e ≤ p → Fine l m k p (g p)

before_fine : {l m m' k k' p : ℕ} (c : List Instr) {o : Out} → m ≤ length c → (1 ≤ length c → p + length c ≤ max_code) → Each (λ i. Within (suc (p + length c + k)) l i) c → k ≤ m'
    → Fine l m' k' (p + length c) o → Fine l (m + m') k' p (before c o)
before_fine {k = k} {k'} {p} c lc fc ec h (is_made d ld fd ed) =
    let n : length (c ++ d) ≡ length c + length d = length-append c d in
    is_made (c ++ d) (omega arith) (λ s. last_fits n s) (each_append (all_wider (omega arith) ec) (all_wider (omega arith) ed))
  where
    last_fits : length (c ++ d) ≡ length c + length d → 1 ≤ length (c ++ d) → p + length (c ++ d) ≤ max_code
    last_fits n s = go (length d) refl
      where
        go : (x : ℕ) → length d ≡ x → p + length (c ++ d) ≤ max_code
        go zero e = omega (arith, fc (omega arith), n, e)
        go (suc x) e = omega (arith, fd (omega arith), n)
before_fine c lc fc ec h is_no = is_no

onward_fine : {l m m' k k' e p : ℕ} (h : Piece) {o : Out} → e ≤ p → k ≤ m' → Fine l m k p o → FineFrom l e m' k' h → Fine l (m + m') k' p (onward p h o)
onward_fine {p = p} h le j (is_made c lc fc ec) f = before_fine c lc fc ec j (f (p + length c) (omega arith))
onward_fine h le j is_no f = is_no

-- one piece and then another, which is long enough for the jumps of the first
seq : {l e m m' k k' : ℕ} {g h : Piece} → k ≤ m' → FineFrom l e m k g → FineFrom l e m' k' h → FineFrom l e (m + m') k' (g ⨾ h)
unfolding ◌⨾◌
seq {h = h} j a b = λ p le. onward_fine h le j (a p le) b

-- fewer instructions than there are
least : {l e m k : ℕ} {g : Piece} (n : ℕ) → n ≤ m → FineFrom l e m k g → FineFrom l e n k g
least {l} {e} {m} {k} {g} n h f = λ p le. go (f p le)
  where
    go : {p : ℕ} {o : Out} → Fine l m k p o → Fine l n k p o
    go (is_made c lc fc ec) = is_made c (omega arith) fc ec
    go is_no = is_no

nothing_fine : {l e : ℕ} → FineFrom l e 0 0 nothing
unfolding nothing
nothing_fine p le = is_made [] (omega arith) (λ s. absurd (omega (arith, s))) each_none

no_fine : {l e m k : ℕ} (n : ℕ) → FineFrom l e m k (refusing n)
unfolding refusing
no_fine n p le = is_no

emit_fine : {l e : ℕ} {o : Op} {v : ℕ} {a : ℤ} → ((p : ℕ) → e ≤ p → Within (suc p) l (ins o v a)) → FineFrom l e 1 0 (emit o v a)
unfolding emit
emit_fine {l} {e} {o} {v} {a} w = λ p le. go p le (ltb p max_code) refl
  where
    go : (p : ℕ) → e ≤ p → (x : Bool) → ltb p max_code ≡ x → Fine l 1 0 p (elim x as (λ y. Out) [ true ↦ made (ins o v a ∷ []) | false ↦ refuse too_many_instructions ])
    go p le true t = is_made (ins o v a ∷ []) (omega arith) (λ s. omega (arith, ltb-true p max_code t)) (each_more (wider (omega arith) (w p le)) each_none)
    go p le false t = is_no

oper_fine : {l e : ℕ} (o : Oper) → FineFrom l e 1 0 (emit_oper o)
oper_fine o = emit_fine (λ p le. operator o)

jump_fine : {l e m : ℕ} (o : Op) (k : ℕ) {g : Piece} → ((n t : ℕ) → t < n → Within n l (ins o 0 (pos t))) → FineFrom l e m 0 g → FineFrom l e (suc m) k (jump_over o k g)
unfolding jump_over
jump_fine {l} {e} {m} o k {g} w f = λ p le. go p le (ltb p max_code) refl
  where
    past : (p : ℕ) {x : Out} → ltb p max_code ≡ true → Fine l m 0 (suc p) x → Fine l (suc m) k p (jump_past o k p x)
    past p t (is_made c lc fc ec) = is_made (ins o 0 (pos (suc p + length c + k)) ∷ c) (omega arith) (λ s. fits (length c) refl) (each_more (w (suc (p + suc (length c) + k)) (suc p + length c + k) (omega arith)) (all_wider (omega arith) ec))
      where
        fits : (n : ℕ) → length c ≡ n → p + suc (length c) ≤ max_code
        fits zero h = omega (arith, ltb-true p max_code t)
        fits (suc n) h = omega (arith, fc (omega arith))
    past p t is_no = is_no

    go : (p : ℕ) → e ≤ p → (x : Bool) → ltb p max_code ≡ x → Fine l (suc m) k p (elim x as (λ y. Out) [ true ↦ jump_past o k p (g (suc p)) | false ↦ refuse too_many_instructions ])
    go p le true t = past p t (f (suc p) (omega arith))
    go p le false t = is_no

test_fine : {l e m k : ℕ} (x : Bool) (a b : Piece) → FineFrom l e m k a → FineFrom l e m k b → FineFrom l e m k (elim x as (λ y. Piece) [ true ↦ a | false ↦ b ])
test_fine true a b h j = h
test_fine false a b h j = j

-- a piece made at p whose jumps stay within it: it has m instructions at least
data Closed (l m p : ℕ) : Out → Type 0 where
  is_closed : (c : List Instr) → m ≤ length c → p + length c ≤ max_code → Each (λ i. Within (p + length c) l i) c → Closed l m p (made c)
  not_closed : {n : ℕ} → Closed l m p (refuse n)

abbrev ClosedFrom : ℕ → ℕ → ℕ → Piece → Type 0
ClosedFrom l e m g = (p : ℕ) → e ≤ p → Closed l m p (g p)

closed_one : {l e : ℕ} (o : Oper) → ClosedFrom l e 1 (emit_oper o)
unfolding emit
closed_one {l} o = λ p le. go p (ltb p max_code) refl
  where
    go : (p : ℕ) (x : Bool) → ltb p max_code ≡ x → Closed l 1 p (elim x as (λ y. Out) [ true ↦ made (opr o ∷ []) | false ↦ refuse too_many_instructions ])
    go p true t = is_closed (opr o ∷ []) (omega arith) (omega (arith, ltb-true p max_code t)) (each_more (operator o) each_none)
    go p false t = not_closed

closed_seq : {l e m m' : ℕ} {g h : Piece} → FineFrom l e m 0 g → ClosedFrom l e (suc m') h → ClosedFrom l e (m + suc m') (g ⨾ h)
unfolding ◌⨾◌
closed_seq {l} {e} {m} {m'} {g} {h} a b = λ p le. first p le (a p le)
  where
    second : (p : ℕ) (c : List Instr) → m ≤ length c → Each (λ i. Within (suc (p + length c + 0)) l i) c → {o : Out} → Closed l (suc m') (p + length c) o → Closed l (m + suc m') p (before c o)
    second p c n w (is_closed d k f v) =
        let j : length (c ++ d) ≡ length c + length d = length-append c d in
        is_closed (c ++ d) (omega arith) (omega arith) (each_append (all_wider (omega arith) w) (all_wider (omega arith) v))
    second p c n w not_closed = not_closed

    first : (p : ℕ) → e ≤ p → {o : Out} → Fine l m 0 p o → Closed l (m + suc m') p (onward p h o)
    first p le (is_made c n f w) = second p c n w (b (p + length c) (omega arith))
    first p le is_no = not_closed

closed_least : {l e m : ℕ} {g : Piece} (n : ℕ) → n ≤ m → ClosedFrom l e m g → ClosedFrom l e n g
closed_least {l} {e} {m} {g} n h f = λ p le. go (f p le)
  where
    go : {p : ℕ} {o : Out} → Closed l m p o → Closed l n p o
    go (is_closed c k j w) = is_closed c (omega arith) j w
    go not_closed = not_closed

-- what a row says: a procedure's entry is a place up to e, a constant is within i64, and an address is one
record Known (e : ℕ) (r : Row) : Type 0 where
  entry : r.kind ≡ procedure → r.value ≤ e
  value : r.kind ≡ const → r.value ≤ greatest
  addr : r.addr ≤ furthest

all_known : {e f : ℕ} {rs : List Row} → e ≤ f → Each (Known e) rs → Each (Known f) rs
all_known h k = each_map (λ r g. record { entry = λ q. omega (arith, h, g.entry q); value = g.value; addr = g.addr }) k

-- a row that is found
data Found (e : ℕ) : Option Row → Type 0 where
  is_found : (r : Row) → Known e r → Found e (some r)
  not_found : Found e none

found_in : {e : ℕ} (rs : List Row) (w : List ℕ) (cur : Scope) (best : Option Row) → Each (Known e) rs → Found e best → Found e (find_in rs w cur best)
unfolding find_in
found_in [] w cur best k h = h
found_in {e} (r ∷ rs) w cur best (each_more g k) h = go (eq_list r.name w && all_in r.scope cur) (found_in rs w cur (some r) k (is_found r g)) (found_in rs w cur best k h)
  where
    go : (x : Bool) → Found e (find_in rs w cur (some r)) → Found e (find_in rs w cur best) → Found e (elim x as (λ y. Option Row) [ true ↦ find_in rs w cur (some r) | false ↦ find_in rs w cur best ])
    go true u v = u
    go false u v = v

found : {e : ℕ} (rs : List Row) (w : List ℕ) (cur : Scope) → Each (Known e) rs → Found e (find rs w cur)
unfolding find
found rs w cur k = found_in rs w cur none k not_found

reach_fine : {l e : ℕ} (o : Op) (ρ : Env) (r : Row) (a : ℕ) → ((v p : ℕ) → v ≤ ρ.level → e ≤ p → Within (suc p) l (ins o v (pos a))) → FineFrom l e 1 0 (reach o ρ r a)
unfolding reach
reach_fine o ρ r a w = test_fine (leb r.level ρ.level) _ _ (emit_fine (λ p le. w (ρ.level - r.level) p (omega arith) le)) (no_fine level_above)

-- statements and expressions at a level up to l, with entries up to e
module _ (l : ℕ) where
  value_fine : {e : ℕ} (ρ : Env) → ρ.level ≤ l → (r : Row) → Known e r → (k : Kind) → r.kind ≡ k → FineFrom l e 1 0 (value_code ρ r k)
  value_fine ρ h r g const q = emit_fine (λ p le. literal (g.value q))
  value_fine ρ h r g var q = reach_fine LOD ρ r r.addr (λ v p j le. load (omega (arith, j)) g.addr)
  value_fine ρ h r g procedure q = no_fine _

  used_fine : {e : ℕ} (ρ : Env) → ρ.level ≤ l → (o : Option Row) → Found e o → FineFrom l e 1 0 (used ρ o)
  used_fine ρ h o not_found = no_fine _
  used_fine ρ h o (is_found r g) = value_fine ρ h r g r.kind refl

  -- what is known of the rows and the level
  record Ready (e : ℕ) (ρ : Env) : Type 0 where
    level : ρ.level ≤ l
    rows : Each (Known e) ρ.rows

  name_found : {e : ℕ} (ρ : Env) → Ready e ρ → (n : Name) → Found e (row_for ρ n)
  name_found ρ h n = found ρ.rows n.text ρ.scope h.rows

  -- of a tree that was read from the text s
  module _ (s : List ℕ) where
    mutual
      unfolding exp_code NamedExp

      exp_fine : {e : ℕ} (ρ : Env) → Ready e ρ → (x : Exp) → NamedExp s x → FineFrom l e 0 0 (exp_code ρ x)
      exp_fine ρ h (lit v) m = least 0 (omega arith) (emit_fine (λ p le. literal m))
      exp_fine ρ h (ref n) m = least 0 (omega arith) (used_fine ρ h.level (row_for ρ n) (name_found ρ h n))
      exp_fine ρ h (neg x) m = least 0 (omega arith) (seq (omega arith) (exp_fine ρ h x m) (oper_fine negate))
      exp_fine ρ h (chain x c) m = seq (omega arith) (exp_fine ρ h x m.0) (chain_fine ρ h c m.1)
      exp_fine ρ h (brackets x) m = exp_fine ρ h x m

      chain_fine : {e : ℕ} (ρ : Env) → Ready e ρ → (c : Chain) → NamedChain s c → FineFrom l e 0 0 (chain_code ρ c)
      chain_fine ρ h end m = nothing_fine
      chain_fine ρ h (link o x c) m = least 0 (omega arith) (seq (omega arith) (exp_fine ρ h x m.0) (seq (omega arith) (oper_fine (arithmetic o)) (chain_fine ρ h c m.1)))

    cond_fine : {e : ℕ} (ρ : Env) → Ready e ρ → (c : Cond) → NamedCond s c → FineFrom l e 0 0 (cond_code ρ c)
    unfolding cond_code NamedCond
    cond_fine ρ h (is_odd x) m = least 0 (omega arith) (seq (omega arith) (exp_fine ρ h x m) (oper_fine odd))
    cond_fine ρ h (rel o x y) m = least 0 (omega arith) (seq (omega arith) (exp_fine ρ h x m.0) (seq (omega arith) (exp_fine ρ h y m.1) (oper_fine (comparison o))))

    args_fine : {e : ℕ} (ρ : Env) → Ready e ρ → (xs : List Exp) → NamedEach (NamedExp s) xs → FineFrom l e 0 0 (args_code ρ xs)
    unfolding args_code NamedEach
    args_fine ρ h [] m = nothing_fine
    args_fine ρ h (x ∷ xs) m = seq (omega arith) (exp_fine ρ h x m.0) (args_fine ρ h xs m.1)

    writes_fine : {e : ℕ} (ρ : Env) → Ready e ρ → (xs : List Exp) → NamedEach (NamedExp s) xs → FineFrom l e 0 0 (writes_code ρ xs)
    unfolding writes_code NamedEach
    writes_fine ρ h [] m = least 0 (omega arith) (oper_fine new_line)
    writes_fine ρ h (x ∷ xs) m = least 0 (omega arith) (seq (omega arith) (exp_fine ρ h x m.0) (seq (omega arith) (oper_fine write) (writes_fine ρ h xs m.1)))

    if_var_lem : {e : ℕ} (k : Kind) {g : Piece} → FineFrom l e 0 0 g → FineFrom l e 0 0 (if_var k g)
    if_var_lem const f = no_fine _
    if_var_lem var f = f
    if_var_lem procedure f = no_fine _

    if_proc_lem : {e : ℕ} (k : Kind) {g : Piece} → (k ≡ procedure → FineFrom l e 0 0 g) → FineFrom l e 0 0 (if_proc k g)
    if_proc_lem const f = no_fine _
    if_proc_lem var f = no_fine _
    if_proc_lem procedure f = f refl

    storing_fine : {e : ℕ} (ρ : Env) → ρ.level ≤ l → {g : Piece} → FineFrom l e 0 0 g → (o : Option Row) → Found e o → FineFrom l e 0 0 (storing ρ g o)
    storing_fine ρ h f o not_found = no_fine _
    storing_fine ρ h f o (is_found r k) = if_var_lem r.kind (least 0 (omega arith) (seq (omega arith) f (reach_fine STO ρ r r.addr (λ v p g le. store (omega (arith, g)) k.addr))))

    reads_fine : {e : ℕ} (ρ : Env) → Ready e ρ → (ns : List Name) → FineFrom l e 0 0 (reads_code ρ ns)
    unfolding reads_code
    reads_fine ρ h [] = nothing_fine
    reads_fine ρ h (n ∷ ns) = seq (omega arith) (storing_fine ρ h.level (least 0 (omega arith) (oper_fine read)) (row_for ρ n) (name_found ρ h n)) (reads_fine ρ h ns)

    call_fine : {e : ℕ} (ρ : Env) → Ready e ρ → (xs : List Exp) → NamedEach (NamedExp s) xs → (o : Option Row) → Found e o → FineFrom l e 0 0 (call_code ρ xs o)
    call_fine ρ h xs m o not_found = no_fine _
    call_fine {e} ρ h xs m o (is_found r k) =
        if_proc_lem r.kind λ q. test_fine (eqb r.size (length xs)) _ _
        (least 0 (omega arith) (seq (omega arith) (args_fine ρ h xs m) (reach_fine CAL ρ r r.value (λ v p g le. calls r.value (omega (arith, g, h.level)) (omega (arith, k.entry q, le)))))) (no_fine wrong_arguments)

    mutual
      unfolding stmt_code NamedStmt

      stmt_fine : {e : ℕ} (ρ : Env) → Ready e ρ → (x : Stmt) → NamedStmt s x → FineFrom l e 0 0 (stmt_code ρ x)
      stmt_fine ρ h (assign n x) m = storing_fine ρ h.level (exp_fine ρ h x m.1) (row_for ρ n) (name_found ρ h n)
      stmt_fine ρ h (if_then c x) m = least 0 (omega arith) (seq (omega arith) (cond_fine ρ h c m.0) (seq (omega arith) (jump_fine JPC 1 (λ n t j. test t j) (stmt_fine ρ h x m.1)) (jump_fine JMP 0 (λ n t j. jump t j) nothing_fine)))
      stmt_fine ρ h (if_else c x y) m =
          least 0 (omega arith) (seq (omega arith) (cond_fine ρ h c m.0) (seq (omega arith) (jump_fine JPC 1 (λ n t j. test t j) (stmt_fine ρ h x m.1.0)) (jump_fine JMP 0 (λ n t j. jump t j) (stmt_fine ρ h y m.1.1))))
      stmt_fine ρ h (while c x) m = λ p le.
          let h' : Ready p ρ = record { level = h.level; rows = all_known le h.rows } in
          least 0 (omega arith) (seq (omega arith) (cond_fine ρ h' c m.0) (seq (omega arith) (jump_fine JPC 1 (λ n t j. test t j) (stmt_fine ρ h' x m.1)) (emit_fine (λ q g. jump p (omega (arith, g)))))) p (omega arith)
      stmt_fine ρ h (call n xs) m = call_fine ρ h xs m.1 (row_for ρ n) (name_found ρ h n)
      stmt_fine ρ h (body x) m = stmts_fine ρ h x m
      stmt_fine ρ h (read_s ns) m = reads_fine ρ h ns
      stmt_fine ρ h (write_s xs) m = writes_fine ρ h xs m

      stmts_fine : {e : ℕ} (ρ : Env) → Ready e ρ → (x : Stmts) → NamedStmts s x → FineFrom l e 0 0 (stmts_code ρ x)
      stmts_fine ρ h (last x) m = stmt_fine ρ h x m
      stmts_fine ρ h (more x t) m = seq (omega arith) (stmt_fine ρ h x m.0) (stmts_fine ρ h t m.1)

    -- INT, the statements and the return
    body_closed : {e : ℕ} (ρ : Env) → Ready e ρ → (a : ℕ) → a ≤ furthest → (x : Stmts) → NamedStmts s x → ClosedFrom l e 2 (body_code ρ a x)
    body_closed ρ h a f x m = closed_seq (emit_fine (λ p le. raise f)) (closed_least 1 (omega arith) (closed_seq (stmts_fine ρ h x m) (closed_one return)))

  -- the last k of n arguments, from i on
  stas_fine : {e : ℕ} (n i k : ℕ) → i + k ≤ suc n → n ≤ max_rows → FineFrom l e k 0 (stas n i k)
  unfolding stas
  stas_fine n i zero f g = nothing_fine
  stas_fine n i (suc k) f g = least (suc k) (omega arith) (seq (omega arith) (emit_fine (λ p le. argument (omega arith) (omega arith))) (stas_fine n (suc i) k (omega arith) g))

-- declarations

-- rows, of which there are n at least
data KnownRows (e n : ℕ) : Rows → Type 0 where
  are_rows : {rs : List Row} → Each (Known e) rs → n ≤ length rs → length rs ≤ max_rows → KnownRows e n (rows rs)
  no_rows : {k : ℕ} → KnownRows e n (refuse_rows k)

and_known : {e n m : ℕ} {x : Rows} (k : List Row → Rows) → KnownRows e n x → ((rs : List Row) → Each (Known e) rs → n ≤ length rs → length rs ≤ max_rows → KnownRows e m (k rs)) → KnownRows e m (and_rows x k)
and_known k (are_rows {rs} h j l) f = f rs h j l
and_known k no_rows f = no_rows

fewer : {e n m : ℕ} {x : Rows} → n ≤ m → KnownRows e m x → KnownRows e n x
fewer g (are_rows k i l) = are_rows k (omega arith) l
fewer g no_rows = no_rows

test_rows : {e n : ℕ} (x : Bool) (a b : Rows) → (x ≡ true → KnownRows e n a) → KnownRows e n b → KnownRows e n (elim x as (λ y. Rows) [ true ↦ a | false ↦ b ])
test_rows true a b h k = h refl
test_rows false a b h k = k

more_known : {e : ℕ} (rs : List Row) (r : Row) → Each (Known e) rs → Known e r → KnownRows e (suc (length rs)) (one_more rs r)
unfolding one_more
more_known rs r h k =
    let j : length (rs ++ (r ∷ [])) ≡ length rs + 1 = length-append rs (r ∷ []) in
    test_rows (ltb (length rs) max_rows) _ _ (λ t. are_rows (each_append h (each_more k each_none)) (omega arith) (omega (arith, ltb-true (length rs) max_rows t))) no_rows

fresh_known : {e : ℕ} (rs : List Row) (r : Row) → Each (Known e) rs → Known e r → KnownRows e (suc (length rs)) (fresh rs r)
unfolding fresh
fresh_known rs r h k = test_rows (declared rs r.name r.scope) _ _ (λ t. no_rows) (more_known rs r h k)

-- none of these is a procedure's row, and but for constants none has a value
const_row_lem : {e : ℕ} (s : List ℕ) (c : Const) (l a : ℕ) (sc : Scope) → NamedConst s c → a ≤ furthest → Known e (const_row c l a sc)
const_row_lem s c l a sc m f = record { entry = λ q. absurd (let z : ◌≡◌ {A = ℕ} 0 1 = cc in omega arith); value = λ q. m.1; addr = f }

var_row_lem : {e : ℕ} (n : Name) (l a : ℕ) (sc : Scope) → a ≤ furthest → Known e (var_row n l a sc)
var_row_lem n l a sc f = record { entry = λ q. absurd (let z : ◌≡◌ {A = ℕ} 0 1 = cc in omega arith); value = λ q. absurd (let z : ◌≡◌ {A = ℕ} 0 1 = cc in omega arith); addr = f }

proc_row_lem : {e : ℕ} (n : Name) (k l a : ℕ) (sc : Scope) → a ≤ furthest → Known e (proc_row n k l a sc)
proc_row_lem n k l a sc f = record { entry = λ q. omega arith; value = λ q. absurd (let z : ◌≡◌ {A = ℕ} 0 1 = cc in omega arith); addr = f }

const_known : {e : ℕ} (s : List ℕ) (l a : ℕ) (sc : Scope) (cs : List Const) (rs : List Row) → NamedEach (NamedConst s) cs → a ≤ furthest → Each (Known e) rs → length rs ≤ max_rows → KnownRows e (length rs) (const_rows rs l a sc cs)
unfolding const_rows NamedEach
const_known s l a sc [] rs m f h j = are_rows h (omega arith) j
const_known s l a sc (c ∷ cs) rs m f h j = and_known _ (fresh_known rs (const_row c l a sc) h (const_row_lem s c l a sc m.0 f)) λ r k i j'. fewer (omega arith) (const_known s l a sc cs r m.1 f k j')

var_known : {e : ℕ} (l a : ℕ) (sc : Scope) (ns : List Name) (rs : List Row) → a ≤ links + length rs → Each (Known e) rs → length rs ≤ max_rows → KnownRows e (length rs + length ns) (var_rows rs l a sc ns)
unfolding var_rows
var_known l a sc [] rs f h j = are_rows h (omega arith) j
var_known l a sc (n ∷ ns) rs f h j = and_known _ (fresh_known rs (var_row n l a sc) h (var_row_lem n l a sc (omega arith))) λ r k i j'. fewer (omega arith) (var_known l (suc a) sc ns r (omega arith) k j')

arg_known : {e : ℕ} (l a : ℕ) (sc : Scope) (ns : List Name) (rs : List Row) → a ≤ links + length rs → Each (Known e) rs → length rs ≤ max_rows → KnownRows e (length rs + length ns) (arg_rows rs l a sc ns)
unfolding arg_rows
arg_known l a sc [] rs f h j = are_rows h (omega arith) j
arg_known l a sc (n ∷ ns) rs f h j = and_known _ (more_known rs (var_row n l a sc) h (var_row_lem n l a sc (omega arith))) λ r k i j'. fewer (omega arith) (arg_known l (suc a) sc ns r (omega arith) k j')

-- procedures, made from place p on, with m rows before them and addresses from b on
data FineDone (l p m b : ℕ) : Done → Type 0 where
  is_done : (c : List Instr) (rs : List Row) (a : ℕ) → Each (λ i. Within (p + length c) l i) c → Each (Known (p + length c)) rs → m ≤ length rs → length rs ≤ max_rows → a + m ≤ b + length rs → p + length c ≤ max_code → FineDone l p m b (finished c rs a)
  not_done : {n : ℕ} → FineDone l p m b (failed n)

-- what holds of whatever the next part gives, and of a refusal
module _ (Q : Done → Type 0) (no : (n : ℕ) → Q (failed n)) where
  with_rows_lem : {e n : ℕ} {x : Rows} (k : List Row → Done) → KnownRows e n x → ((rs : List Row) → Each (Known e) rs → n ≤ length rs → length rs ≤ max_rows → Q (k rs)) → Q (with_rows x k)
  with_rows_lem k (are_rows {rs} h j l) f = f rs h j l
  with_rows_lem k (no_rows {k = n}) f = no n

  with_done_lem : {l q m b : ℕ} {x : Done} (k : List Instr → List Row → ℕ → Done) → FineDone l q m b x
      → ((c : List Instr) (rs : List Row) (a : ℕ) → Each (λ i. Within (q + length c) l i) c → Each (Known (q + length c)) rs → m ≤ length rs → length rs ≤ max_rows → a + m ≤ b + length rs → q + length c ≤ max_code → Q (k c rs a)) → Q (with_done x k)
  with_done_lem k (is_done c rs a h g i j f o) t = t c rs a h g i j f o
  with_done_lem k (not_done {n}) f = no n

  with_code_lem : {l m q : ℕ} {x : Out} (k : List Instr → Done) → Closed l m q x → ((c : List Instr) → m ≤ length c → q + length c ≤ max_code → Each (λ i. Within (q + length c) l i) c → Q (k c)) → Q (with_code x k)
  with_code_lem k (is_closed c n b h) f = f c n b h
  with_code_lem k (not_closed {n}) f = no n

-- the place of a procedure's entry
known_entry : (e : ℕ) (r : Row) → e ≤ max_code → Known e r → Known e (record { name = r.name; kind = r.kind; value = e; level = r.level; addr = r.addr; size = r.size; scope = r.scope })
known_entry e r f k = record { entry = λ q. omega arith; value = λ q. omega arith; addr = k.addr }

known_no : {e : ℕ} → Known e no_row
known_no = record { entry = λ q. omega arith; value = λ q. omega arith; addr = omega arith }

entry_known : {e : ℕ} (rs : List Row) (i : ℕ) → e ≤ max_code → Each (Known e) rs → Each (Known e) (entry_at rs i e)
entry_known {e} rs i f k = each_set i _ k (known_entry e (get_or rs i no_row) f (each_get no_row i known_no k))

-- a block's JMP past m instructions of its own code, the code of its procedures from p + 1 on, and its own code from there on
block_within : {l : ℕ} (p m : ℕ) (c₁ c₂ : List Instr) → m < length c₂ → Each (λ i. Within (p + 1 + length c₁) l i) c₁ → Each (λ i. Within (p + 1 + length c₁ + length c₂) l i) c₂
    → Each (λ i. Within (p + suc (length (c₁ ++ c₂))) l i) (ins JMP 0 (pos (p + 1 + length c₁ + m)) ∷ c₁ ++ c₂)
block_within p m c₁ c₂ n h₁ h₂ =
    let j : length (c₁ ++ c₂) ≡ length c₁ + length c₂ = length-append c₁ c₂ in
    each_more (jump (p + 1 + length c₁ + m) (omega arith)) (each_append (all_wider (omega arith) h₁) (all_wider (omega arith) h₂))

procs_fine : (l : ℕ) (s : List ℕ) (ps : Procs) (d v : ℕ) (sc : Scope) (a : ℕ) (rs : List Row) (p : ℕ) → NamedProcs s ps → Nest d ps → v + d ≤ l → Each (Known p) rs → length rs ≤ max_rows → a ≤ links + length rs → p ≤ max_code
    → FineDone l p (length rs) a (procs_code ps v sc a rs p)
unfolding procs_code Nest NamedProcs
procs_fine l s no_procs d v sc a rs p m h g k i f o = is_done [] rs a each_none (all_known (omega arith) k) (omega arith) i (omega arith) (omega arith)
procs_fine l s (proc n ar cs vs inner b later) zero v sc a rs p m h g k i f o = absurd h
procs_fine l s (proc n ar cs vs inner b later) (suc d) v sc a rs p (mn, (mar, (mcs, (mvs, (minner, (mb, mlater)))))) h g k i f o =
    with_rows_lem Q no _ (fresh_known rs (proc_row n (length ar) v a sc) k (proc_row_lem n (length ar) v a sc (omega arith))) λ r1 k1 n1 i1.
    with_rows_lem Q no _ (arg_known (suc v) links (n.text ∷ sc) ar r1 (omega arith) k1 i1) λ r2 k2 n2 i2.
    test_bool (ltb p max_code) λ t.
    with_rows_lem Q no _ (const_known s (suc v) (links + length ar) (n.text ∷ sc) cs r2 mcs (omega arith) k2 i2) λ r3 k3 n3 i3.
    with_rows_lem Q no _ (var_known (suc v) (links + length ar) (n.text ∷ sc) vs r3 (omega arith) k3 i3) λ r4 k4 n4 i4.
    with_done_lem Q no _ (procs_fine l s inner d (suc v) (n.text ∷ sc) (links + length ar + length vs) r4 (p + 1) minner h.0 (omega arith) (all_known (omega arith) k4) i4 (omega arith) (omega (arith, ltb-true p max_code t))) λ c1 r5 a1 w1 k5 n5 i5 f5 o5.
    let entry : ℕ = p + 1 + length c1 in
    let r6 : List Row = entry_at r5 (length rs) entry in
    let k6 : Each (Known entry) r6 = entry_known r5 (length rs) o5 k5 in
    let i6 : length r6 ≡ length r5 = length-set r5 (length rs) _ in
    let ρ : Env = record { rows = r6; level = suc v; scope = n.text ∷ sc } in
    with_code_lem Q no _ (closed_seq (stas_fine l (length ar) 1 (length ar) (omega arith) (omega arith)) (body_closed l s ρ (record { level = omega arith; rows = k6 }) a1 (omega arith) b mb) entry (omega arith)) λ c2 n7 f7 w2.
    let j : length (c1 ++ c2) ≡ length c1 + length c2 = length-append c1 c2 in
    with_done_lem Q no _ (procs_fine l s later (suc d) v sc (suc a) r6 _ mlater h.1 g (all_known (omega arith) k6) (omega arith) (omega arith) (omega arith)) λ c3 r7 a3 w3 k7 n8 i8 f8 o8.
    let u : length ((c1 ++ c2) ++ c3) ≡ length (c1 ++ c2) + length c3 = length-append (c1 ++ c2) c3 in
    is_done _ r7 a3 (each_append (all_wider (omega arith) (block_within p (length ar) c1 c2 (omega arith) w1 w2)) (all_wider (omega arith) w3)) (all_known (omega arith) k7) (omega arith) i8 (omega arith) (omega arith)
  where
    Q : Done → Type 0
    Q x = FineDone l p (length rs) a x

    no : (n : ℕ) → Q (failed n)
    no n = not_done

    test_bool : (x : Bool) {u : Done} → (x ≡ true → Q u) → Q (elim x as (λ y. Done) [ false ↦ failed too_many_instructions | true ↦ u ])
    test_bool true h = h refl
    test_bool false h = not_done

data ShapeDone (l : ℕ) : Done → Type 0 where
  is_shaped : {c : List Instr} {rs : List Row} {a : ℕ} → Shape l c → ShapeDone l (finished c rs a)
  not_shaped : {n : ℕ} → ShapeDone l (failed n)

shaped : {l : ℕ} (c₁ c₂ : List Instr) → 2 ≤ length c₂ → 1 + length c₁ + length c₂ ≤ max_code → Each (λ i. Within (1 + length c₁) l i) c₁ → Each (λ i. Within (1 + length c₁ + length c₂) l i) c₂
    → Shape l (ins JMP 0 (pos (1 + length c₁)) ∷ c₁ ++ c₂)
shaped c₁ c₂ n f w₁ w₂ =
    let j : length (c₁ ++ c₂) ≡ length c₁ + length c₂ = length-append c₁ c₂ in
    record {
      least = omega arith;
      most = omega arith;
      each = each_more (jump (1 + length c₁) (omega arith)) (each_append (all_wider (omega arith) w₁) (all_wider (omega arith) w₂));
    }

block_done : (s : List ℕ) (b : Block) (l : ℕ) → Named s b → Nest l b.procs → ShapeDone l (block_code b)
unfolding block_code
block_done s b l m h =
    with_rows_lem (ShapeDone l) (λ n. not_shaped) _ (const_known {e = 1} s 0 links main_scope b.consts [] m.consts (omega arith) each_none (omega arith)) λ r1 k1 n1 i1.
    with_rows_lem (ShapeDone l) (λ n. not_shaped) _ (var_known 0 links main_scope b.vars r1 (omega arith) k1 i1) λ r2 k2 n2 i2.
    with_done_lem (ShapeDone l) (λ n. not_shaped) _ (procs_fine l s b.procs l 0 main_scope (links + length b.vars) r2 1 m.procs h (omega arith) k2 i2 (omega arith) (omega arith)) λ c1 r3 a w1 k3 n3 i3 f3 o3.
    with_code_lem (ShapeDone l) (λ n. not_shaped) _ (body_closed l s (record { rows = r3; level = 0; scope = main_scope }) (record { level = omega arith; rows = k3 }) a (omega arith) b.main m.main (1 + length c1) (omega arith)) λ c2 n4 f4 w2.
    is_shaped (shaped c1 c2 n4 f4 w1 w2)

-- the code of a block that was read from the text s and whose procedures stand at most l deep
pub block_shape : (s : List ℕ) (b : Block) (l : ℕ) → Named s b → Nest l b.procs → (c : List Instr) (rs : List Row) (a : ℕ) → block_code b ≡ finished c rs a → Shape l c
block_shape s b l m h c rs a e = go (block_code b) (block_done s b l m h) e
  where
    go : (d : Done) → ShapeDone l d → d ≡ finished c rs a → Shape l c
    go (finished x y z) (is_shaped t) e = let u : x ≡ c = cc in rw u at t
    go (failed n) t e = absurd (let z : ◌≡◌ {A = ℕ} 0 1 = cc in omega arith)

-- Of a tree that is read from a text: every name lies in the text with the bytes that the tree says, and every literal is within i64.
use Rattle.std.proofs.Math.Path.{◌≡◌, refl}
use Rattle.std.specs.Prelude.{Bool, List, ltb}
use Rattle.std.proofs.Math.Bool.{true, false}
use Rattle.std.proofs.Math.Option.{Option, none, some}
use Prim.Native.Nat.{ℕ, zero, suc, ◌≤◌}
use Rattle.std.proofs.Common.{arith}
use Rattle.numbers.specs.Limits.{max_tokens, greatest}
use Rattle.numbers.specs.Panel.{too_many_tokens}
use Rattle.numbers.specs.Arithmetic.{Compare}
use Rattle.lexer.specs.Marks.{Mark, if_word, then_word, else_word, while_word, do_word, call_word, read_word, write_word, const_word, var_word, procedure_word, program_word, begin_word, end_word, odd_word, plus_sign, minus_sign, times_sign, divide_sign, open_sign, close_sign, semicolon_sign, comma_sign, becomes_sign, same, listed}
use Rattle.lexer.specs.Tokens.{Name, Token, mark, name, number, Found, token, bad, too_big, end_of_text, lex_at}
use Rattle.lexer.specs.Names.{name_spelt, literal_fits}
use Rattle.tree.specs.Tree.{Exp, Chain, Cond, Stmt, Stmts, Procs, Block}
use Rattle.tree.specs.Named.{NameIn, Each, NamedExp, NamedChain, NamedCond, NamedStmt, NamedStmts, NamedConst, NamedProcs, Named}
use Rattle.grammar.specs.Reader.{Cursor, Ans, got, refuse, Reader, counted, judge, is_mark, name_in, number_in, look, take, want, if_next, taking, want_name, want_number, commas}
use Rattle.grammar.specs.Gets.{Gets, is_got, is_no}
use Rattle.grammar.proofs.Gets.{bind, on, test, entering}
use Rattle.grammar.specs.Grammar.{chained, exp, terms, term, factors, factor, comparison_of, compare_with, cond, Start, assign_start, if_start, while_start, call_start, body_start, read_start, write_start, starts, start_of, both, map_o, if_node, or_absent, stmt, statement, body_of, stmts, const_def, const_part, var_part, arg_part, proc_of, inner_of, later_of, program, tree, parsed, parse, fuel}

module _ (src : List ℕ) where
  -- what a token holds
  unfoldable Good : Token → Type 0
  Good (mark m) = Unit {0}
  Good (name n) = NameIn src n
  Good (number v) = v ≤ greatest

  good : (at : ℕ) (t : Token) → (lex_at src at).found ≡ token t → Good t
  unfolding Good
  good at (mark m) e = tt
  good at (name n) e = let s = name_spelt src at n e in record { fits = s.fits; is = s.is; letter = s.letter }
  good at (number v) e = literal_fits src at v e

  look_good : (c : Cursor) → Gets Good (look src c)
  unfolding look judge counted
  look_good c = go (lex_at src c.at).found refl
    where
      whether : {a : Ans Token} → Gets Good a → (x : Bool) → Gets Good (elim x as (λ y. Ans Token) [ true ↦ a | false ↦ refuse too_many_tokens ])
      whether h true = h
      whether h false = is_no

      go : (f : Found) → (lex_at src c.at).found ≡ f → Gets Good (judge f c)
      go (token t) e = whether (is_got (good c.at t e)) (ltb c.seen max_tokens)
      go bad e = whether is_no (ltb c.seen max_tokens)
      go too_big e = whether is_no (ltb c.seen max_tokens)
      go end_of_text e = is_no

  -- by whether the next token is m
  next : {A : Type 0} {Q : A → Type 0} (m : Mark) (p q : Reader A) → ((c : Cursor) → Gets Q (p c)) → ((c : Cursor) → Gets Q (q c)) → (c : Cursor) → Gets Q (if_next src m p q c)
  unfolding if_next
  next m p q h g c = on (look src c) _ λ t. test (is_mark m t) _ _ (λ c. on (take src c) _ λ u. h) g

  name_good : (c : Cursor) → Gets (NameIn src) (want_name src c)
  unfolding want_name taking name_in Good
  name_good c = bind _ (look_good c) go
    where
      go : (t : Token) → Good t → (c : Cursor) → Gets (NameIn src) (taking src (name_in t) c)
      go (mark m) h c = is_no
      go (name n) h c = on (take src c) _ λ u c. is_got h
      go (number v) h c = is_no

  number_good : (c : Cursor) → Gets (λ v. v ≤ greatest) (want_number src c)
  unfolding want_number taking number_in Good
  number_good c = bind _ (look_good c) go
    where
      go : (t : Token) → Good t → (c : Cursor) → Gets (λ v. v ≤ greatest) (taking src (number_in t) c)
      go (mark m) h c = is_no
      go (name n) h c = is_no
      go (number v) h c = on (take src c) _ λ u c. is_got h

  commas_good : {A : Type 0} {P : A → Type 0} (f : ℕ) (p : Reader A) → ((c : Cursor) → Gets P (p c)) → (c : Cursor) → Gets (Each P) (commas src f p c)
  unfolding commas Each
  commas_good zero p h c = is_no
  commas_good (suc f) p h c = bind _ (h c) λ a k. next comma_sign _ _ (λ c. bind _ (commas_good f p h c) λ l m c. is_got (k, m)) (λ c. is_got (k, tt))

  record Exps (f : ℕ) : Type 0 where
    exp_good : (o : ℕ) (c : Cursor) → Gets (NamedExp src) (exp src f o c)
    terms_good : (o : ℕ) (c : Cursor) → Gets (NamedChain src) (terms src f o c)
    term_good : (o : ℕ) (c : Cursor) → Gets (NamedExp src) (term src f o c)
    factors_good : (o : ℕ) (c : Cursor) → Gets (NamedChain src) (factors src f o c)
    factor_good : (o : ℕ) (c : Cursor) → Gets (NamedExp src) (factor src f o c)

  chained_good : {A : Type 0} {Q : A → Type 0} (p : Reader Exp) (q : Reader Chain) (k : Exp → Chain → A) → ((c : Cursor) → Gets (NamedExp src) (p c)) → ((c : Cursor) → Gets (NamedChain src) (q c))
      → ((e : Exp) (l : Chain) → NamedExp src e → NamedChain src l → Q (k e l)) → (c : Cursor) → Gets Q (chained p q k c)
  chained_good p q k h g f c = bind _ (h c) λ e m c. bind _ (g c) λ l n c. is_got (f e l m n)

  by_token : {A : Type 0} {Q : A → Type 0} (t : Token) (m : Mark → Reader A) (n : Name → Reader A) (v : ℕ → Reader A) → Good t → ((k : Mark) (c : Cursor) → Gets Q (m k c)) → ((x : Name) → NameIn src x → (c : Cursor) → Gets Q (n x c))
      → ((x : ℕ) → x ≤ greatest → (c : Cursor) → Gets Q (v x c)) → (c : Cursor) → Gets Q ((elim t as (λ x. Reader A) [ mark k ↦ m k | name x ↦ n x | number x ↦ v x ]) c)
  unfolding Good
  by_token (mark k) m n v g hm hn hv = hm k
  by_token (name x) m n v g hm hn hv = hn x g
  by_token (number x) m n v g hm hn hv = hv x g

  exps_next : (f : ℕ) → Exps f → Exps (suc f)
  unfolding exp NamedExp
  exps_next f h = record {
    exp_good = λ o. next plus_sign _ _ (chained_good _ _ _ (h.term_good o) (h.terms_good o) (λ e l m n. (m, n))) (next minus_sign _ _ (chained_good _ _ _ (h.term_good o) (h.terms_good o) (λ e l m n. (m, n))) (chained_good _ _ _ (h.term_good o) (h.terms_good o) (λ e l m n. (m, n))));
    terms_good = λ o. next plus_sign _ _ (chained_good _ _ _ (h.term_good o) (h.terms_good o) (λ e l m n. (m, n))) (next minus_sign _ _ (chained_good _ _ _ (h.term_good o) (h.terms_good o) (λ e l m n. (m, n))) (λ c. is_got tt));
    term_good = λ o. chained_good _ _ _ (h.factor_good o) (h.factors_good o) (λ e l m n. (m, n));
    factors_good = λ o. next times_sign _ _ (chained_good _ _ _ (h.factor_good o) (h.factors_good o) (λ e l m n. (m, n))) (next divide_sign _ _ (chained_good _ _ _ (h.factor_good o) (h.factors_good o) (λ e l m n. (m, n))) (λ c. is_got tt));
    factor_good = λ o c. bind _ (look_good c) λ t g. by_token t _ _ _ g
        (λ m. test (same m open_sign) _ _ (λ c. entering o _ c λ t. on (take src c) _ λ u c. bind _ (h.exp_good (suc o) c) λ e k c. on (want src close_sign c) _ λ u c. is_got k) (λ c. is_no))
        (λ n k c. on (take src c) _ λ u c. is_got k) (λ v k c. on (take src c) _ λ u c. is_got k);
  }

  exps : (f : ℕ) → Exps f
  unfolding exp
  exps zero = record { exp_good = λ o c. is_no; terms_good = λ o c. is_no; term_good = λ o c. is_no; factors_good = λ o c. is_no; factor_good = λ o c. is_no }
  exps (suc f) = exps_next f (exps f)

  compare_good : (f o : ℕ) (a : Exp) → NamedExp src a → (r : Option Compare) (c : Cursor) → Gets (NamedCond src) (compare_with src f o a r c)
  unfolding compare_with NamedCond
  compare_good f o a h none c = is_no
  compare_good f o a h (some r) c = on (take src c) _ λ u c. bind _ ((exps f).exp_good o c) λ b k c. is_got (h, k)

  cond_good : (f o : ℕ) (c : Cursor) → Gets (NamedCond src) (cond src f o c)
  unfolding cond NamedCond
  cond_good f o = next odd_word _ _ (λ c. bind _ ((exps f).exp_good o c) λ e k c. is_got k) (λ c. bind _ ((exps f).exp_good o c) λ a k c. on (look src c) _ λ t. compare_good f o a k (comparison_of t))

  -- of a statement, a list of them or procedures, if there are any
  unfoldable If : {A : Type 0} → (A → Type 0) → Option A → Type 0
  If P none = Unit {0}
  If P (some a) = P a

  map_if : {A B : Type 0} (P : A → Type 0) (Q : B → Type 0) (f : A → B) → ((a : A) → P a → Q (f a)) → (o : Option A) → If P o → If Q (map_o f o)
  unfolding If map_o
  map_if P Q f h none k = tt
  map_if P Q f h (some a) k = h a k

  both_if : {A B C : Type 0} (P : A → Type 0) (Q : B → Type 0) (R : C → Type 0) (f : A → B → C) → ((a : A) (b : B) → P a → Q b → R (f a b)) → (o : Option A) (u : Option B) → If P o → If Q u → If R (both f o u)
  unfolding If both
  both_if P Q R f h none u k l = tt
  both_if P Q R f h (some a) none k l = tt
  both_if P Q R f h (some a) (some b) k l = h a b k l

  if_if : (c : Cond) → NamedCond src c → (s e : Option Stmt) → If (NamedStmt src) s → If (NamedStmt src) e → If (NamedStmt src) (if_node c s e)
  unfolding If if_node NamedStmt
  if_if c h none e k l = tt
  if_if c h (some s) none k l = (h, k)
  if_if c h (some s) (some e) k l = (h, (k, l))

  -- what a statement starts with
  unfoldable GoodStart : Start → Type 0
  GoodStart (assign_start n) = NameIn src n
  GoodStart if_start = Unit {0}
  GoodStart while_start = Unit {0}
  GoodStart call_start = Unit {0}
  GoodStart body_start = Unit {0}
  GoodStart read_start = Unit {0}
  GoodStart write_start = Unit {0}

  record Statements (f : ℕ) : Type 0 where
    stmt_good : (o : ℕ) (c : Cursor) → Gets (If (NamedStmt src)) (stmt src f o c)
    statement_good : (o : ℕ) (s : Start) → GoodStart s → (c : Cursor) → Gets (If (NamedStmt src)) (statement src f o s c)
    body_good : (o : ℕ) (c : Cursor) → Gets (If (NamedStmts src)) (body_of src f o c)
    stmts_good : (o : ℕ) (c : Cursor) → Gets (If (NamedStmts src)) (stmts src f o c)

  statement_next : (f : ℕ) → Statements f → (o : ℕ) (s : Start) → GoodStart s → (c : Cursor) → Gets (If (NamedStmt src)) (statement src (suc f) o s c)
  unfolding stmt GoodStart If NamedStmt Each
  statement_next f h o (assign_start n) g c = on (take src c) _ λ u c. on (want src becomes_sign c) _ λ u c. bind _ ((exps f).exp_good o c) λ e k c. is_got (g, k)
  statement_next f h o if_start g c = on (take src c) _ λ u c. bind _ (cond_good f o c) λ d m c. on (want src then_word c) _ λ u c. bind _ (h.stmt_good o c) λ s k.
      next else_word _ _ (λ c. bind _ (h.stmt_good o c) λ e l c. is_got (if_if d m s e k l)) (λ c. is_got (if_if d m s none k tt))
  statement_next f h o while_start g c = on (take src c) _ λ u c. bind _ (cond_good f o c) λ d m c. on (want src do_word c) _ λ u c. bind _ (h.stmt_good o c) λ s k c. is_got (map_if (NamedStmt src) (NamedStmt src) _ (λ a b. (m, b)) s k)
  statement_next f h o call_start g c = on (take src c) _ λ u c. bind _ (name_good c) λ n m c. on (want src open_sign c) _ λ u.
      next close_sign _ _ (λ c. is_got (m, tt)) (λ c. bind _ (commas_good f _ ((exps f).exp_good o) c) λ es k c. on (want src close_sign c) _ λ u c. is_got (m, k))
  statement_next f h o body_start g c = bind _ (h.body_good o c) λ b k c. is_got (map_if (NamedStmts src) (NamedStmt src) _ (λ a b. b) b k)
  statement_next f h o read_start g c = on (take src c) _ λ u c. on (want src open_sign c) _ λ u c. bind _ (commas_good f _ name_good c) λ ns k c. on (want src close_sign c) _ λ u c. is_got k
  statement_next f h o write_start g c = on (take src c) _ λ u c. on (want src open_sign c) _ λ u c. bind _ (commas_good f _ ((exps f).exp_good o) c) λ es k c. on (want src close_sign c) _ λ u c. is_got k

  -- a token starts a statement, or it does not
  start_good : (t : Token) → Good t → If GoodStart (start_of t)
  unfolding start_of starts listed If Good GoodStart
  start_good (mark m) g = by_mark (same m if_word) (same m while_word) (same m call_word) (same m begin_word) (same m read_word) (same m write_word)
    where
      by_mark : (a b c d e f : Bool) → If GoodStart (elim a as (λ x. Option Start) [ true ↦ some if_start | false ↦ elim b as (λ x. Option Start) [ true ↦ some while_start | false ↦ elim c as (λ x. Option Start) [ true ↦ some call_start | false ↦ elim d as (λ x. Option Start) [ true ↦ some body_start | false ↦ elim e as (λ x. Option Start) [ true ↦ some read_start | false ↦ elim f as (λ x. Option Start) [ true ↦ some write_start | false ↦ none ] ] ] ] ] ])
      by_mark true b c d e f = tt
      by_mark false true c d e f = tt
      by_mark false false true d e f = tt
      by_mark false false false true e f = tt
      by_mark false false false false true f = tt
      by_mark false false false false false true = tt
      by_mark false false false false false false = tt
  start_good (name n) g = g
  start_good (number v) g = tt

  by_start : {A : Type 0} {Q : A → Type 0} (x : Option Start) (n : Reader A) (k : Start → Reader A) → If GoodStart x → ((c : Cursor) → Gets Q (n c)) → ((a : Start) → GoodStart a → (c : Cursor) → Gets Q (k a c)) → (c : Cursor)
      → Gets Q ((elim x as (λ y. Reader A) [ none ↦ n | some a ↦ k a ]) c)
  unfolding If
  by_start none n k i h g = h
  by_start (some a) n k i h g = g a i

  by_body : (x : Option Stmts) → If (NamedStmts src) x → (n : Reader (Option Stmts)) (k : Stmts → Reader (Option Stmts)) → ((c : Cursor) → Gets (If (NamedStmts src)) (n c)) → ((a : Stmts) → NamedStmts src a → (c : Cursor) → Gets (If (NamedStmts src)) (k a c)) → (c : Cursor)
      → Gets (If (NamedStmts src)) ((elim x as (λ y. Reader (Option Stmts)) [ none ↦ n | some a ↦ k a ]) c)
  unfolding If
  by_body none i n k h g = h
  by_body (some a) i n k h g = g a i

  statements_next : (f : ℕ) → Statements f → Statements (suc f)
  unfolding stmt If NamedStmts
  statements_next f h = record {
    stmt_good = λ o c. entering o _ c λ t. bind _ (look_good c) λ t g. by_start (start_of t) _ _ (start_good t g) (λ c. is_got tt) (λ s k. h.statement_good (suc o) s k);
    statement_good = statement_next f h;
    body_good = λ o c. on (want src begin_word c) _ λ u c. bind _ (h.stmts_good o c) λ s k. by_body s k _ _ (λ c. is_got tt) (λ b m c. on (want src end_word c) _ λ u c. is_got m);
    stmts_good = λ o c. bind _ (h.stmt_good o c) λ s k. next semicolon_sign _ _
        (λ c. bind _ (h.stmts_good o c) λ r m c. is_got (both_if (NamedStmt src) (NamedStmts src) (NamedStmts src) _ (λ a b x y. (x, y)) s r k m))
        (λ c. is_got (map_if (NamedStmt src) (NamedStmts src) _ (λ a b. b) s k));
  }

  statements : (f : ℕ) → Statements f
  unfolding stmt
  statements zero = record { stmt_good = λ o c. is_no; statement_good = λ o s g c. is_no; body_good = λ o c. is_no; stmts_good = λ o c. is_no }
  statements (suc f) = statements_next f (statements f)

  consts_good : (f : ℕ) (c : Cursor) → Gets (Each (NamedConst src)) (const_part src f c)
  unfolding const_part const_def Each
  consts_good f = next const_word _ _
      (λ c. bind _ (commas_good f _ (λ c. bind _ (name_good c) λ n m c. on (want src becomes_sign c) _ λ u c. bind _ (number_good c) λ v k c. is_got (m, k)) c) λ cs k c. on (want src semicolon_sign c) _ λ u c. is_got k)
      (λ c. is_got tt)

  vars_good : (f : ℕ) (c : Cursor) → Gets (Each (NameIn src)) (var_part src f c)
  unfolding var_part Each
  vars_good f = next var_word _ _ (λ c. bind _ (commas_good f _ name_good c) λ ns k c. on (want src semicolon_sign c) _ λ u c. is_got k) (λ c. is_got tt)

  args_good : (f : ℕ) (c : Cursor) → Gets (Each (NameIn src)) (arg_part src f c)
  unfolding arg_part Each
  args_good f = next close_sign _ _ (λ c. is_got tt) (λ c. bind _ (commas_good f _ name_good c) λ ns k c. on (want src close_sign c) _ λ u c. is_got k)

  record Blocks (f : ℕ) : Type 0 where
    proc_good : (o : ℕ) (c : Cursor) → Gets (If (NamedProcs src)) (proc_of src f o c)
    inner_good : (o : ℕ) (c : Cursor) → Gets (NamedProcs src) (inner_of src f o c)
    later_good : (o : ℕ) (c : Cursor) → Gets (If (NamedProcs src)) (later_of src f o c)

  absent_good : (o : Option Procs) → If (NamedProcs src) o → NamedProcs src (or_absent o)
  unfolding If or_absent NamedProcs
  absent_good none h = tt
  absent_good (some p) h = h

  blocks_next : (f : ℕ) → Blocks f → Blocks (suc f)
  unfolding proc_of If NamedProcs
  blocks_next f h = record {
    proc_good = λ o c. entering o _ c λ t. on (want src procedure_word c) _ λ u c. bind _ (name_good c) λ n kn c. on (want src open_sign c) _ λ u c. bind _ (args_good f c) λ ar ka c. on (want src semicolon_sign c) _ λ u c.
        bind _ (consts_good f c) λ cs kc c. bind _ (vars_good f c) λ vs kv c. bind _ (h.inner_good (suc o) c) λ ps kp c. bind _ ((statements f).body_good (suc o) c) λ b kb c.
        bind _ (h.later_good (suc o) c) λ l kl c. is_got (both_if (NamedStmts src) (NamedProcs src) (NamedProcs src) _ (λ x y p q. (kn, (ka, (kc, (kv, (kp, (p, q))))))) b l kb kl);
    inner_good = λ o c. on (look src c) _ λ t. test (is_mark procedure_word t) _ _ (λ c. bind _ (h.proc_good o c) λ p k c. is_got (absent_good p k)) (λ c. is_got tt);
    later_good = λ o. next semicolon_sign _ _ (h.proc_good o) (λ c. is_got tt);
  }

  blocks : (f : ℕ) → Blocks f
  unfolding proc_of
  blocks zero = record { proc_good = λ o c. is_no; inner_good = λ o c. is_no; later_good = λ o c. is_no }
  blocks (suc f) = blocks_next f (blocks f)

  program_good : (f : ℕ) (c : Cursor) → Gets (If (Named src)) (program src f c)
  unfolding program
  program_good f c = on (want src program_word c) _ λ u c. on (want_name src c) _ λ n c. on (want src semicolon_sign c) _ λ u c.
      bind _ (consts_good f c) λ cs kc c. bind _ (vars_good f c) λ vs kv c. bind _ ((blocks f).inner_good 0 c) λ ps kp c. bind _ ((statements f).body_good 0 c) λ b kb c.
      is_got (map_if (NamedStmts src) (Named src) _ (λ s k. record { consts = kc; vars = kv; procs = kp; main = k }) b kb)

  parsed_good : (a : Ans (Option Block)) → Gets (If (Named src)) a → (b : Block) → parsed a ≡ tree b → Named src b
  unfolding parsed If
  parsed_good (got none c) h b e = absurd (let z : ◌≡◌ {A = ℕ} 0 1 = cc in omega arith)
  parsed_good (got (some x) c) (is_got h) b e = let s : x ≡ b = cc in rw s at h
  parsed_good (refuse n) h b e = absurd (let z : ◌≡◌ {A = ℕ} 0 1 = cc in omega arith)

-- the names and literals of a text's tree
pub parse_named : (src : List ℕ) (b : Block) → parse src ≡ tree b → Named src b
unfolding parse
parse_named src b e = parsed_good src _ (program_good src fuel _) b e

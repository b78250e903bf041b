-- The numbers of the parser's refusals: from 1 to 8.
use Rattle.std.specs.Prelude.{◌≡◌, Bool, true, false, List, ltb, leb}
use Rattle.std.proofs.Math.Path.{refl}
use Rattle.std.proofs.Math.Option.{Option, none, some}
use Prim.Native.Nat.{ℕ, zero, suc, ◌≤◌}
use Rattle.std.proofs.Common.{arith, leb-true}
use Rattle.numbers.specs.Limits.{max_tokens, max_open}
use Rattle.numbers.specs.Panel.{body_failed_quietly, too_many_tokens}
use Rattle.numbers.specs.Arithmetic.{Compare}
use Rattle.lexer.specs.Marks.{Mark, then_word, else_word, do_word, procedure_word, begin_word, end_word, odd_word, plus_sign, minus_sign, times_sign, divide_sign, open_sign, close_sign, semicolon_sign, comma_sign, becomes_sign, const_word, var_word, program_word, same}
use Rattle.lexer.specs.Tokens.{Name, Token, mark, name, number, Found, token, bad, too_big, end_of_text, lex_at}
use Rattle.tree.specs.Tree.{Exp, Chain, Block}
use Rattle.grammar.specs.Reader.{Cursor, Ans, got, refuse, Reader, then, counted, judge, enter, is_mark, name_in, number_in, look, take, want, if_next, taking, want_name, want_number, commas}
use Rattle.grammar.specs.Grammar.{chained, exp, terms, term, factors, factor, comparison_of, compare_with, cond, Start, assign_start, if_start, while_start, call_start, body_start, read_start, write_start, start_of, stmt, statement, body_of, stmts, const_def, const_part, var_part, arg_part, proc_of, inner_of, later_of, program, refused, parsed, fuel, parse}

-- a number that a reader refuses with
abbrev is_refusal : ℕ → Bool
is_refusal n = elim (ltb 0 n) [ true ↦ leb n too_many_tokens | false ↦ false ]

data Numbered {A : Type 0} : Ans A → Type 0 where
  is_got : {a : A} {c : Cursor} → Numbered (got a c)
  is_no : {n : ℕ} → is_refusal n ≡ true → Numbered (refuse n)

abbrev Always : {A : Type 0} → Reader A → Type 0
Always p = (c : Cursor) → Numbered (p c)

bind : {A B : Type 0} {a : Ans A} (k : A → Reader B) → Numbered a → ((x : A) → Always (k x)) → Numbered (then k a)
bind k (is_got {a} {c}) f = f a c
bind k (is_no h) f = is_no h

test : {A : Type 0} (x : Bool) (p q : Reader A) → Always p → Always q → Always {A = A} (elim x as (λ y. Reader A) [ true ↦ p | false ↦ q ])
test true p q h k = h
test false p q h k = k

by_token : {A : Type 0} (t : Token) (m : Mark → Reader A) (n : Name → Reader A) (v : ℕ → Reader A) → ((k : Mark) → Always (m k)) → ((x : Name) → Always (n x)) → ((x : ℕ) → Always (v x))
    → Always {A = A} (elim t as (λ x. Reader A) [ mark k ↦ m k | name x ↦ n x | number x ↦ v x ])
by_token (mark k) m n v hm hn hv = hm k
by_token (name x) m n v hm hn hv = hn x
by_token (number x) m n v hm hn hv = hv x

by_option : {A B : Type 0} (x : Option A) (n : Reader B) (k : A → Reader B) → Always n → ((a : A) → Always (k a)) → Always {A = B} (elim x as (λ y. Reader B) [ none ↦ n | some a ↦ k a ])
by_option none n k h g = h
by_option (some a) n k h g = g a

counted_no : {A : Type 0} {a : Ans A} (c : Cursor) → Numbered a → Numbered (counted a c)
unfolding counted
counted_no {A} {a} c h = go (ltb c.seen max_tokens)
  where
    go : (x : Bool) → Numbered {A = A} (elim x as (λ y. Ans A) [ true ↦ a | false ↦ refuse too_many_tokens ])
    go true = h
    go false = is_no refl

judge_no : (t : Found) → Always (judge t)
unfolding judge
judge_no (token t) c = counted_no c is_got
judge_no bad c = counted_no c (is_no refl)
judge_no too_big c = counted_no c (is_no refl)
judge_no end_of_text c = is_no refl

enter_no : (o : ℕ) → Always (enter o)
unfolding enter
enter_no o = test (ltb o max_open) _ _ (λ c. is_got) (λ c. is_no refl)

module _ (src : List ℕ) where
  look_no : Always (look src)
  unfolding look
  look_no c = judge_no (lex_at src c.at).found c

  take_no : Always (take src)
  unfolding take
  take_no c = is_got

  want_no : (m : Mark) → Always (want src m)
  unfolding want
  want_no m c = bind _ (look_no c) λ t. test (is_mark m t) _ _ take_no (λ c. is_no refl)

  next_no : {A : Type 0} (m : Mark) (p q : Reader A) → Always p → Always q → Always (if_next src m p q)
  unfolding if_next
  next_no m p q h g c = bind _ (look_no c) λ t. test (is_mark m t) _ _ (λ c. bind _ (take_no c) (λ u. h)) g

  taking_no : {A : Type 0} (x : Option A) → Always (taking src x)
  unfolding taking
  taking_no none c = is_no refl
  taking_no (some a) c = bind _ (take_no c) λ u c. is_got

  want_name_no : Always (want_name src)
  unfolding want_name
  want_name_no c = bind _ (look_no c) λ t. taking_no (name_in t)

  want_number_no : Always (want_number src)
  unfolding want_number
  want_number_no c = bind _ (look_no c) λ t. taking_no (number_in t)

  commas_no : {A : Type 0} (f : ℕ) (p : Reader A) → Always p → Always (commas src f p)
  unfolding commas
  commas_no zero p h c = is_no refl
  commas_no (suc f) p h c = bind _ (h c) λ a. next_no comma_sign _ _ (λ c. bind _ (commas_no f p h c) (λ l c. is_got)) (λ c. is_got)

  -- what the five readers of expressions keep, at a given fuel
  record Exps (f : ℕ) : Type 0 where
    exp_no_lem : (o : ℕ) → Always (exp src f o)
    terms_no : (o : ℕ) → Always (terms src f o)
    term_no : (o : ℕ) → Always (term src f o)
    factors_no : (o : ℕ) → Always (factors src f o)
    factor_no : (o : ℕ) → Always (factor src f o)

  chained_no : {A : Type 0} (p : Reader Exp) (q : Reader Chain) (k : Exp → Chain → A) → Always p → Always q → Always (chained p q k)
  chained_no p q k h g c = bind _ (h c) λ e c. bind _ (g c) λ l c. is_got

  exps_next : (f : ℕ) → Exps f → Exps (suc f)
  unfolding exp
  exps_next f h = record {
    exp_no_lem = λ o. next_no plus_sign _ _ (chained_no _ _ _ (h.term_no o) (h.terms_no o)) (next_no minus_sign _ _ (chained_no _ _ _ (h.term_no o) (h.terms_no o)) (chained_no _ _ _ (h.term_no o) (h.terms_no o)));
    terms_no = λ o. next_no plus_sign _ _ (chained_no _ _ _ (h.term_no o) (h.terms_no o)) (next_no minus_sign _ _ (chained_no _ _ _ (h.term_no o) (h.terms_no o)) (λ c. is_got));
    term_no = λ o. chained_no _ _ _ (h.factor_no o) (h.factors_no o);
    factors_no = λ o. next_no times_sign _ _ (chained_no _ _ _ (h.factor_no o) (h.factors_no o)) (next_no divide_sign _ _ (chained_no _ _ _ (h.factor_no o) (h.factors_no o)) (λ c. is_got));
    factor_no = λ o c. bind _ (look_no c) λ t. by_token t _ _ _
        (λ m. test (same m open_sign) _ _ (λ c. bind _ (enter_no o c) λ u c. bind _ (take_no c) λ u c. bind _ (h.exp_no_lem (suc o) c) λ e c. bind _ (want_no close_sign c) λ u c. is_got) (λ c. is_no refl))
        (λ n c. bind _ (take_no c) (λ u c. is_got)) (λ v c. bind _ (take_no c) (λ u c. is_got));
  }

  exps : (f : ℕ) → Exps f
  unfolding exp
  exps zero = record { exp_no_lem = λ o c. is_no refl; terms_no = λ o c. is_no refl; term_no = λ o c. is_no refl; factors_no = λ o c. is_no refl; factor_no = λ o c. is_no refl }
  exps (suc f) = exps_next f (exps f)

  compare_no_lem : (f o : ℕ) (a : Exp) (r : Option Compare) → Always (compare_with src f o a r)
  unfolding compare_with
  compare_no_lem f o a none c = is_no refl
  compare_no_lem f o a (some r) c = bind _ (take_no c) λ u c. bind _ ((exps f).exp_no_lem o c) λ b c. is_got

  cond_no_lem : (f o : ℕ) → Always (cond src f o)
  unfolding cond
  cond_no_lem f o = next_no odd_word _ _ (λ c. bind _ ((exps f).exp_no_lem o c) (λ e c. is_got))
      (λ c. bind _ ((exps f).exp_no_lem o c) λ a c. bind _ (look_no c) λ t. compare_no_lem f o a (comparison_of t))

  record Stmts (f : ℕ) : Type 0 where
    stmt_no_lem : (o : ℕ) → Always (stmt src f o)
    statement_no : (o : ℕ) (s : Start) → Always (statement src f o s)
    body_no : (o : ℕ) → Always (body_of src f o)
    stmts_no : (o : ℕ) → Always (stmts src f o)

  statement_next : (f : ℕ) → Stmts f → (o : ℕ) (s : Start) → Always (statement src (suc f) o s)
  unfolding stmt
  statement_next f h o (assign_start n) c = bind _ (take_no c) λ u c. bind _ (want_no becomes_sign c) λ u c. bind _ ((exps f).exp_no_lem o c) λ e c. is_got
  statement_next f h o if_start c = bind _ (take_no c) λ u c. bind _ (cond_no_lem f o c) λ d c. bind _ (want_no then_word c) λ u c. bind _ (h.stmt_no_lem o c) λ s.
      next_no else_word _ _ (λ c. bind _ (h.stmt_no_lem o c) λ e c. is_got) (λ c. is_got)
  statement_next f h o while_start c = bind _ (take_no c) λ u c. bind _ (cond_no_lem f o c) λ d c. bind _ (want_no do_word c) λ u c. bind _ (h.stmt_no_lem o c) λ s c. is_got
  statement_next f h o call_start c = bind _ (take_no c) λ u c. bind _ (want_name_no c) λ n c. bind _ (want_no open_sign c) λ u.
      next_no close_sign _ _ (λ c. is_got) (λ c. bind _ (commas_no f _ ((exps f).exp_no_lem o) c) λ es c. bind _ (want_no close_sign c) λ u c. is_got)
  statement_next f h o body_start c = bind _ (h.body_no o c) λ b c. is_got
  statement_next f h o read_start c = bind _ (take_no c) λ u c. bind _ (want_no open_sign c) λ u c. bind _ (commas_no f _ want_name_no c) λ ns c. bind _ (want_no close_sign c) λ u c. is_got
  statement_next f h o write_start c = bind _ (take_no c) λ u c. bind _ (want_no open_sign c) λ u c. bind _ (commas_no f _ ((exps f).exp_no_lem o) c) λ es c. bind _ (want_no close_sign c) λ u c. is_got

  stmts_next : (f : ℕ) → Stmts f → Stmts (suc f)
  unfolding stmt
  stmts_next f h = record {
    stmt_no_lem = λ o c. bind _ (enter_no o c) λ u c. bind _ (look_no c) λ t. by_option (start_of t) _ _ (λ c. is_got) (λ s. h.statement_no (suc o) s);
    statement_no = statement_next f h;
    body_no = λ o c. bind _ (want_no begin_word c) λ u c. bind _ (h.stmts_no o c) λ s. by_option s _ _ (λ c. is_got) (λ b c. bind _ (want_no end_word c) λ u c. is_got);
    stmts_no = λ o c. bind _ (h.stmt_no_lem o c) λ s. next_no semicolon_sign _ _ (λ c. bind _ (h.stmts_no o c) λ r c. is_got) (λ c. is_got);
  }

  all_stmts : (f : ℕ) → Stmts f
  unfolding stmt
  all_stmts zero = record { stmt_no_lem = λ o c. is_no refl; statement_no = λ o s c. is_no refl; body_no = λ o c. is_no refl; stmts_no = λ o c. is_no refl }
  all_stmts (suc f) = stmts_next f (all_stmts f)

  const_part_no : (f : ℕ) → Always (const_part src f)
  unfolding const_part const_def
  const_part_no f = next_no const_word _ _
      (λ c. bind _ (commas_no f _ (λ c. bind _ (want_name_no c) λ n c. bind _ (want_no becomes_sign c) λ u c. bind _ (want_number_no c) λ v c. is_got) c) λ cs c. bind _ (want_no semicolon_sign c) λ u c. is_got)
      (λ c. is_got)

  var_part_no : (f : ℕ) → Always (var_part src f)
  unfolding var_part
  var_part_no f = next_no var_word _ _ (λ c. bind _ (commas_no f _ want_name_no c) λ ns c. bind _ (want_no semicolon_sign c) λ u c. is_got) (λ c. is_got)

  arg_part_no : (f : ℕ) → Always (arg_part src f)
  unfolding arg_part
  arg_part_no f = next_no close_sign _ _ (λ c. is_got) (λ c. bind _ (commas_no f _ want_name_no c) λ ns c. bind _ (want_no close_sign c) λ u c. is_got)

  record Blocks (f : ℕ) : Type 0 where
    proc_no : (o : ℕ) → Always (proc_of src f o)
    inner_no : (o : ℕ) → Always (inner_of src f o)
    later_no : (o : ℕ) → Always (later_of src f o)

  blocks_next : (f : ℕ) → Blocks f → Blocks (suc f)
  unfolding proc_of
  blocks_next f h = record {
    proc_no = λ o c. bind _ (enter_no o c) λ u c. bind _ (want_no procedure_word c) λ u c. bind _ (want_name_no c) λ n c. bind _ (want_no open_sign c) λ u c. bind _ (arg_part_no f c) λ ar c. bind _ (want_no semicolon_sign c) λ u c.
        bind _ (const_part_no f c) λ cs c. bind _ (var_part_no f c) λ vs c. bind _ (h.inner_no (suc o) c) λ ps c. bind _ ((all_stmts f).body_no (suc o) c) λ b c. bind _ (h.later_no (suc o) c) λ l c. is_got;
    inner_no = λ o c. bind _ (look_no c) λ t. test (is_mark procedure_word t) _ _ (λ c. bind _ (h.proc_no o c) λ p c. is_got) (λ c. is_got);
    later_no = λ o. next_no semicolon_sign _ _ (h.proc_no o) (λ c. is_got);
  }

  blocks : (f : ℕ) → Blocks f
  unfolding proc_of
  blocks zero = record { proc_no = λ o c. is_no refl; inner_no = λ o c. is_no refl; later_no = λ o c. is_no refl }
  blocks (suc f) = blocks_next f (blocks f)

  program_no : (f : ℕ) → Always (program src f)
  unfolding program
  program_no f c = bind _ (want_no program_word c) λ u c. bind _ (want_name_no c) λ n c. bind _ (want_no semicolon_sign c) λ u c. bind _ (const_part_no f c) λ cs c. bind _ (var_part_no f c) λ vs c. bind _ ((blocks f).inner_no 0 c) λ ps c. bind _ ((all_stmts f).body_no 0 c) λ b c. is_got

parsed_no : (a : Ans (Option Block)) (n : ℕ) → Numbered a → parsed a ≡ refused n → is_refusal n ≡ true
unfolding parsed
parsed_no (got none c) n h e = let t : n ≡ body_failed_quietly = cc in rw t
parsed_no (got (some b) c) n h e = cc
parsed_no (refuse m) n (is_no l) e = let t : m ≡ n = cc in rw t at l

two_tests : (x y : Bool) → elim x [ true ↦ y | false ↦ false ] ≡ true → (x ≡ true) × (y ≡ true)
two_tests true y e = (refl, e)
two_tests false y e = (e, cc)

bounds : (n : ℕ) → is_refusal n ≡ true → (ltb 0 n ≡ true) × (leb n too_many_tokens ≡ true)
bounds n e = two_tests (ltb 0 n) (leb n too_many_tokens) e

-- no refusal of the parser has the number 0
pub parse_refuses : (src : List ℕ) (n : ℕ) → parse src ≡ refused n → ltb 0 n ≡ true
unfolding parse
parse_refuses src n e = (bounds n (parsed_no (program src fuel (record { seen = 0; at = 0 })) n (program_no src fuel _) e)).0

-- and none that a reader gives has a number above 8
pub program_refuses : (src : List ℕ) (f : ℕ) (c : Cursor) (n : ℕ) → program src f c ≡ refuse n → n ≤ too_many_tokens
program_refuses src f c n e = by (program src f c) (program_no src f c) e
  where
    by : (a : Ans (Option Block)) → Numbered a → a ≡ refuse n → n ≤ too_many_tokens
    by (got v d) h q = absurd (let z : ◌≡◌ {A = ℕ} 0 1 = cc in omega arith)
    by (refuse m) (is_no l) q = let t : m ≡ n = cc in leb-true _ _ (bounds n (rw t at l)).1

-- In a tree that is read from a text, procedures stand at most 64 deep one inside the other.
use Rattle.std.proofs.Math.Path.{◌≡◌, refl}
use Rattle.std.specs.Prelude.{List}
use Rattle.std.proofs.Math.Option.{Option, none, some}
use Prim.Native.Nat.{ℕ, zero, suc, ◌+◌}
use Rattle.std.proofs.Common.{arith}
use borrow.Author.Tests.{ltb-true}
use Rattle.numbers.specs.Limits.{max_open}
use Rattle.lexer.specs.Marks.{procedure_word, program_word, open_sign, semicolon_sign}
use Rattle.lexer.specs.Tokens.{Name}
use Rattle.tree.specs.Tree.{Stmts, Const, Procs, proc, Block}
use Rattle.grammar.specs.Reader.{Cursor, Ans, got, refuse, is_mark, look, take, want, if_next, want_name}
use Rattle.grammar.specs.Gets.{Gets, is_got, is_no}
use Rattle.grammar.proofs.Gets.{bind, on, test, entering}
use Rattle.grammar.specs.Grammar.{both, map_o, or_absent, const_part, var_part, arg_part, body_of, proc_of, inner_of, later_of, program, tree, parsed, parse, fuel}
use Rattle.grammar.specs.Depth.{Nest, nest_more}

-- if there are procedures
unfoldable NestIf : ℕ → Option Procs → Type 0
NestIf d none = Unit {0}
NestIf d (some ps) = Nest d ps

joined : (d : ℕ) (n : Name) (ar : List Name) (cs : List Const) (vs : List Name) (inner : Procs) → Nest d inner → (b : Option Stmts) (l : Option Procs) → NestIf (suc d) l → NestIf (suc d) (both (λ x y. proc n ar cs vs inner x y) b l)
unfolding NestIf Nest both
joined d n ar cs vs inner i none l h = tt
joined d n ar cs vs inner i (some s) none h = tt
joined d n ar cs vs inner i (some s) (some ps) h = (i, h)

if_more : (d : ℕ) (o : Option Procs) → NestIf d o → NestIf (suc d) o
unfolding NestIf
if_more d none h = tt
if_more d (some ps) h = nest_more d ps h

absent : (d : ℕ) (o : Option Procs) → NestIf d o → Nest d (or_absent o)
unfolding NestIf Nest or_absent
absent d none h = tt
absent d (some ps) h = h

module _ (src : List ℕ) where
  -- with o constructs open, at most d procedures stand one inside the other
  record Nests (f : ℕ) : Type 0 where
    procs : (o d : ℕ) → o + d ≡ max_open → (c : Cursor) → Gets (NestIf d) (proc_of src f o c)
    inner : (o d : ℕ) → o + d ≡ max_open → (c : Cursor) → Gets (Nest d) (inner_of src f o c)
    later : (o d : ℕ) → o + d ≡ max_open → (c : Cursor) → Gets (NestIf d) (later_of src f o c)

  procs_next : (f : ℕ) → Nests f → (o d : ℕ) → o + d ≡ max_open → (c : Cursor) → Gets (NestIf d) (proc_of src (suc f) o c)
  unfolding proc_of
  procs_next f h o zero e c = entering o _ c λ t. absurd (omega (arith, ltb-true o max_open t))
  procs_next f h o (suc d) e c = entering o _ c λ t.
      on (want src procedure_word c) _ λ u c. on (want_name src c) _ λ n c. on (want src open_sign c) _ λ u c. on (arg_part src f c) _ λ ar c. on (want src semicolon_sign c) _ λ u c.
      on (const_part src f c) _ λ cs c. on (var_part src f c) _ λ vs c. bind _ (h.inner (suc o) d (omega arith) c) λ ps i c. on (body_of src f (suc o) c) _ λ b c.
      bind _ (h.later (suc o) d (omega arith) c) λ l m c. is_got (joined d n ar cs vs ps i b l (if_more d l m))

  nests_next : (f : ℕ) → Nests f → Nests (suc f)
  unfolding proc_of inner_of later_of if_next NestIf Nest
  nests_next f h = record {
    procs = procs_next f h;
    inner = λ o d e c. on (look src c) _ λ t. test (is_mark procedure_word t) _ _ (λ c. bind _ (h.procs o d e c) λ p n c. is_got (absent d p n)) (λ c. is_got tt);
    later = λ o d e c. on (look src c) _ λ t. test (is_mark semicolon_sign t) _ _ (λ c. on (take src c) _ λ u. h.procs o d e) (λ c. is_got tt);
  }

  nests : (f : ℕ) → Nests f
  unfolding proc_of inner_of later_of
  nests zero = record { procs = λ o d e c. is_no; inner = λ o d e c. is_no; later = λ o d e c. is_no }
  nests (suc f) = nests_next f (nests f)

  unfoldable NestBlock : Option Block → Type 0
  NestBlock none = Unit {0}
  NestBlock (some b) = Nest max_open b.procs

  block_nest : (cs : List Const) (vs : List Name) (ps : Procs) → Nest max_open ps → (b : Option Stmts) → NestBlock (map_o (λ s. record { consts = cs; vars = vs; procs = ps; main = s }) b)
  unfolding NestBlock map_o
  block_nest cs vs ps h none = tt
  block_nest cs vs ps h (some s) = h

  program_nests : (f : ℕ) (c : Cursor) → Gets NestBlock (program src f c)
  unfolding program
  program_nests f c =
      on (want src program_word c) _ λ u c. on (want_name src c) _ λ n c. on (want src semicolon_sign c) _ λ u c. on (const_part src f c) _ λ cs c. on (var_part src f c) _ λ vs c.
      bind _ ((nests f).inner 0 max_open refl c) λ ps h c. on (body_of src f 0 c) _ λ b c. is_got (block_nest cs vs ps h b)

  parsed_nests : (a : Ans (Option Block)) → Gets NestBlock a → (b : Block) → parsed a ≡ tree b → Nest max_open b.procs
  unfolding parsed NestBlock
  parsed_nests (got none c) h b e = absurd (let z : ◌≡◌ {A = ℕ} 0 1 = cc in omega arith)
  parsed_nests (got (some x) c) (is_got h) b e = let s : x ≡ b = cc in rw s at h
  parsed_nests (refuse n) h b e = absurd (let z : ◌≡◌ {A = ℕ} 0 1 = cc in omega arith)

-- the procedures of a text's tree
pub parse_nests : (src : List ℕ) (b : Block) → parse src ≡ tree b → Nest max_open b.procs
unfolding parse
parse_nests src b e = parsed_nests src _ (program_nests src fuel _) b e

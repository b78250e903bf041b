-- The trees of sheets: what is accepted, quiet failure, the nearest `if`, a leading minus, and how many constructs may be open.
use Rattle.std.specs.Prelude.{◌≡◌, refl, Bool, true, false, List, [], ◌∷◌, ◌++◌, ℕ, zero, suc}
use Rattle.numbers.specs.Panel.{too_many_open, body_failed_quietly}
use Rattle.numbers.specs.Arithmetic.{equal, add, mul}
use Rattle.numbers.specs.Bytes.{bytes, is_blank, is_digit, is_letter, is_word_byte, span, digits}
use Rattle.lexer.specs.Marks.{place_of, same, listed, keywords, pairs, singles, spelt}
use Rattle.lexer.specs.Tokens.{lex_at, lex_here, sign_at, number_at, word_at, word_found}
use Rattle.tree.specs.Tree.{Exp, lit, ref, neg, chain, end, link, rel, assign, if_then, if_else, last, no_procs}
use Rattle.grammar.specs.Reader.{counted, judge, enter, is_mark, name_in, number_in, look, take, want, if_next, taking, want_name, want_number, commas}
use Rattle.grammar.specs.Grammar.{Parsed, parse, tree, refused, parsed, program, proc_of, arg_part, var_part, const_part, const_def, stmt, starts, start_of, if_node, map_o, both, cond, compare_with, comparisons, comparison_of, exp, or_absent}

-- one name for all that a text is read through
unfoldable pub reading : ℕ
unfolding bytes is_blank is_digit is_letter is_word_byte span digits place_of same listed keywords pairs singles spelt lex_at lex_here sign_at number_at word_at word_found counted judge enter is_mark name_in number_in look take want if_next taking want_name want_number commas parse parsed program proc_of arg_part var_part const_part const_def stmt starts start_of if_node map_o both cond compare_with comparisons comparison_of exp or_absent
reading = 0

S : List ℕ
S = bytes "program p; var x; "

-- an expression of one factor
one : Exp → Exp
one e = chain (chain e end) end

accepted : parse (S ++ bytes "begin x:=1 end")
    ≡ tree (record { consts = []; vars = record { at = 15; text = bytes "x" } ∷ []; procs = no_procs; main = last (assign (record { at = 24; text = bytes "x" }) (one (lit 1))) })
unfolding reading S one
accepted = refl

quiet : parse (S ++ bytes "begin x:=1; end") ≡ refused body_failed_quietly
unfolding reading S
quiet = refl

-- the same failure after `else` is absorbed: the `if` has no else part
absorbed : parse (S ++ bytes "begin if x=0 then x:=2 else begin x:=1; end")
    ≡ tree (record {
      consts = [];
      vars = record { at = 15; text = bytes "x" } ∷ [];
      procs = no_procs;
      main = last (if_then (rel equal (one (ref (record { at = 27; text = bytes "x" }))) (one (lit 0))) (assign (record { at = 36; text = bytes "x" }) (one (lit 2))));
    })
unfolding reading S one
absorbed = refl

-- `else` goes to the nearest open `if`
nearest : parse (S ++ bytes "begin if x=0 then if x=1 then x:=2 else x:=3 end")
    ≡ tree (record {
      consts = [];
      vars = record { at = 15; text = bytes "x" } ∷ [];
      procs = no_procs;
      main = last (if_then (rel equal (one (ref (record { at = 27; text = bytes "x" }))) (one (lit 0))) (if_else (rel equal (one (ref (record { at = 39; text = bytes "x" }))) (one (lit 1))) (assign (record { at = 48; text = bytes "x" }) (one (lit 2))) (assign (record { at = 58; text = bytes "x" }) (one (lit 3)))));
    })
unfolding reading S one
nearest = refl

-- a leading minus negates the whole first term
negated : parse (S ++ bytes "begin x:=-2*3+1 end")
    ≡ tree (record {
      consts = [];
      vars = record { at = 15; text = bytes "x" } ∷ [];
      procs = no_procs;
      main = last (assign (record { at = 24; text = bytes "x" }) (chain (neg (chain (lit 2) (link mul (lit 3) end))) (link add (chain (lit 1) end) end)));
    })
unfolding reading S
negated = refl

-- n times over
times : ℕ → List ℕ → List ℕ
times zero l = []
times (suc n) l = l ++ times n l

-- an assignment within n bodies, and these in the main body
within : ℕ → List ℕ
within n = S ++ bytes "begin " ++ times n (bytes "begin ") ++ bytes "x:=1" ++ times n (bytes " end") ++ bytes " end"

is_tree : Parsed → Bool
is_tree (tree b) = true
is_tree (refused n) = false

-- 64 constructs may be open at once: the assignment is one of them, the main body is none
deepest : is_tree (parse (within 63)) ≡ true
unfolding reading S times within is_tree
deepest = refl

too_deep : parse (within 64) ≡ refused too_many_open
unfolding reading S times within
too_deep = refl

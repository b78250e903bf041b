-- Conditions.
use Rattle.std.specs.Prelude.{Ok, Err}
use mathlib.Core.Path.{◌≡◌, refl, sym, ap, subst, ◌∙◌}
use mathlib.Core.List.{List}
use mathlib.Core.Option.{Option, none, some}
use Rattle.std.specs.Prelude as O
use Prim.Native.Nat.{ℕ, suc, ◌+◌, ◌*◌, ◌≤◌}
use native.Mathlib.Omega.{arith}
use Rattle.numbers.specs.Panel.{token_missing}
use Rattle.numbers.specs.Arithmetic.{Compare}
use Rattle.numbers.specs.declared.arithmetic.Compare.{Compare as Comparison}
use Rattle.numbers.specs.Answers.{compare_of}
use Rattle.numbers.specs.declared.refusal.Refusal.{Refusal}
use Rattle.numbers.specs.Refusals.{number_of}
use Rattle.lexer.specs.Marks.{if_word, then_word, else_word, while_word, do_word, const_word, var_word, procedure_word, program_word, begin_word, end_word, call_word, read_word, write_word, odd_word, plus_sign, minus_sign, times_sign, divide_sign, equal_sign, less_sign, greater_sign, at_most_sign, at_least_sign, unequal_sign, becomes_sign, open_sign, close_sign, semicolon_sign, comma_sign, place_of, same, listed}
use Rattle.lexer.specs.Tokens.{Token as Word, mark, name, number, token}
use Rattle.lexer.specs.Cursor.{Cursor as Place, Ans, got, look, take}
use Rattle.lexer.specs.Meaning.{sees, meaning}
use Rattle.lexer.specs.Spelling.{token_of}
use Rattle.lexer.specs.Stands.{Stands, taken, past, left}
use Rattle.lexer.specs.declared.token.Token.{Token}
use Rattle.lexer.specs.declared.token.Token.TheVariants.{Eq, Ne, Lt, Ge, Gt, Le}
use Rattle.lexer.specs.declared.cursor.Cursor.{Cursor}
use Rattle.tree.specs.Tree.{Exp, Cond, is_odd, rel}
use Rattle.tree.specs.Layout.{member, branch, node_no, odd_kind, comparison_kind, count}
use Rattle.tree.specs.Nodes.{compare_no, exp_node, cond_node}
use Rattle.tree.specs.Writing.{join}
use Rattle.parser.specs.Answer.{Answer, Node}
use Rattle.grammar.specs.Reader.{then}
use Rattle.grammar.specs.Grammar.{exp, cond, comparisons, comparison_of, compare_with}
use Rattle.parser.specs.Parts.{only, operand, condition, comparing, Compares, odds, compared}
use Rattle.parser.specs.Written.{Wrote, Seals}
use Rattle.parser.specs.See.{Seen, Sees}
use Rattle.parser.specs.Meets.{Safe, Means, Reads}
use Rattle.parser.proofs.Tokens.{kind_in, known, no_plain}
use Rattle.parser.proofs.Seeing.{saw, no_look, next_is, next_is_not}
use Rattle.parser.proofs.Writing.{wrote_more}
use Rattle.parser.proofs.Answers.{Refuses, grew, made, Moved}
use Rattle.parser.proofs.Choices.{next_refused}

-- a token that is a comparison
pub compares_to : (t t' : Token) (v : Word) (r : O.Option Comparison) → ((src : List ℕ) → meaning src t' ≡ sees (token v)) → comparison_of v ≡ comparing r → t ≡ t' → Compares t r
compares_to t t' v r m q e = record { compares = λ src w h. let z : v ≡ w = cc (m src, ap (meaning src) e) in ap comparison_of (sym z) ∙ q }

-- a word that is none
no_comparison_lem : (w : Word) → (kind_in w ≡ 19 → ⊥) → (kind_in w ≡ 24 → ⊥) → (kind_in w ≡ 20 → ⊥) → (kind_in w ≡ 23 → ⊥) → (kind_in w ≡ 21 → ⊥) → (kind_in w ≡ 22 → ⊥) → comparison_of w ≡ none
unfolding kind_in comparison_of listed comparisons same place_of
no_comparison_lem (mark if_word) g h i j k l = refl
no_comparison_lem (mark then_word) g h i j k l = refl
no_comparison_lem (mark else_word) g h i j k l = refl
no_comparison_lem (mark while_word) g h i j k l = refl
no_comparison_lem (mark do_word) g h i j k l = refl
no_comparison_lem (mark const_word) g h i j k l = refl
no_comparison_lem (mark var_word) g h i j k l = refl
no_comparison_lem (mark procedure_word) g h i j k l = refl
no_comparison_lem (mark program_word) g h i j k l = refl
no_comparison_lem (mark begin_word) g h i j k l = refl
no_comparison_lem (mark end_word) g h i j k l = refl
no_comparison_lem (mark call_word) g h i j k l = refl
no_comparison_lem (mark read_word) g h i j k l = refl
no_comparison_lem (mark write_word) g h i j k l = refl
no_comparison_lem (mark odd_word) g h i j k l = refl
no_comparison_lem (mark plus_sign) g h i j k l = refl
no_comparison_lem (mark minus_sign) g h i j k l = refl
no_comparison_lem (mark times_sign) g h i j k l = refl
no_comparison_lem (mark divide_sign) g h i j k l = refl
no_comparison_lem (mark equal_sign) g h i j k l = absurd (g refl)
no_comparison_lem (mark less_sign) g h i j k l = absurd (i refl)
no_comparison_lem (mark greater_sign) g h i j k l = absurd (k refl)
no_comparison_lem (mark at_most_sign) g h i j k l = absurd (l refl)
no_comparison_lem (mark at_least_sign) g h i j k l = absurd (j refl)
no_comparison_lem (mark unequal_sign) g h i j k l = absurd (h refl)
no_comparison_lem (mark becomes_sign) g h i j k l = refl
no_comparison_lem (mark open_sign) g h i j k l = refl
no_comparison_lem (mark close_sign) g h i j k l = refl
no_comparison_lem (mark semicolon_sign) g h i j k l = refl
no_comparison_lem (mark comma_sign) g h i j k l = refl
no_comparison_lem (name n) g h i j k l = refl
no_comparison_lem (number v) g h i j k l = refl

pub compares_none : (t : Token) → (t ≡ Eq → ⊥) → (t ≡ Ne → ⊥) → (t ≡ Lt → ⊥) → (t ≡ Ge → ⊥) → (t ≡ Gt → ⊥) → (t ≡ Le → ⊥) → Compares t O.None
compares_none t g h i j k l = record {
  compares = λ src w e.
      let y = known src t w e in
      no_comparison_lem w (λ z. no_plain t 19 (λ q. omega (arith, q)) (λ q. omega (arith, q)) g (y ∙ z)) (λ z. no_plain t 24 (λ q. omega (arith, q)) (λ q. omega (arith, q)) h (y ∙ z)) (λ z. no_plain t 20 (λ q. omega (arith, q)) (λ q. omega (arith, q)) i (y ∙ z)) (λ z. no_plain t 23 (λ q. omega (arith, q)) (λ q. omega (arith, q)) j (y ∙ z)) (λ z. no_plain t 21 (λ q. omega (arith, q)) (λ q. omega (arith, q)) k (y ∙ z)) (λ z. no_plain t 22 (λ q. omega (arith, q)) (λ q. omega (arith, q)) l (y ∙ z));
}

module _ (src : List ℕ) (o : ℕ) where
  pub odds_refused : {w : ℕ} {c : Cursor} → Refuses src (λ n. exp src n o) (8 * left c + 3) c w → Refuses src (λ n. odds src n o) (8 * left c + 3) c w
  unfolding odds
  odds_refused z n l k s = ap (then _) (z n l k s)

  pub odds_done : (u : ℕ) {xs ys zs : List ℕ} {end : ℕ} {c d : Cursor} {r : Answer} → Reads (operand 0) src xs (u + 4) ys (λ n. exp src n o) (8 * left c + 3) 0 0 c r → r ≡ Node end d
      → Seals u (node_no odd_kind) 0 1 end ys zs → Reads condition src xs u zs (λ n. odds src n o) (8 * left c + 3) 0 4 c (Node end d)
  unfolding odds Safe Means cond_node count
  odds_done u {xs} h q t =
      let g = grew h q in
      record {
        safe = record { above = omega (arith, g.above); fewer = g.fewer; room = omega (arith, g.room) };
        means = λ n l k s.
            let b = made h q n l k s in
            record { value = is_odd b.value; at = b.at; is = ap (then _) b.is; stands = b.stands; wrote = t.sealed xs odd_kind (operand 0 b.value) refl refl b.wrote };
      }

  -- the first expression is refused
  pub compared_refused : {w : ℕ} {c : Cursor} → Refuses src (λ n. exp src n o) (8 * left c + 3) c w → Refuses src (λ n. compared src n o) (8 * left c + 3) c w
  unfolding compared
  compared_refused z n l k s = ap (then _) (z n l k s)

  -- it is there
  module _ (u : ℕ) {xs ys : List ℕ} {i : ℕ} {c d : Cursor} {r : Answer} (h : Reads (operand 0) src xs (u + 4) ys (λ n. exp src n o) (8 * left c + 3) 0 0 c r) (q : r ≡ Node i d) {v : Seen} (y : Sees src d v) where
    pub compared_stop : {n : Refusal} → v ≡ Err n → Refuses src (λ n. compared src n o) (8 * left c + 3) c (number_of n)
    unfolding compared
    compared_stop e n l k s = let b = made h q n l k s in ap (then _) b.is ∙ ap (then _) (no_look y e b.at b.stands)

    module _ {t : Cursor} (at : v ≡ Ok t) {a : O.Option Comparison} (cmp : Compares t.token a) where
      pub compared_none : a ≡ O.None → Refuses src (λ n. compared src n o) (8 * left c + 3) c token_missing
      unfolding compared compare_with
      compared_none z n l k s =
          let b = made h q n l k s in
          let p = saw y at b.at b.stands in
          let x : comparison_of p.0 ≡ none = cmp.compares src p.0 p.1.means ∙ ap comparing z in
          ap (then _) b.is ∙ ap (then _) p.1.looks ∙ ap (λ (a : Option Compare). compare_with src n o b.value a b.at) x

      -- the sign, and then the second expression
      module _ {s' : Comparison} (some' : a ≡ O.Some s') {t' : Cursor} (e : t' ≡ taken t) where
        record Signed (n : ℕ) (b : Exp) (k : Place) (f : Ans Cond) : Type 0 where
          pub stands : Stands src t' (past src k)
          pub fewer : suc (left t') ≡ left d
          pub is : f ≡ then (λ y c. got (rel (compare_of s') b y) c) (exp src n o (past src k))

        after_sign : (n : ℕ) (b : Exp) (k : Place) → Stands src d k → (f : Ans Cond) → f ≡ then (λ t. compare_with src n o b (comparison_of t)) (look src k) → Signed n b k f
        unfolding compare_with take
        after_sign n b k s f i =
            let p = saw y at k s in
            let x : comparison_of p.0 ≡ some (compare_of s') = cmp.compares src p.0 p.1.means ∙ ap comparing some' in
            record {
              stands = rw e p.1.beyond;
              fewer = rw e p.1.fewer;
              is = i ∙ ap (then _) p.1.looks ∙ ap (λ (z : Option Compare). compare_with src n o b z k) x;
            }

        pub compared_second : {w : ℕ} → left t' ≤ left c → Refuses src (λ n. exp src n o) (8 * left t' + 3) t' w → Refuses src (λ n. compared src n o) (8 * left c + 3) c w
        unfolding compared
        compared_second fw z n l k s =
            let b = made h q n l k s in
            let j = after_sign n b.value b.at b.stands (compared src n o k) (ap (then _) b.is) in
            j.is ∙ ap (then _) (z n (omega arith) (past src b.at) j.stands)

        pub compared_done : {ys' zs : List ℕ} {end no : ℕ} {r' : Answer} {d' : Cursor} → suc (left t') ≡ left d → Reads (operand 0) src ys i ys' (λ n. exp src n o) (8 * left t' + 3) 0 0 t' r' → r' ≡ Node end d'
            → no ≡ compare_no (compare_of s') → Seals u (node_no comparison_kind) no 2 end ys' zs → Reads condition src xs u zs (λ n. compared src n o) (8 * left c + 3) 8 0 c (Node end d')
        unfolding compared Safe Means cond_node count join
        compared_done {ys'} {zs} {end} {no} {r'} {d'} f h' q' j z =
            let g = grew h q in
            let g' = grew h' q' in
            record {
              safe = record { above = omega (arith, g.above, g'.above); fewer = omega (arith, g.fewer, g'.fewer); room = omega (arith, g.room, g'.room) };
              means = λ n l k s.
                  let b = made h q n l k s in
                  let x = after_sign n b.value b.at b.stands (compared src n o k) (ap (then _) b.is) in
                  let b' = made h' q' n (omega (arith, g.fewer)) (past src b.at) x.stands in
                  record {
                    value = rel (compare_of s') b.value b'.value;
                    at = b'.at;
                    is = x.is ∙ ap (then _) b'.is;
                    stands = b'.stands;
                    wrote = subst (λ (x : ℕ). Wrote xs u zs end (only (branch comparison_kind x (member (exp_node 0 b.value) (operand 0 b'.value))))) j
                        (z.sealed xs comparison_kind (member (exp_node 0 b.value) (operand 0 b'.value)) refl refl (wrote_more b.wrote b'.wrote));
                  };
            }

  -- a condition by its first token
  pub cond_refused : {c : Cursor} {v : Seen} {n : Refusal} → Sees src c v → v ≡ Err n → Refuses src (λ n. cond src n o) (8 * left c + 3) c (number_of n)
  unfolding cond
  cond_refused h e n l k s = next_refused src odd_word _ _ k (no_look h e k s)

  module _ {c d : Cursor} {v : Seen} (h : Sees src c v) (at : v ≡ Ok d) where
    pub cond_odd : {t : Cursor} → t ≡ taken d → d.token ≡ token_of odd_word → (n : ℕ) → 8 * left c + 3 ≤ n → (k : Place) → Stands src c k → Moved src (λ n. odds src n o) (8 * left t + 3) t (cond src n o k)
    unfolding cond odds
    cond_odd {t} e i n l k s =
        let p = (saw h at k s).1 in
        let f : suc (left t) ≡ left c = rw e p.fewer in
        record { fuel = n; enough = omega arith; at = past src k; stands = rw e p.beyond; is = next_is p odd_word _ _ i }

    pub cond_compared : (d.token ≡ token_of odd_word → ⊥) → (n : ℕ) → 8 * left c + 3 ≤ n → (k : Place) → Stands src c k → Moved src (λ n. compared src n o) (8 * left d + 3) d (cond src n o k)
    unfolding cond compared
    cond_compared i n l k s =
        let p = (saw h at k s).1 in
        record { fuel = n; enough = omega (arith, p.same); at = k; stands = p.stands; is = next_is_not p odd_word _ _ i }

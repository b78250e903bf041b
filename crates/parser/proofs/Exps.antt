-- Expressions: their definition as a chain, and the readers that are no chain.
use Rattle.std.specs.Prelude.{Ok, Err}
use mathlib.Core.Path.{◌≡◌, refl, sym, ap, subst, ◌∙◌}
use mathlib.Core.Bool.{Bool, false}
use mathlib.Core.List.{List, ◌++◌}
use Prim.Native.Nat.{ℕ, suc, ◌+◌, ◌*◌, ◌≤◌, ◌<◌}
use native.Mathlib.Omega.{arith}
use lib.ListN.{length, take as front}
use Rattle.numbers.specs.Panel.{token_missing, too_many_open}
use Rattle.numbers.specs.Limits.{max_open}
use Rattle.numbers.specs.Arithmetic.{add, sub, mul, div}
use Rattle.numbers.specs.declared.refusal.Refusal.{Refusal}
use Rattle.numbers.specs.Refusals.{number_of}
use Rattle.lexer.specs.Marks.{Mark, plus_sign, minus_sign, times_sign, divide_sign, open_sign, close_sign, place_of, same}
use Rattle.lexer.specs.Cursor.{Cursor as Place, got, refuse, Reader, look, take}
use Rattle.lexer.specs.Tokens.{Name, Token as Word, mark, name, number}
use Rattle.lexer.specs.Spelling.{token_of}
use Rattle.lexer.specs.Stands.{Stands, taken, past, left}
use Rattle.lexer.specs.Meaning.{name_at}
use Rattle.lexer.specs.declared.token.Token.TheVariants.{ParL, Identifier, Integer}
use Rattle.lexer.specs.declared.cursor.Cursor.{Cursor}
use Rattle.tree.specs.Tree.{Exp, lit, ref, neg, chain, link, end, brackets}
use Rattle.tree.specs.Layout.{word, literal, enc, node_no, neg_kind, brackets_kind, count}
use Rattle.tree.specs.Nodes.{exp_node}
use Rattle.parser.specs.Answer.{Answer, Node}
use Rattle.grammar.specs.Reader.{then, pure, fail, enter, want, if_next}
use Rattle.grammar.specs.Grammar.{chained, exp, terms, term, factors, factor}
use Rattle.parser.specs.Parts.{operand, negated, signed, bracketed}
use Rattle.parser.specs.Written.{Seals}
use Rattle.parser.specs.See.{Seen, Sees, Wants}
use Rattle.parser.specs.Meets.{Safe, Made, Means, Reads}
use Rattle.parser.proofs.Tokens.{known, no_factor_lem, no_identifier, no_integer, no_plain}
use Rattle.parser.proofs.Seeing.{choose, saw, no_look, took, no_mark, next_is, next_is_not, enters, enters_not}
use Rattle.parser.proofs.Leaves.{looked_at, literal_of_lem, wrote_name, wrote_number, leaf_grew}
use Rattle.parser.proofs.Chains.{Chaining}
use Rattle.parser.proofs.Answers.{Refuses, by_suc, grew, made, Moved}
use Rattle.parser.proofs.Choices.{then_then, next_then, next_same, next_refused}

-- an expression is a signed term, and then terms
pub exp_whole : (src : List ℕ) (o n : ℕ) (k : Place) → exp src (suc n) o k ≡ then (λ e c. then (λ l k. got (chain e l) k) (terms src n o c)) (signed src n o k)
unfolding exp signed negated
exp_whole src o n k =
    sym
    (next_then src plus_sign g (term src n o) (if_next src minus_sign (negated src n o) (term src n o)) k
    ∙ next_same src plus_sign (λ c. then g (term src n o c)) _ (λ c. then g (term src n o c)) _ (λ c. refl)
    (λ c.
    next_then src minus_sign g (negated src n o) (term src n o) c
    ∙ next_same src minus_sign _ _ _ (λ c. then g (term src n o c)) (λ c. then_then g (λ e c. got (neg e) c) (term src n o c)) (λ c. refl) c) k)
  where
    g : Exp → Reader Exp
    g e c = then (λ l k. got (chain e l) k) (terms src n o c)

pub terms_again : (src : List ℕ) (o n : ℕ) (k : Place)
    → terms src (suc n) o k ≡ if_next src plus_sign (chained (term src n o) (terms src n o) (link add)) (if_next src minus_sign (chained (term src n o) (terms src n o) (link sub)) (pure end)) k
unfolding terms
terms_again src o n k = refl

pub term_whole : (src : List ℕ) (o n : ℕ) (k : Place) → term src (suc n) o k ≡ then (λ e c. then (λ l k. got (chain e l) k) (factors src n o c)) (factor src n o k)
unfolding term
term_whole src o n k = refl

pub factors_again : (src : List ℕ) (o n : ℕ) (k : Place)
    → factors src (suc n) o k ≡ if_next src times_sign (chained (factor src n o) (factors src n o) (link mul)) (if_next src divide_sign (chained (factor src n o) (factors src n o) (link div)) (pure end)) k
unfolding factors
factors_again src o n k = refl

abbrev pub sums : (src : List ℕ) (o : ℕ) → Chaining src (λ n. exp src n o) (λ n. signed src n o) (λ n. term src n o) (λ n. terms src n o)
sums src o = record { ma = plus_sign; mb = minus_sign; aa = add; ab = sub; whole = exp_whole src o; again = terms_again src o }

abbrev pub products : (src : List ℕ) (o : ℕ) → Chaining src (λ n. term src n o) (λ n. factor src n o) (λ n. factor src n o) (λ n. factors src n o)
products src o = record { ma = times_sign; mb = divide_sign; aa = mul; ab = div; whole = term_whole src o; again = factors_again src o }

-- a leading minus
module _ (src : List ℕ) (o : ℕ) where
  pub negated_refused : {w : ℕ} {c : Cursor} → Refuses src (λ n. term src n o) (8 * left c + 2) c w → Refuses src (λ n. negated src n o) (8 * left c + 2) c w
  unfolding negated
  negated_refused z n l k s = ap (then _) (z n l k s)

  pub negated_done : (u : ℕ) {xs ys zs : List ℕ} {end : ℕ} {c d : Cursor} {r : Answer} → Reads (operand 0) src xs (u + 4) ys (λ n. term src n o) (8 * left c + 2) 4 0 c r → r ≡ Node end d
      → Seals u (node_no neg_kind) 0 1 end ys zs → Reads (operand 0) src xs u zs (λ n. negated src n o) (8 * left c + 2) 0 0 c (Node end d)
  unfolding negated Safe Means exp_node count
  negated_done u {xs} {ys} {zs} {end} {c} {d} {r} h q t =
      let g = grew h q in
      record {
        safe = record { above = omega (arith, g.above); fewer = g.fewer; room = omega (arith, g.room) };
        means = λ n l k s.
            let b = made h q n l k s in
            record { value = neg b.value; at = b.at; is = ap (then _) b.is; stands = b.stands; wrote = t.sealed xs neg_kind (operand 0 b.value) refl refl b.wrote };
      }

  -- a sign or none, and a term
  pub signed_refused : {c : Cursor} {v : Seen} {n : Refusal} → Sees src c v → v ≡ Err n → Refuses src (λ n. signed src n o) (8 * left c + 2) c (number_of n)
  unfolding signed
  signed_refused h e n l k s = next_refused src plus_sign _ _ k (no_look h e k s)

  module _ {c d : Cursor} {v : Seen} (h : Sees src c v) (at : v ≡ Ok d) where
    pub signed_plus : {t : Cursor} → t ≡ taken d → d.token ≡ token_of plus_sign → (n : ℕ) → 8 * left c + 2 ≤ n → (k : Place) → Stands src c k → Moved src (λ n. term src n o) (8 * left t + 2) t (signed src n o k)
    unfolding signed
    signed_plus {t} e i n l k s =
        let p = (saw h at k s).1 in
        let f : suc (left t) ≡ left c = rw e p.fewer in
        record { fuel = n; enough = omega arith; at = past src k; stands = rw e p.beyond; is = next_is p plus_sign _ _ i }

    module _ (other : d.token ≡ token_of plus_sign → ⊥) where
      pub signed_minus : {t : Cursor} → t ≡ taken d → d.token ≡ token_of minus_sign → (n : ℕ) → 8 * left c + 2 ≤ n → (k : Place) → Stands src c k → Moved src (λ n. negated src n o) (8 * left t + 2) t (signed src n o k)
      unfolding signed
      signed_minus {t} e i n l k s =
          let p = (saw h at k s).1 in
          let f : suc (left t) ≡ left c = rw e p.fewer in
          record { fuel = n; enough = omega arith; at = past src k; stands = rw e p.beyond; is = next_is_not p plus_sign _ _ other ∙ next_is p minus_sign _ _ i }

      pub signed_none : (d.token ≡ token_of minus_sign → ⊥) → (n : ℕ) → 8 * left c + 2 ≤ n → (k : Place) → Stands src c k → Moved src (λ n. term src n o) (8 * left d + 2) d (signed src n o k)
      unfolding signed
      signed_none i n l k s =
          let p = (saw h at k s).1 in
          record { fuel = n; enough = omega (arith, p.same); at = k; stands = p.stands; is = next_is_not p plus_sign _ _ other ∙ next_is_not p minus_sign _ _ i }

  -- brackets
  pub bracketed_refused : {w : ℕ} {c : Cursor} → Refuses src (λ n. exp src n o) (8 * left c + 3) c w → Refuses src (λ n. bracketed src n o) (8 * left c + 3) c w
  unfolding bracketed
  bracketed_refused z n l k s = ap (then _) (z n l k s)

  module _ (u : ℕ) {xs ys : List ℕ} {end : ℕ} {c d : Cursor} {r : Answer} (h : Reads (operand 0) src xs (u + 4) ys (λ n. exp src n o) (8 * left c + 3) 0 0 c r) (q : r ≡ Node end d)
      {v : Seen} (wants : Wants src close_sign d v) where
    pub bracketed_open : {n : Refusal} → v ≡ Err n → Refuses src (λ n. bracketed src n o) (8 * left c + 3) c (number_of n)
    unfolding bracketed
    bracketed_open e n l k s = let b = made h q n l k s in ap (then _) b.is ∙ ap (then _) (no_mark wants e b.at b.stands)

    pub bracketed_done : {op : ℕ} {zs : List ℕ} {t : Cursor} → v ≡ Ok t → suc (left t) ≡ left d → Seals u (node_no brackets_kind) op 1 end ys zs
        → Reads (operand op) src xs u zs (λ n. bracketed src n o) (8 * left c + 3) 8 0 c (Node end t)
    unfolding bracketed Safe Means exp_node count
    bracketed_done {op} {zs} {t} e f z =
        let g = grew h q in
        record {
          safe = record { above = omega (arith, g.above); fewer = omega (arith, g.fewer); room = omega (arith, g.room) };
          means = λ n l k s.
              let b = made h q n l k s in
              let w = took wants e b.at b.stands in
              record {
                value = brackets b.value;
                at = past src b.at;
                is = ap (then _) b.is ∙ ap (then _) w.wants;
                stands = w.stands;
                wrote = z.sealed xs brackets_kind (operand 0 b.value) refl refl b.wrote;
              };
        }

  -- a factor, by its token
  pub factor_refused : {c : Cursor} {v : Seen} {n : Refusal} → Sees src c v → v ≡ Err n → Refuses src (λ n. factor src n o) (8 * left c + 1) c (number_of n)
  unfolding factor
  factor_refused {c} {v} {n} h e = by_suc (λ x. (k : Place) → Stands src c k → factor src x o k ≡ refuse (number_of n)) (8 * left c + 1) (omega arith) (λ x l k s. ap (then _) (no_look h e k s))

  -- once the word is known
  at_name : (x : Name) (n : ℕ) (k : Place) → look src k ≡ got (name x) k → factor src (suc n) o k ≡ got (ref x) (past src k)
  unfolding factor take
  at_name x n k h = ap (then _) h

  at_number : (x : ℕ) (n : ℕ) (k : Place) → look src k ≡ got (number x) k → factor src (suc n) o k ≡ got (lit x) (past src k)
  unfolding factor take
  at_number x n k h = ap (then _) h

  at_open : (n : ℕ) (k : Place) → look src k ≡ got (mark open_sign) k → factor src (suc n) o k ≡ then (λ u c. then (λ u. bracketed src n (suc o)) (take src c)) (enter o k)
  unfolding factor bracketed same place_of
  at_open n k h = ap (then _) h

  at_other : (m : Mark) → same m open_sign ≡ false → (n : ℕ) (k : Place) → look src k ≡ got (mark m) k → factor src (suc n) o k ≡ refuse token_missing
  unfolding factor choose
  at_other m q n k h = ap (then _) h ∙ ap (λ (b : Bool). choose b (λ c. then (λ u c. then (λ u c. then (λ e c. then (λ u c. got (brackets e) c) (want src close_sign c)) (exp src n (suc o) c)) (take src c)) (enter o c)) (fail token_missing) k) q

  module _ {c d : Cursor} {v : Seen} (h : Sees src c v) (at : v ≡ Ok d) where
    -- a token that starts no factor
    pub factor_other : ((a n : ℕ) → d.token ≡ Identifier a n → ⊥) → ((v : ℕ) → d.token ≡ Integer v → ⊥) → (d.token ≡ ParL → ⊥) → Refuses src (λ n. factor src n o) (8 * left c + 1) c token_missing
    factor_other f g i =
        by_suc (λ x. (k : Place) → Stands src c k → factor src x o k ≡ refuse token_missing) (8 * left c + 1) (omega arith)
        (λ x l k s.
        let p = saw h at k s in
        let y = (known src d.token p.0 p.1.means) in
        let z = no_factor_lem p.0 (λ e. no_identifier d.token f (y ∙ e)) (λ e. no_integer d.token g (y ∙ e)) (λ e. no_plain d.token 26 (λ q. omega (arith, q)) (λ q. omega (arith, q)) i (y ∙ e)) in
        at_other z.0 z.1.1 x k (subst (λ (w : Word). look src k ≡ got w k) z.1.0 p.1.looks))

    -- `(`
    module _ (i : d.token ≡ ParL) where
      pub factor_deep : max_open ≤ o → Refuses src (λ n. factor src n o) (8 * left c + 1) c too_many_open
      factor_deep z =
          by_suc (λ x. (k : Place) → Stands src c k → factor src x o k ≡ refuse too_many_open) (8 * left c + 1) (omega arith)
          (λ x l k s. at_open x k (looked_at (saw h at k s).1 ParL (mark open_sign) i refl) ∙ ap (then _) (enters_not o k z))

      pub factor_open : {t : Cursor} → t ≡ taken d → o < max_open → (o' : ℕ) → o' ≡ suc o → (n : ℕ) → 8 * left c + 1 ≤ n → (k : Place) → Stands src c k
          → Moved src (λ n. bracketed src n o') (8 * left t + 3) t (factor src n o k)
      unfolding take
      factor_open {t} e z o' eq =
          by_suc (λ x. (k : Place) → Stands src c k → Moved src (λ n. bracketed src n o') (8 * left t + 3) t (factor src x o k)) (8 * left c + 1) (omega arith)
          (λ x l k s.
          let p = (saw h at k s).1 in
          let f : suc (left t) ≡ left c = rw e p.fewer in
          record {
            fuel = x;
            enough = omega arith;
            at = past src k;
            stands = rw e p.beyond;
            is = at_open x k (looked_at p ParL (mark open_sign) i refl) ∙ ap (then _) (enters o k z) ∙ ap (λ (y : ℕ). bracketed src x y (past src k)) (sym eq);
          })

    -- a name or a literal
    module _ {t : Cursor} (e : t ≡ taken d) (f : suc (left t) ≡ left c) {xs ys : List ℕ} {u end : ℕ} (fits : u ≤ length xs) (ends : end ≡ u + 4) (op : ℕ) where
      pub factor_name : (a l : ℕ) → d.token ≡ Identifier a l → a + l ≤ length src → front end ys ≡ front u xs ++ enc (word op a l)
          → Reads (operand op) src xs u ys (λ n. factor src n o) (8 * left c + 1) 8 0 c (Node end t)
      unfolding Safe Means exp_node
      factor_name a l i inside lies = record {
        safe = leaf_grew ends f;
        means = by_suc (λ x. (k : Place) → Stands src c k → Made (λ a. a) (λ v. ⊥) (operand op) src xs u ys end t (factor src x o k)) (8 * left c + 1) (omega arith)
            (λ x b k s.
            let p = (saw h at k s).1 in
            record {
              value = ref (name_at src a l);
              at = past src k;
              is = at_name (name_at src a l) x k (looked_at p (Identifier a l) (name (name_at src a l)) i refl);
              stands = rw e p.beyond;
              wrote = wrote_name src a l op inside fits ends lies;
            });
      }

      pub factor_number : (v : ℕ) → d.token ≡ Integer v → front end ys ≡ front u xs ++ enc (literal op v)
          → Reads (operand op) src xs u ys (λ n. factor src n o) (8 * left c + 1) 8 0 c (Node end t)
      unfolding Safe Means exp_node
      factor_number v i lies = record {
        safe = leaf_grew ends f;
        means = by_suc (λ x. (k : Place) → Stands src c k → Made (λ a. a) (λ v. ⊥) (operand op) src xs u ys end t (factor src x o k)) (8 * left c + 1) (omega arith)
            (λ y b k s.
            let p = (saw h at k s).1 in
            record { value = lit v; at = past src k; is = at_number v y k (literal_of_lem p v i).1; stands = rw e p.beyond; wrote = wrote_number op v fits ends lies });
      }

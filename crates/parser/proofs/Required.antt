-- A name or a literal that has to be there.
use Rattle.std.specs.Prelude.{Ok, Err}
use mathlib.Core.Path.{◌≡◌, refl, ap, ◌∙◌}
use mathlib.Core.List.{List, ◌++◌}
use Prim.Native.Nat.{ℕ, suc, ◌+◌, ◌≤◌}
use lib.ListN.{length, take as front}
use Rattle.numbers.specs.Panel.{token_missing}
use Rattle.numbers.specs.declared.refusal.Refusal.{Refusal}
use Rattle.numbers.specs.Refusals.{number_of}
use Rattle.lexer.specs.Tokens.{Token as Word, mark, name, number}
use Rattle.lexer.specs.Cursor.{Cursor as Place, refuse, take}
use Rattle.lexer.specs.Meaning.{name_at}
use Rattle.lexer.specs.Stands.{taken, past, left}
use Rattle.lexer.specs.declared.token.Token.TheVariants.{Identifier, Integer}
use Rattle.lexer.specs.declared.cursor.Cursor.{Cursor}
use Rattle.tree.specs.Layout.{word, literal, enc}
use Rattle.tree.specs.Nodes.{name_node}
use Rattle.parser.specs.Answer.{Node}
use Rattle.grammar.specs.Reader.{then, name_in, number_in, taking, want_name, want_number}
use Rattle.parser.specs.Parts.{only}
use Rattle.parser.specs.See.{Seen, Sees}
use Rattle.parser.specs.Meets.{Safe, Means, Reads}
use Rattle.parser.proofs.Tokens.{kind_in, known, no_identifier, no_integer}
use Rattle.parser.proofs.Seeing.{saw, no_look}
use Rattle.parser.proofs.Leaves.{looked_at, literal_of_lem, wrote_name, wrote_number, leaf_grew}
use Rattle.parser.proofs.Answers.{Refuses}

module _ (src : List ℕ) (k : Place) where
  no_name : (w : Word) → (kind_in w ≡ 30 → ⊥) → taking src (name_in w) k ≡ refuse token_missing
  unfolding taking name_in kind_in
  no_name (mark m) h = refl
  no_name (name n) h = absurd (h refl)
  no_name (number v) h = refl

  no_number : (w : Word) → (kind_in w ≡ 31 → ⊥) → taking src (number_in w) k ≡ refuse token_missing
  unfolding taking number_in kind_in
  no_number (mark m) h = refl
  no_number (name n) h = refl
  no_number (number v) h = absurd (h refl)

module _ {src : List ℕ} {c : Cursor} {v : Seen} (h : Sees src c v) where
  -- the look at it is refused
  pub name_stop : {m : ℕ} {n : Refusal} → v ≡ Err n → Refuses src (λ n. want_name src) m c (number_of n)
  unfolding want_name
  name_stop e n l k s = ap (then _) (no_look h e k s)

  pub number_stop : {m : ℕ} {n : Refusal} → v ≡ Err n → Refuses src (λ n. want_number src) m c (number_of n)
  unfolding want_number
  number_stop e n l k s = ap (then _) (no_look h e k s)

  module _ {d : Cursor} (at : v ≡ Ok d) where
    -- it is another token
    pub name_other : {m : ℕ} → ((a n : ℕ) → d.token ≡ Identifier a n → ⊥) → Refuses src (λ n. want_name src) m c token_missing
    unfolding want_name
    name_other o n l k s =
        let p = saw h at k s in
        ap (then _) p.1.looks ∙ no_name src k p.0 (λ e. no_identifier d.token o ((known src d.token p.0 p.1.means) ∙ e))

    pub number_other : {m : ℕ} → ((v : ℕ) → d.token ≡ Integer v → ⊥) → Refuses src (λ n. want_number src) m c token_missing
    unfolding want_number
    number_other o n l k s =
        let p = saw h at k s in
        ap (then _) p.1.looks ∙ no_number src k p.0 (λ e. no_integer d.token o ((known src d.token p.0 p.1.means) ∙ e))

    -- it is there, and its leaf was written
    module _ {t : Cursor} (took : t ≡ taken d) (fewer : suc (left t) ≡ left c) {xs ys : List ℕ} {u e : ℕ} (fits : u ≤ length xs) (ends : e ≡ u + 4) where
      pub name_there : (a n : ℕ) → d.token ≡ Identifier a n → a + n ≤ length src → front e ys ≡ front u xs ++ enc (word 0 a n)
          → Reads (λ n. only (name_node n)) src xs u ys (λ n. want_name src) 0 8 0 c (Node e t)
      unfolding Safe Means want_name name_in taking take
      name_there a n i inside lies = record {
        safe = leaf_grew ends fewer;
        means = λ x l k s.
            let p = (saw h at k s).1 in
            record {
              value = name_at src a n;
              at = past src k;
              is = ap (then _) (looked_at p (Identifier a n) (name (name_at src a n)) i refl);
              stands = rw took p.beyond;
              wrote = wrote_name src a n 0 inside fits ends lies;
            };
      }

      pub number_there : (v : ℕ) → d.token ≡ Integer v → front e ys ≡ front u xs ++ enc (literal 0 v)
          → Reads (λ v. only (literal 0 v)) src xs u ys (λ n. want_number src) 0 8 0 c (Node e t)
      unfolding Safe Means want_number number_in taking take
      number_there v i lies = record {
        safe = leaf_grew ends fewer;
        means = λ y l k s.
            let p = (saw h at k s).1 in
            record { value = v; at = past src k; is = ap (then _) (literal_of_lem p v i).1; stands = rw took p.beyond; wrote = wrote_number 0 v fits ends lies };
      }

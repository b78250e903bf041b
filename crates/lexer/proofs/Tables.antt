-- Laws of tables of spellings: a row is met or passed over, and only rows of the right length count.
use mathlib.Core.Path.{◌≡◌, refl, sym, ◌∙◌, ap}
use Prim.Native.Nat.{ℕ, ◌+◌, ◌≤◌, ◌<◌}
use Prim.Native.Char.{code}
use mathlib.Core.List.{List, [], ◌∷◌}
use mathlib.Core.Bool.{Bool, true, false}
use mathlib.Core.Option.{none}
use native.Mathlib.Numerals.{add-one}
use native.Mathlib.Omega.{arith}
use lib.Dec.{eqb}
use lib.ListN.{length, get_or, take, drop, drop_of_length-le}
use lib.Seq.{drop-cons}
use borrow.Author.Tests.{eqb-true, eqb-false, ne_eqb, eq-eqb}
use Rattle.numbers.specs.Bytes.{bytes, eq_list}
use Rattle.lexer.specs.Marks.{Mark, keywords, pairs, singles, spelt}
use Rattle.lexer.specs.Spelling.{token_of, named, sign_of}
use Rattle.lexer.specs.declared.token.Token.{Token}
use Rattle.lexer.specs.declared.token.Token.TheVariants.{LexicalError}
use Rattle.lexer.specs.declared.token.Lexed.{Lexed}

-- lists of other lengths differ
pub other_length : (a b : List ℕ) → (length a ≡ length b → ⊥) → eq_list a b ≡ false
other_length [] [] h = absurd (h refl)
other_length [] (y ∷ b) h = refl
other_length (x ∷ a) [] h = refl
other_length (x ∷ a) (y ∷ b) h = by (eqb x y) refl (other_length a b (λ e. h (rw e)))
  where
    by : (t : Bool) → eqb x y ≡ t → eq_list a b ≡ false → eq_list (x ∷ a) (y ∷ b) ≡ false
    by true e k = rw (e, eq_list) k
    by false e k = rw (e, eq_list)

-- a comparison that has come to i
module _ (a b : List ℕ) (i : ℕ) (m : length a ≡ length b) where
  pub same_more : i < length a → get_or a i 0 ≡ get_or b i 0 → eq_list (drop i a) (drop i b) ≡ eq_list (drop (i + 1) a) (drop (i + 1) b)
  same_more h e =
      let k : i < length b = omega arith in
      rw (add-one, drop-cons a i 0 h, drop-cons b i 0 k, eq-eqb _ _ e, eq_list)

  pub same_stop : i < length a → (get_or a i 0 ≡ get_or b i 0 → ⊥) → eq_list (drop i a) (drop i b) ≡ false
  same_stop h e =
      let k : i < length b = omega arith in
      rw (drop-cons a i 0 h, drop-cons b i 0 k, ne_eqb _ _ e, eq_list)

  pub same_past : length a ≤ i → true ≡ eq_list (drop i a) (drop i b)
  same_past h =
      let k : length b ≤ i = omega arith in
      rw (drop_of_length-le a h, drop_of_length-le b k)

pub spelt_none : (w : List ℕ) → spelt w [] ≡ none
unfolding spelt
spelt_none w = refl

pub spelt_miss : (w : List ℕ) (r : List ℕ × Mark) (rs : List (List ℕ × Mark)) → eq_list w r.0 ≡ false → spelt w (r ∷ rs) ≡ spelt w rs
unfolding spelt
spelt_miss w r rs e = rw (e, spelt)

module _ (w : List ℕ) (r : List ℕ × Mark) (rs : List (List ℕ × Mark)) (o : Token) where
  pub named_hit : eq_list w r.0 ≡ true → named w (r ∷ rs) o ≡ token_of r.1
  unfolding named spelt
  named_hit e = rw (e, named, spelt)

  pub named_miss : eq_list w r.0 ≡ false → named w (r ∷ rs) o ≡ named w rs o
  unfolding named spelt
  named_miss e = rw (e, named, spelt)

pub named_none : (w : List ℕ) (o : Token) → named w [] o ≡ o
unfolding named spelt
named_none w o = refl

-- a spelling of one byte, or of two
pub one_other : (b k : ℕ) → (b ≡ k → ⊥) → eq_list (b ∷ []) (k ∷ []) ≡ false
one_other b k h = rw (ne_eqb b k h, eq_list)

pub first_other : (b k d l : ℕ) → (b ≡ k → ⊥) → eq_list (b ∷ d ∷ []) (k ∷ l ∷ []) ≡ false
first_other b k d l h = rw (ne_eqb b k h, eq_list)

pub second_other : (b k d l : ℕ) → (d ≡ l → ⊥) → eq_list (b ∷ d ∷ []) (k ∷ l ∷ []) ≡ false
second_other b k d l h = by (eqb b k) refl
  where
    by : (x : Bool) → eqb b k ≡ x → eq_list (b ∷ d ∷ []) (k ∷ l ∷ []) ≡ false
    by true e = rw (e, eq_list) (one_other d l h)
    by false e = rw (e, eq_list)

-- no sign of two bytes is spelt so: by its first byte, by its second, or by both
no_pair : (b d : ℕ) → eq_list (b ∷ d ∷ []) (bytes "<=") ≡ false → eq_list (b ∷ d ∷ []) (bytes ">=") ≡ false → eq_list (b ∷ d ∷ []) (bytes "<>") ≡ false → eq_list (b ∷ d ∷ []) (bytes ":=") ≡ false
    → spelt (b ∷ d ∷ []) pairs ≡ none
unfolding pairs
no_pair b d h k l m = spelt_miss _ _ _ h ∙ spelt_miss _ _ _ k ∙ spelt_miss _ _ _ l ∙ spelt_miss _ _ _ m ∙ spelt_none _

pub no_first : (b d : ℕ) → (b ≡ code "<" → ⊥) → (b ≡ code ">" → ⊥) → (b ≡ code ":" → ⊥) → spelt (b ∷ d ∷ []) pairs ≡ none
unfolding bytes
no_first b d h k l = no_pair b d (first_other b (code "<") d (code "=") h) (first_other b (code ">") d (code "=") k) (first_other b (code "<") d (code ">") h) (first_other b (code ":") d (code "=") l)

pub no_second : (b d : ℕ) → (d ≡ code "=" → ⊥) → (d ≡ code ">" → ⊥) → spelt (b ∷ d ∷ []) pairs ≡ none
unfolding bytes
no_second b d h k = no_pair b d (second_other b (code "<") d (code "=") h) (second_other b (code ">") d (code "=") h) (second_other b (code "<") d (code ">") k) (second_other b (code ":") d (code "=") h)

pub no_both : (b d : ℕ) → (d ≡ code "=" → ⊥) → (b ≡ code "<" → ⊥) → spelt (b ∷ d ∷ []) pairs ≡ none
unfolding bytes
no_both b d h k = no_pair b d (second_other b (code "<") d (code "=") h) (second_other b (code ">") d (code "=") h) (first_other b (code "<") d (code ">") k) (second_other b (code ":") d (code "=") h)

-- where no sign of two bytes stands, the sign is of one
pub one_sign : (i b d : ℕ) (t : Token) → spelt (b ∷ d ∷ []) pairs ≡ none → t ≡ named (b ∷ []) singles LexicalError → ◌≡◌ {A = Lexed} (record { token = t; next = i + 1 }) (sign_of i b d)
unfolding sign_of
one_sign i b d t e h = rw (e, h, sign_of)

-- lists that are found to be the same are
equal_lists : (a b : List ℕ) → eq_list a b ≡ true → a ≡ b
equal_lists [] [] e = refl
equal_lists [] (y ∷ b) e = cc
equal_lists (x ∷ a) [] e = cc
equal_lists (x ∷ a) (y ∷ b) e = go (eqb x y) refl (equal_lists a b) e
  where
    go : (t : Bool) → eqb x y ≡ t → (eq_list a b ≡ true → a ≡ b) → elim t [ true ↦ eq_list a b | false ↦ false ] ≡ true → (x ∷ a) ≡ (y ∷ b)
    go true q f z = let h : x ≡ y = eqb-true x y q in let k : a ≡ b = f z in cc
    go false q f z = cc

-- a word that is compared with a keyword and is that
pub keyword_is : (w k : List ℕ) {r : Bool} → r ≡ eq_list w k → r ≡ true → (o : Token) {t : Token} → t ≡ named k keywords o → t ≡ named w keywords o
keyword_is w k is e o z = let i : w ≡ k = equal_lists w k (sym is ∙ e) in rw i z

-- a sign of two bytes is not of one
short : (b : ℕ) → spelt (b ∷ []) pairs ≡ none
unfolding pairs bytes
short b =
    spelt_miss _ _ _ (other_length (b ∷ []) (bytes "<=") (λ e. absurd (omega (arith, e))))
    ∙ spelt_miss _ _ _ (other_length (b ∷ []) (bytes ">=") (λ e. absurd (omega (arith, e))))
    ∙ spelt_miss _ _ _ (other_length (b ∷ []) (bytes "<>") (λ e. absurd (omega (arith, e))))
    ∙ spelt_miss _ _ _ (other_length (b ∷ []) (bytes ":=") (λ e. absurd (omega (arith, e))))
    ∙ spelt_none _

-- one byte alone is no sign of two, and neither is one with a 0 after it
pub two : (b : ℕ) (s : List ℕ) → spelt (take 2 (b ∷ s)) pairs ≡ spelt (b ∷ get_or s 0 0 ∷ []) pairs
unfolding pairs bytes
two b [] = short b ∙ sym (no_second b 0 (eqb-false 0 _ refl) (eqb-false 0 _ refl))
two b (d ∷ s) = refl

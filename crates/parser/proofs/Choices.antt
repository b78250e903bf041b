-- A choice by the next mark: what follows it goes into both branches, and a look that is refused refuses it.
use mathlib.Core.Path.{◌≡◌, refl, ap, ◌∙◌}
use mathlib.Core.Bool.{Bool, true, false}
use mathlib.Core.List.{List}
use Prim.Native.Nat.{ℕ}
use Rattle.lexer.specs.Marks.{Mark}
use Rattle.lexer.specs.Cursor.{Cursor as Place, Ans, got, refuse, Reader, look, take}
use Rattle.grammar.specs.Reader.{then, is_mark, if_next}
use Rattle.parser.proofs.Seeing.{choose}

-- one after the other, twice
pub then_then : {A B D : Type 0} (g : B → Reader D) (f : A → Reader B) (a : Ans A) → then g (then f a) ≡ then (λ x k. then g (f x k)) a
then_then g f (got x k) = refl
then_then g f (refuse n) = refl

-- what comes after may be put in other words
pub then_same : {A B : Type 0} (f g : A → Reader B) → ((x : A) (k : Place) → f x k ≡ g x k) → (a : Ans A) → then f a ≡ then g a
then_same f g h (got x k) = h x k
then_same f g h (refuse n) = refl

module _ (src : List ℕ) (m : Mark) where
  pub next_refused : {A : Type 0} (a b : Reader A) (k : Place) {n : ℕ} → look src k ≡ refuse n → if_next src m a b k ≡ refuse n
  unfolding if_next choose
  next_refused a b k e = ap (then (λ t. choose (is_mark m t) (λ c. then (λ u. a) (take src c)) b)) e

  pub next_then : {A B : Type 0} (g : A → Reader B) (a b : Reader A) (k : Place) → then g (if_next src m a b k) ≡ if_next src m (λ c. then g (a c)) (λ c. then g (b c)) k
  unfolding if_next choose take
  next_then {A} {B} g a b k =
      then_then g (λ t. choose (is_mark m t) (λ c. then (λ u. a) (take src c)) b) (look src k) ∙ then_same _ _ (λ t c. by (is_mark m t) c) (look src k)
    where
      by : (x : Bool) (c : Place) → then g (choose x (λ c. then (λ u. a) (take src c)) b c) ≡ choose x (λ c. then (λ u c. then g (a c)) (take src c)) (λ c. then g (b c)) c
      by true c = refl
      by false c = refl

  pub next_same : {A : Type 0} (a b a' b' : Reader A) → ((k : Place) → a k ≡ a' k) → ((k : Place) → b k ≡ b' k) → (k : Place) → if_next src m a b k ≡ if_next src m a' b' k
  unfolding if_next choose take
  next_same {A} a b a' b' p q k = then_same (λ t. choose (is_mark m t) (λ c. then (λ u. a) (take src c)) b) _ (λ t c. by (is_mark m t) c) (look src k)
    where
      by : (x : Bool) (c : Place) → choose x (λ c. then (λ u. a) (take src c)) b c ≡ choose x (λ c. then (λ u. a') (take src c)) b' c
      by true c = p _
      by false c = q c

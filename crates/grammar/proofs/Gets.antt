-- Laws of what holds of whatever a reader gets.
use Rattle.std.specs.Prelude.{◌≡◌, refl, Bool, true, false, ℕ, ltb}
use Rattle.numbers.specs.Limits.{max_open}
use Rattle.numbers.specs.Panel.{too_many_open}
use Rattle.grammar.specs.Reader.{Cursor, Ans, got, refuse, Reader, then, pure, fail, enter}
use Rattle.grammar.specs.Gets.{Gets, is_got, is_no}

pub bind : {A B : Type 0} {P : A → Type 0} {Q : B → Type 0} {a : Ans A} (k : A → Reader B) → Gets P a → ((x : A) → P x → (c : Cursor) → Gets Q (k x c)) → Gets Q (then k a)
bind k (is_got {a} {c} h) f = f a h c
bind k is_no f = is_no

-- whatever it is
pub on : {A B : Type 0} {Q : B → Type 0} (a : Ans A) (k : A → Reader B) → ((x : A) (c : Cursor) → Gets Q (k x c)) → Gets Q (then k a)
on (got a c) k f = f a c
on (refuse n) k f = is_no

pub test : {A : Type 0} {Q : A → Type 0} (x : Bool) (p q : Reader A) → ((c : Cursor) → Gets Q (p c)) → ((c : Cursor) → Gets Q (q c)) → (c : Cursor) → Gets Q ((elim x as (λ y. Reader A) [ true ↦ p | false ↦ q ]) c)
test true p q h k = h
test false p q h k = k

-- one more opens
pub entering : {B : Type 0} {Q : B → Type 0} (o : ℕ) (k : Unit {0} → Reader B) (c : Cursor) → (ltb o max_open ≡ true → Gets Q (k tt c)) → Gets Q (then k (enter o c))
unfolding enter
entering {B} {Q} o k c h = go (ltb o max_open) h
  where
    go : (x : Bool) → (x ≡ true → Gets Q (k tt c)) → Gets Q (then k ((elim x as (λ y. Reader (Unit {0})) [ true ↦ pure tt | false ↦ fail too_many_open ]) c))
    go true h = h refl
    go false h = is_no

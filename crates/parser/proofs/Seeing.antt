-- What looking at a token and requiring a mark come to.
use Rattle.std.specs.Prelude.{Ok, Err}
use mathlib.Core.Path.{◌≡◌, sym, ap, ◌∙◌}
use mathlib.Core.Bool.{Bool, true, false}
use mathlib.Core.List.{List}
use Prim.Native.Nat.{ℕ, ◌≤◌, ◌<◌}
use lib.Dec.{eqb, ltb}
use borrow.Author.Tests.{eq-eqb, ne_eqb, lt-ltb, le-ltb}
use Rattle.numbers.specs.declared.refusal.Refusal.{Refusal}
use Rattle.numbers.specs.declared.refusal.Refusal.TheVariants.{TokenMissing}
use Rattle.numbers.specs.Refusals.{number_of}
use Rattle.numbers.specs.Panel.{token_missing, too_many_open}
use Rattle.numbers.specs.Limits.{max_open}
use Rattle.lexer.specs.Kinds.{kind_of}
use Rattle.lexer.specs.Spelling.{token_of}
use Rattle.lexer.specs.Marks.{Mark, place_of}
use Rattle.lexer.specs.Tokens.{Token as Word}
use Rattle.lexer.specs.Cursor.{Cursor as Place, got, refuse, Reader, look, take}
use Rattle.lexer.specs.Meaning.{Sight, meaning}
use Rattle.lexer.specs.Stands.{Stands, Looks, taken, past, told, look_holds, holds_stands, holds_answer, take_stands, look_left, take_left}
use Rattle.lexer.specs.declared.token.Token.{Token}
use Rattle.lexer.specs.declared.cursor.Cursor.{Cursor}
use Rattle.grammar.specs.Reader.{then, fail, is_mark, enter, want, if_next}
use Rattle.parser.specs.See.{Seen, refusal_in, Saw, Looked, Sees, Took, Wanted, Wants}
use Rattle.parser.proofs.Tokens.{known, is_mark_lem, of_kind, kind_of_token, shown, refused_as}

module _ {src : List ℕ} {c d : Cursor} (l : Looks src c d) where
  -- a token that is refused
  pub see_refused : (t : Token) (w : Refusal) → d.token ≡ t → number_of w ≡ refusal_in (meaning src t) → ltb 0 (number_of w) ≡ true → Sees src c (Err w)
  unfolding Looked
  see_refused t w i q e = record {
    looked = λ k s.
        let m : number_of w ≡ refusal_in (meaning src d.token) = q ∙ ap (λ (x : Token). refusal_in (meaning src x)) (sym i) in
        holds_answer (look_holds l s) ∙ refused_as (meaning src d.token) k (ap (ltb 0) (sym m) ∙ e) ∙ ap refuse (sym m);
  }

  -- any other
  pub see_at : refusal_in (meaning src d.token) ≡ 0 → Sees src c (Ok d)
  unfolding Looked
  see_at none = record {
    looked = λ k s.
        let o = look_holds l s in
        let p = shown (meaning src d.token) none in
        let e : look src k ≡ got p.0 k = holds_answer o ∙ ap (λ (x : Sight). told x k) p.1 in (
          p.0,
          record {
            means = p.1;
            inside = o.inside;
            looks = e;
            stands = holds_stands o;
            beyond = take_stands p.0 o e;
            same = look_left p.0 l s e;
            fewer = take_left o ∙ look_left p.0 l s e;
          },
        );
  }

-- the token that was looked at is a mark, or is not
module _ {src : List ℕ} {c d : Cursor} {k : Place} {w : Word} (s : Saw src c d k w) (m : Mark) where
  numbers : is_mark m w ≡ eqb (kind_of d.token) (place_of m)
  numbers = is_mark_lem m w ∙ ap (λ (n : ℕ). eqb n (place_of m)) (sym (known src d.token w s.means))

  pub it_is : d.token ≡ token_of m → is_mark m w ≡ true
  it_is e = numbers ∙ eq-eqb _ _ (ap kind_of e ∙ kind_of_token m)

  pub it_is_not : (d.token ≡ token_of m → ⊥) → is_mark m w ≡ false
  it_is_not e = numbers ∙ ne_eqb _ _ (λ q. e (of_kind d.token m q))

-- the definitions of a required mark and of a choice by a mark, once the token is known
unfoldable pub choose : {A : Type 0} → Bool → Reader A → Reader A → Reader A
choose b p q = elim b [ true ↦ p | false ↦ q ]

module _ {src : List ℕ} {c d : Cursor} {k : Place} {w : Word} (s : Saw src c d k w) (m : Mark) where
  pub want_is : d.token ≡ token_of m → want src m k ≡ got tt (past src k)
  unfolding want choose take
  want_is e =
      ap (then (λ t. choose (is_mark m t) (take src) (fail token_missing))) s.looks
      ∙ ap (λ (x : Bool). choose x (take src) (fail token_missing) k) (it_is s m e)

  pub want_is_not : (d.token ≡ token_of m → ⊥) → want src m k ≡ refuse token_missing
  unfolding want choose
  want_is_not e =
      ap (then (λ t. choose (is_mark m t) (take src) (fail token_missing))) s.looks
      ∙ ap (λ (x : Bool). choose x (take src) (fail token_missing) k) (it_is_not s m e)

  pub next_is : {A : Type 0} (a b : Reader A) → d.token ≡ token_of m → if_next src m a b k ≡ a (past src k)
  unfolding if_next choose take
  next_is a b e =
      ap (then (λ t. choose (is_mark m t) (λ c. then (λ u. a) (take src c)) b)) s.looks
      ∙ ap (λ (x : Bool). choose x (λ c. then (λ u. a) (take src c)) b k) (it_is s m e)

  pub next_is_not : {A : Type 0} (a b : Reader A) → (d.token ≡ token_of m → ⊥) → if_next src m a b k ≡ b k
  unfolding if_next choose
  next_is_not a b e =
      ap (then (λ t. choose (is_mark m t) (λ c. then (λ u. a) (take src c)) b)) s.looks
      ∙ ap (λ (x : Bool). choose x (λ c. then (λ u. a) (take src c)) b k) (it_is_not s m e)

-- a construct opens, or is one too many
pub enters : (o : ℕ) (k : Place) → o < max_open → enter o k ≡ got tt k
unfolding enter choose
enters o k h = ap (λ (x : Bool). choose x (got tt) (fail too_many_open) k) (lt-ltb o max_open h)

pub enters_not : (o : ℕ) (k : Place) → max_open ≤ o → enter o k ≡ refuse too_many_open
unfolding enter choose
enters_not o k h = ap (λ (x : Bool). choose x (got tt) (fail too_many_open) k) (le-ltb o max_open h)

-- what a caller learns of a look
pub saw : {src : List ℕ} {c d : Cursor} {r : Seen} → Sees src c r → r ≡ Ok d → (k : Place) → Stands src c k → (w : Word) × Saw src c d k w
unfolding Looked
saw h e = rw e at h.looked

pub no_look : {src : List ℕ} {c : Cursor} {r : Seen} {n : Refusal} → Sees src c r → r ≡ Err n → (k : Place) → Stands src c k → look src k ≡ refuse (number_of n)
unfolding Looked
no_look h e = rw e at h.looked

-- and of a mark that was wanted
pub took : {src : List ℕ} {m : Mark} {c d : Cursor} {r : Seen} → Wants src m c r → r ≡ Ok d → (k : Place) → Stands src c k → Took src m c d k
unfolding Wanted
took h e = rw e at h.wanted

pub no_mark : {src : List ℕ} {m : Mark} {c : Cursor} {r : Seen} {n : Refusal} → Wants src m c r → r ≡ Err n → (k : Place) → Stands src c k → want src m k ≡ refuse (number_of n)
unfolding Wanted
no_mark h e = rw e at h.wanted

-- requiring a mark, by what is seen
module _ {src : List ℕ} {c : Cursor} {r : Seen} (h : Sees src c r) (m : Mark) where
  pub want_refused : {n : Refusal} → r ≡ Err n → Wants src m c (Err n)
  unfolding Wanted want
  want_refused e = record { wanted = λ k s. ap (then _) (no_look h e k s) }

  pub want_took : {d e : Cursor} → r ≡ Ok d → d.token ≡ token_of m → e ≡ taken d → Wants src m c (Ok e)
  unfolding Wanted
  want_took q i z = record {
    wanted = λ k s.
        let p = (saw h q k s).1 in
        record { wants = want_is p m i; stands = rw z p.beyond; fewer = rw z p.fewer };
  }

  pub want_other : {d : Cursor} → r ≡ Ok d → (d.token ≡ token_of m → ⊥) → Wants src m c (Err TokenMissing)
  unfolding Wanted want
  want_other q i = record { wanted = λ k s. let p = (saw h q k s).1 in want_is_not p m i }

-- Laws, exported: a name of the tree by its numbers, and a row's kind by its number.
use Rattle.std.specs.Prelude.{◌≡◌, refl, Bool, true, false, List, ℕ, eqb, length}
use Rattle.std.proofs.Common.{arith, eq-eqb, ne_eqb}
use Rattle.lexer.specs.Tokens.{Name}
use Rattle.tree.specs.Named.{NameIn}
use Rattle.symbols.specs.declared.Kind.{Kind as CodeKind}
use Rattle.symbols.specs.declared.Kind.TheVariants.{Constant, Variable, Procedure}
use Rattle.symbols.specs.Symbols.{const, var, procedure}
use Rattle.symbols.specs.Table.{part, kind_of, kind_for, kind_number, coded}

-- a name by its numbers
pub name_is : {s : List ℕ} {n : Name} (a l : ℕ) → a ≡ n.at → l ≡ length n.text → NameIn s n → part s a l ≡ n.text
unfolding part
name_is a l e f h = rw (e, f) h.is

-- a kind by its number
pub kind_const : (k : ℕ) → k ≡ 1 → kind_of k ≡ const
unfolding kind_of
kind_const k h = rw (eq-eqb k 1 h, kind_of)

pub kind_var : (k : ℕ) → k ≡ 2 → kind_of k ≡ var
unfolding kind_of
kind_var k h = rw (ne_eqb k 1 (λ e. omega (arith, e)), eq-eqb k 2 h, kind_of)

pub kind_proc : (k : ℕ) → (k ≡ 1 → ⊥) → (k ≡ 2 → ⊥) → kind_of k ≡ procedure
unfolding kind_of
kind_proc k g h = rw (ne_eqb k 1 g, ne_eqb k 2 h, kind_of)

-- the code's kind of a number stands for the number's
pub coded_for : (n : ℕ) → kind_for (coded n) ≡ kind_of n
unfolding kind_of
coded_for n = by (eqb n 1) (eqb n 2)
  where
    by : (a b : Bool) → kind_for (elim a [ true ↦ Constant | false ↦ elim b [ true ↦ Variable | false ↦ Procedure ] ]) ≡ elim a [ true ↦ const | false ↦ elim b [ true ↦ var | false ↦ procedure ] ]
    by true b = refl
    by false true = refl
    by false false = refl

-- a kind's number is of that kind
pub kind_numbered : (k : CodeKind) → kind_of (kind_number k) ≡ kind_for k
unfolding kind_of
kind_numbered Constant = refl
kind_numbered Variable = refl
kind_numbered Procedure = refl

-- What a reader's answer and the tree have to do with the definition's answer, by cases of the answer.
use Rattle.std.specs.Prelude.{◌≡◌, List, ℕ, ◌+◌, ◌*◌, ◌≤◌, length}
use Rattle.std.proofs.Math.Option.{Option, none, some}
use Rattle.numbers.specs.Limits.{max_source, tree_share, tree_places}
use Rattle.lexer.specs.Cursor.{Cursor as Place, Ans, got, refuse, Reader}
use Rattle.lexer.specs.Stands.{Stands, left}
use Rattle.lexer.specs.declared.cursor.Cursor.{Cursor}
use Rattle.tree.specs.Layout.{Nodes, no_more}
use Rattle.parser.specs.Answer.{Answer, Node, Nothing, Refused}
use Rattle.parser.specs.Written.{Wrote}

-- what a reader asks: a cursor that stands somewhere in a text that is not too long, and room for the tokens left and `slack` numbers more
pub record Room (src xs : List ℕ) (u slack : ℕ) (c : Cursor) : Type 0 where
  pub place : Place
  pub stands : Stands src c place
  pub short : length src ≤ max_source
  pub small : length xs ≤ tree_places
  pub room : u + tree_share * left c + slack ≤ length xs

-- nodes were written up to e for the tokens taken; `spare` numbers of their share were not used, or `debt` more were
pub record Grew (spare debt u : ℕ) (c : Cursor) (e : ℕ) (d : Cursor) : Type 0 where
  pub above : u ≤ e
  pub fewer : left d ≤ left c
  pub room : e + tree_share * left d + spare ≤ u + tree_share * left c + debt

unfoldable pub Safe : (spare debt u : ℕ) → Cursor → Answer → Type 0
Safe spare debt u c (Node e d) = Grew spare debt u c e d
Safe spare debt u c (Nothing d) = left d ≤ left c
Safe spare debt u c (Refused n) = Unit {0}

-- A definition's answer is a B; an A of it is what a node stands for, and `no` says which B is none.
module _ {A B : Type 0} (yes : A → B) (no : B → Type 0) (nodes : A → Nodes) (src xs : List ℕ) (u : ℕ) (ys : List ℕ) where
  -- the definition yields a value, whose nodes were written
  pub record Made (e : ℕ) (d : Cursor) (a : Ans B) : Type 0 where
    pub value : A
    pub at : Place
    pub is : a ≡ got (yes value) at
    pub stands : Stands src d at
    pub wrote : Wrote xs u ys e (nodes value)

  -- the definition yields nothing, and what was used stands as it was
  pub record Quiet (d : Cursor) (a : Ans B) : Type 0 where
    pub value : B
    pub empty : no value
    pub at : Place
    pub is : a ≡ got value at
    pub stands : Stands src d at
    pub wrote : Wrote xs u ys u no_more

  unfoldable pub Means : Answer → Ans B → Type 0
  Means (Node e d) a = Made e d a
  Means (Nothing d) a = Quiet d a
  Means (Refused n) a = a ≡ refuse n

  -- a reader that starts at u with the cursor c meets the definition f, given any fuel from m on
  pub record Meets (f : ℕ → Reader B) (m spare debt : ℕ) (c : Cursor) (r : Answer) : Type 0 where
    pub safe : Safe spare debt u c r
    pub means : (n : ℕ) → m ≤ n → (k : Place) → Stands src c k → Means r (f n k)

-- a reader whose definition always yields a value
abbrev pub Reads : {A : Type 0} → (A → Nodes) → (src xs : List ℕ) → ℕ → List ℕ → (ℕ → Reader A) → (m spare debt : ℕ) → Cursor → Answer → Type 0
Reads nodes src xs u ys f m spare debt c r = Meets (λ a. a) (λ v. ⊥) nodes src xs u ys f m spare debt c r

-- a reader whose definition may yield nothing
abbrev pub Tries : {A : Type 0} → (A → Nodes) → (src xs : List ℕ) → ℕ → List ℕ → (ℕ → Reader (Option A)) → (m spare debt : ℕ) → Cursor → Answer → Type 0
Tries nodes src xs u ys f m spare debt c r = Meets some (λ v. v ≡ none) nodes src xs u ys f m spare debt c r

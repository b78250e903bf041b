-- What the parts of the search and of `see` promise each other.
use Rattle.std.specs.Prelude.{◌≡◌, Bool, true, false, not, List, [], ◌∷◌, ℕ, ◌+◌, ◌*◌, ◌≤◌, ◌<◌, eqb, length, Option, Some, None}
use Rattle.numbers.specs.Limits.{max_rows, row_share}
use Rattle.numbers.specs.Bytes.{eq_list}
use Rattle.symbols.specs.declared.Symbol.{Symbol}
use Rattle.symbols.specs.Table.{offset, extent, hash, first, scope, sight, name_at, kind_number, hash_of, firsts, among, is_open, Kept}

-- row k can be read
pub record Legible (s xs : List ℕ) (k : ℕ) : Type 0 where
  pub room : row_share * k + row_share ≤ length xs
  pub lies : offset xs k + extent xs k ≤ length s
  pub hashed : hash xs k ≡ hash_of (name_at s xs k)
  pub older : scope xs k ≤ k

-- the newest of k rows that passes a test, whose answers are those of P
pub data Newest (P : ℕ → Bool → Type 0) (k : ℕ) : Option ℕ → Type 0 where
  found : {i : ℕ} → i < k → P i true → ((j : ℕ) → i < j → j < k → P j false) → Newest P k (Some i)
  nowhere : ((j : ℕ) → j < k → P j false) → Newest P k None

-- the first row of a name, where the next row is k: k itself if no row has it
pub data FirstOf (s xs : List ℕ) (k : ℕ) (w : List ℕ) (f : ℕ) : Type 0 where
  new : f ≡ k → ((i : ℕ) → i < k → eq_list (name_at s xs i) w ≡ false) → FirstOf s xs k w f
  known : (i : ℕ) → f ≡ first xs i → i < k → eq_list (name_at s xs i) w ≡ true → FirstOf s xs k w f

-- a row's twelve numbers
abbrev pub numbers_of : Symbol → ℕ → ℕ → List ℕ
numbers_of y h f = y.at ∷ y.len ∷ h ∷ f ∷ y.scope ∷ kind_number y.kind ∷ y.level ∷ y.address ∷ y.size ∷ y.low ∷ y.high ∷ 0 ∷ []

-- all numbers but sights are as they were
abbrev pub Plain : List ℕ → List ℕ → Type 0
Plain xs ys = (k : ℕ) → Kept 11 k xs ys

-- no sights
pub record Cleared (xs : List ℕ) (k : ℕ) (ys : List ℕ) : Type 0 where
  pub plain : Plain xs ys
  pub dark : (i : ℕ) → i < k → sight ys i ≡ 0

-- a sight after the marks: 1 where there is one
abbrev pub after_mark : Bool → ℕ → ℕ
after_mark true v = 1
after_mark false v = v

-- the first rows of the names in the scope list of p are marked
pub record Marked (xs : List ℕ) (p : ℕ) (ys : List ℕ) : Type 0 where
  pub plain : Plain xs ys
  pub marks : (i : ℕ) → sight ys i ≡ after_mark (among i (firsts max_rows xs p)) (sight xs i)

-- a first row that is marked
unfoldable pub marked : List ℕ → ℕ → Bool
marked xs i = not (eqb (sight xs i) 0)

-- all of these are marked
unfoldable pub all_marked : List ℕ → List ℕ → Bool
all_marked xs [] = true
all_marked xs (i ∷ is) = elim (marked xs i) [ true ↦ all_marked xs is | false ↦ false ]

-- there are only marks
abbrev pub Unopened : List ℕ → ℕ → Type 0
Unopened xs k = (i : ℕ) → i < k → eqb (sight xs i) 2 ≡ false

-- a scope is open where all names of its list are marked
pub record Opened (xs : List ℕ) (k : ℕ) (ys : List ℕ) : Type 0 where
  pub plain : Plain xs ys
  pub opens : (q : ℕ) → q ≤ k → is_open ys q ≡ all_marked xs (firsts max_rows xs q)

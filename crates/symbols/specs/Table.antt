-- Symbol rows as numbers in the lent table, twelve to a row, oldest first: what they mean, and when they are sound.
use Rattle.std.specs.Prelude.{◌≡◌, Bool, true, false, List, [], ◌∷◌, ◌++◌, ℕ, zero, suc, ◌+◌, ◌-◌, ◌*◌, ◌%◌, ◌≤◌, ◌<◌, eqb, length, take, drop, get_or, set, Option as Found, Some, None, Result, Ok, Err}
use Rattle.std.proofs.Math.Option.{Option, none, some}
use Rattle.numbers.specs.Limits.{max_rows, row_share, table_places}
use Rattle.numbers.specs.Bytes.{bytes, eq_list}
use Rattle.numbers.specs.declared.refusal.Refusal.{Refusal}
use Rattle.numbers.specs.Refusals.{number_of}
use Rattle.symbols.specs.declared.Kind.{Kind as CodeKind}
use Rattle.symbols.specs.declared.Kind.TheVariants.{Constant, Variable, Procedure}
use Rattle.symbols.specs.declared.Symbol.{Symbol}
use Rattle.symbols.specs.Symbols.{Kind, const, var, procedure, Scope, main_scope, Row, no_row, Rows, rows, refuse_rows}

-- a name of the text, by its offset and its length
unfoldable pub part : List ℕ → ℕ → ℕ → List ℕ
part s a n = take n (drop a s)

-- number f of row k
abbrev pub field : List ℕ → ℕ → ℕ → ℕ
field xs k f = get_or xs (row_share * k + f) 0

-- a row's name: its offset
abbrev pub offset : List ℕ → ℕ → ℕ
offset xs k = field xs k 0

-- its length
abbrev pub extent : List ℕ → ℕ → ℕ
extent xs k = field xs k 1

-- its hash
abbrev pub hash : List ℕ → ℕ → ℕ
hash xs k = field xs k 2

-- the first row of that name
abbrev pub first : List ℕ → ℕ → ℕ
first xs k = field xs k 3

-- the row's scope: 0 in the main program, else one more than the row of the enclosing procedure
abbrev pub scope : List ℕ → ℕ → ℕ
scope xs k = field xs k 4

-- its kind
abbrev pub kind : List ℕ → ℕ → ℕ
kind xs k = field xs k 5

-- what looking from a scope leaves: 1 for the first row of each name in the scope list, and 2 for each procedure whose scope is seen from there
abbrev pub sight : List ℕ → ℕ → ℕ
sight xs k = field xs k 11

-- a row's name as bytes
unfoldable pub name_at : List ℕ → List ℕ → ℕ → List ℕ
name_at s xs k = part s (offset xs k) (extent xs k)

-- the names of a chain of procedure rows, at most n of them
unfoldable pub chain : ℕ → List ℕ → List ℕ → ℕ → Scope
chain zero s xs p = main_scope
chain (suc n) s xs p = elim (eqb p 0) [ true ↦ main_scope | false ↦ name_at s xs (p - 1) ∷ chain n s xs (scope xs (p - 1)) ]

-- the scope list that a scope number stands for
unfoldable pub scope_at : List ℕ → List ℕ → ℕ → Scope
scope_at s xs p = chain max_rows s xs p

-- the Rust's numbers of the kinds: Const 1, Var 2, Proc 3
unfoldable pub kind_of : ℕ → Kind
kind_of n = elim (eqb n 1) [ true ↦ const | false ↦ elim (eqb n 2) [ true ↦ var | false ↦ procedure ] ]

-- the kind that the code's stands for
abbrev pub kind_for : CodeKind → Kind
kind_for Constant = const
kind_for Variable = var
kind_for Procedure = procedure

-- its number
abbrev pub kind_number : CodeKind → ℕ
kind_number Constant = 1
kind_number Variable = 2
kind_number Procedure = 3

-- the code's kind of a number
abbrev pub coded : ℕ → CodeKind
coded n = elim (eqb n 1) [ true ↦ Constant | false ↦ elim (eqb n 2) [ true ↦ Variable | false ↦ Procedure ] ]

-- a value by its halves
abbrev pub value_of : ℕ → ℕ → ℕ
value_of l h = l + 4294967296 * h

-- row k
unfoldable pub row_at : List ℕ → List ℕ → ℕ → Row
row_at s xs k = record {
  name = name_at s xs k;
  kind = kind_of (kind xs k);
  value = value_of (field xs k 9) (field xs k 10);
  level = field xs k 6;
  addr = field xs k 7;
  size = field xs k 8;
  scope = scope_at s xs (scope xs k);
}

-- the first k rows, oldest first
unfoldable pub rows_in : List ℕ → List ℕ → ℕ → List Row
rows_in s xs zero = []
rows_in s xs (suc k) = rows_in s xs k ++ (row_at s xs k ∷ [])

-- a name's hash, by which most names that differ are told apart
unfoldable pub hash_from : ℕ → List ℕ → ℕ
hash_from h [] = h
hash_from h (b ∷ bs) = hash_from ((h * 16777619 + b) % 4294967296) bs

abbrev pub hash_of : List ℕ → ℕ
hash_of w = hash_from 0 w

-- no name is `#`, with which every scope list ends
abbrev pub is_hash : List ℕ → Bool
is_hash w = eq_list w (bytes "#")

-- a name that lies in the text
pub record Named (s : List ℕ) (a n : ℕ) : Type 0 where
  pub lies : a + n ≤ length s
  pub plain : is_hash (part s a n) ≡ false

-- k rows whose numbers lead to older rows
pub record Linked (xs : List ℕ) (k : ℕ) : Type 0 where
  pub most : k ≤ max_rows
  pub room : table_places ≤ length xs
  pub older : (i : ℕ) → i < k → scope xs i ≤ i
  pub before : (i : ℕ) → i < k → first xs i ≤ i
  pub again : (i : ℕ) → i < k → first xs (first xs i) ≡ first xs i

-- k rows that are sound: names that lie in the text, hashes and first rows of names that are right, scopes that are procedures, and no two
-- procedures of one name in one scope
pub record Sound (s xs : List ℕ) (k : ℕ) : Type 0 where
  pub linked : Linked xs k
  pub named : (i : ℕ) → i < k → Named s (offset xs i) (extent xs i)
  pub hashed : (i : ℕ) → i < k → hash xs i ≡ hash_of (name_at s xs i)
  pub same : (i : ℕ) → i < k → name_at s xs (first xs i) ≡ name_at s xs i
  pub one : (i j : ℕ) → i < k → j < k → name_at s xs i ≡ name_at s xs j → first xs i ≡ first xs j
  pub owned : (i : ℕ) → i < k → (scope xs i ≡ 0 → ⊥) → kind_of (kind xs (scope xs i - 1)) ≡ procedure
  pub alone : (i j : ℕ) → i < k → j < k → kind_of (kind xs i) ≡ procedure → kind_of (kind xs j) ≡ procedure
      → scope xs i ≡ scope xs j → name_at s xs i ≡ name_at s xs j → i ≡ j

-- a scope: the main program's, or that of a procedure's row
pub record Scoped (xs : List ℕ) (k p : ℕ) : Type 0 where
  pub known : p ≤ k
  pub owner : (p ≡ 0 → ⊥) → kind_of (kind xs (p - 1)) ≡ procedure

-- the first n numbers of each of the first k rows are as they were
pub record Kept (n k : ℕ) (xs ys : List ℕ) : Type 0 where
  pub lasts : length ys ≡ length xs
  pub at : (i f : ℕ) → i < k → f < n → field ys i f ≡ field xs i f

-- the first rows of the names of a chain of procedure rows, at most n of them
unfoldable pub firsts : ℕ → List ℕ → ℕ → List ℕ
firsts zero xs p = []
firsts (suc n) xs p = elim (eqb p 0) [ true ↦ [] | false ↦ first xs (p - 1) ∷ firsts n xs (scope xs (p - 1)) ]

-- a number that occurs in a list
unfoldable pub among : ℕ → List ℕ → Bool
among k [] = false
among k (x ∷ xs) = elim (eqb k x) [ true ↦ true | false ↦ among k xs ]

-- numbers that all occur in a list
unfoldable pub all_among : List ℕ → List ℕ → Bool
all_among [] l = true
all_among (x ∷ xs) l = elim (among x l) [ true ↦ all_among xs l | false ↦ false ]

-- a scope that is seen: the main program's is, everywhere
unfoldable pub is_open : List ℕ → ℕ → Bool
is_open xs p = elim (eqb p 0) [ true ↦ true | false ↦ eqb (sight xs (p - 1)) 2 ]

-- the table shows what is seen from the scope p
pub record Seen (xs : List ℕ) (k p : ℕ) : Type 0 where
  pub known : p ≤ k
  pub shows : (q : ℕ) → q ≤ k → is_open xs q ≡ all_among (firsts max_rows xs q) (firsts max_rows xs p)

-- a row that was found, and where
pub record Hit (s xs : List ℕ) (k i : ℕ) (o : Option Row) : Type 0 where
  pub below : i < k
  pub is : o ≡ some (row_at s xs i)

-- what is found, as the definition has it
unfoldable pub Finds : List ℕ → List ℕ → ℕ → Found ℕ → Option Row → Type 0
Finds s xs k (Some i) o = Hit s xs k i o
Finds s xs k None o = o ≡ none

-- a row by what is declared, in the scope that its number stands for
unfoldable pub row_of : List ℕ → List ℕ → Symbol → Row
row_of s xs y = record {
  name = part s y.at y.len;
  kind = kind_for y.kind;
  value = value_of y.low y.high;
  level = y.level;
  addr = y.address;
  size = y.size;
  scope = scope_at s xs y.scope;
}

-- the table xs of k rows became ys: one row more
pub record Grown (o : Rows) (s xs : List ℕ) (k : ℕ) (y : Symbol) (ys : List ℕ) (m : ℕ) : Type 0 where
  pub one : m ≡ k + 1
  pub is : o ≡ rows (rows_in s ys m)
  pub sound : Sound s ys m
  pub kept : Kept row_share k xs ys
  pub new_kind : kind ys k ≡ kind_number y.kind
  pub new_scope : scope_at s ys m ≡ part s y.at y.len ∷ scope_at s xs y.scope

-- what a declaration gives, as the definition has it
unfoldable pub Adds : Rows → List ℕ → List ℕ → ℕ → Symbol → List ℕ → Result ℕ Refusal → Type 0
Adds o s xs k y ys (Ok m) = Grown o s xs k y ys m
Adds o s xs k y ys (Err e) = o ≡ refuse_rows (number_of e)

-- the row at i now has the value v
abbrev pub with_value : List Row → ℕ → ℕ → List Row
with_value rs i v = let r = get_or rs i no_row in
    set rs i (record { name = r.name; kind = r.kind; value = v; level = r.level; addr = r.addr; size = r.size; scope = r.scope })

-- the table xs of k rows became ys: its rows are rs, of which all numbers but the last 12 - n are as they were
pub record Became (n : ℕ) (s xs : List ℕ) (k : ℕ) (rs : List Row) (ys : List ℕ) : Type 0 where
  pub sound : Sound s ys k
  pub rows_are : rows_in s ys k ≡ rs
  pub kept : Kept n k xs ys

-- what may be declared: a name of the text, in a scope
pub record Declares (s xs : List ℕ) (k : ℕ) (y : Symbol) : Type 0 where
  pub sound : Sound s xs k
  pub named : Named s y.at y.len
  pub scoped : Scoped xs k y.scope

-- what row k says
abbrev pub symbol_at : List ℕ → ℕ → Symbol
symbol_at xs k = record {
  at = offset xs k;
  len = extent xs k;
  kind = coded (kind xs k);
  low = field xs k 9;
  high = field xs k 10;
  level = field xs k 6;
  address = field xs k 7;
  size = field xs k 8;
  scope = scope xs k;
}

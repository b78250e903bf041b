-- 01, "Names and code": symbol rows, how a name finds its row, and declarations.
use Rattle.std.specs.Prelude.{Bool, true, false, ◌&&◌, List, [], ◌∷◌, ◌++◌, ℕ, suc, ltb, length}
use Rattle.std.proofs.Math.Option.{Option, none, some}
use Rattle.numbers.specs.Panel.{name_taken, too_many_rows}
use Rattle.numbers.specs.Limits.{max_rows}
use Rattle.numbers.specs.Bytes.{bytes, eq_list}
use Rattle.lexer.specs.Tokens.{Name}
use Rattle.tree.specs.Tree.{Const}

-- the kinds of rows
pub data Kind : Type 0 where
  const var procedure : Kind

-- the names of the open procedures, innermost first, with `#` at the end
abbrev pub Scope : Type 0
Scope = List (List ℕ)

-- "Scope starts as `#`; each procedure adds its name"
abbrev pub main_scope : Scope
main_scope = bytes "#" ∷ []

-- "A row: name, kind, value, level, address, size, scope list"
pub record Row : Type 0 where
  pub name : List ℕ
  pub kind : Kind
  pub value : ℕ
  pub level : ℕ
  pub addr : ℕ
  pub size : ℕ
  pub scope : Scope

-- what stands for a row that is not there
abbrev pub no_row : Row
no_row = record { name = []; kind = procedure; value = 0; level = 0; addr = 0; size = 0; scope = [] }

-- a name that occurs in a scope list
unfoldable pub is_in : List ℕ → Scope → Bool
is_in w [] = false
is_in w (x ∷ xs) = elim (eq_list w x) [ true ↦ true | false ↦ is_in w xs ]

-- "all occur in the current scope list, as sets"
unfoldable pub all_in : Scope → Scope → Bool
all_in [] cur = true
all_in (x ∷ xs) cur = elim (is_in x cur) [ true ↦ all_in xs cur | false ↦ false ]

-- "Same-scope tests compare whole lists"
unfoldable pub same_scope : Scope → Scope → Bool
same_scope [] [] = true
same_scope [] (y ∷ ys) = false
same_scope (x ∷ xs) [] = false
same_scope (x ∷ xs) (y ∷ ys) = elim (eq_list x y) [ true ↦ same_scope xs ys | false ↦ false ]

-- of the rows from here on, or else the best so far: "the newest row of that name whose scope names all occur in the current scope list"
unfoldable pub find_in : List Row → List ℕ → Scope → Option Row → Option Row
find_in [] w cur best = best
find_in (r ∷ rs) w cur best = elim (eq_list r.name w && all_in r.scope cur) [ true ↦ find_in rs w cur (some r) | false ↦ find_in rs w cur best ]

-- how a name finds its row
unfoldable pub find : List Row → List ℕ → Scope → Option Row
find rs w cur = find_in rs w cur none

-- declared already in this very scope
unfoldable pub declared : List Row → List ℕ → Scope → Bool
declared [] w cur = false
declared (r ∷ rs) w cur = elim (eq_list r.name w && same_scope r.scope cur) [ true ↦ true | false ↦ declared rs w cur ]

-- what declarations give: rows, or a refusal
pub data Rows : Type 0 where
  rows : List Row → Rows
  refuse_rows : ℕ → Rows

-- on with the rows that were declared
abbrev pub and_rows : Rows → (List Row → Rows) → Rows
and_rows (rows rs) k = k rs
and_rows (refuse_rows n) k = refuse_rows n

-- one more row: "a 513th symbol row" is 14
unfoldable pub one_more : List Row → Row → Rows
one_more rs r = elim (ltb (length rs) max_rows) [ true ↦ rows (rs ++ (r ∷ [])) | false ↦ refuse_rows too_many_rows ]

-- a row whose name is not yet in this scope
unfoldable pub fresh : List Row → Row → Rows
fresh rs r = elim (declared rs r.name r.scope) [ true ↦ refuse_rows name_taken | false ↦ one_more rs r ]

-- a constant's row
abbrev pub const_row : Const → ℕ → ℕ → Scope → Row
const_row c l a sc = record { name = c.id.text; kind = const; value = c.value; level = l; addr = a; size = 0; scope = sc }

-- a variable's row, or an argument's
abbrev pub var_row : Name → ℕ → ℕ → Scope → Row
var_row n l a sc = record { name = n.text; kind = var; value = 0; level = l; addr = a; size = 0; scope = sc }

-- a procedure's row, whose entry is known only later
abbrev pub proc_row : Name → ℕ → ℕ → ℕ → Scope → Row
proc_row n args l a sc = record { name = n.text; kind = procedure; value = 0; level = l; addr = a; size = args; scope = sc }

-- at level l and from address a on, in the scope sc: constants
unfoldable pub const_rows : List Row → ℕ → ℕ → Scope → List Const → Rows
const_rows rs l a sc [] = rows rs
const_rows rs l a sc (c ∷ cs) = and_rows (fresh rs (const_row c l a sc)) λ rs'. const_rows rs' l a sc cs

-- variables, "one address each"
unfoldable pub var_rows : List Row → ℕ → ℕ → Scope → List Name → Rows
var_rows rs l a sc [] = rows rs
var_rows rs l a sc (n ∷ ns) = and_rows (fresh rs (var_row n l a sc)) λ rs'. var_rows rs' l (suc a) sc ns

-- "Procedure arguments get no same-scope test"
unfoldable pub arg_rows : List Row → ℕ → ℕ → Scope → List Name → Rows
arg_rows rs l a sc [] = rows rs
arg_rows rs l a sc (n ∷ ns) = and_rows (one_more rs (var_row n l a sc)) λ rs'. arg_rows rs' l (suc a) sc ns

-- the rows, or none on a refusal
abbrev pub rows_of : Rows → List Row
rows_of (rows rs) = rs
rows_of (refuse_rows n) = []

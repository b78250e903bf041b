-- The rows of a main block without procedures: each is a constant, or a variable of level 0 with an address from 3 on below 3 + v; and v is at most 512.
use Rattle.std.specs.Prelude.{◌≡◌, refl, Bool, true, false, ◌&&◌, List, [], ◌∷◌, ◌++◌, ℕ, suc, ◌+◌, ◌≤◌, length}
use Rattle.std.proofs.Common.{ap, ◌∙◌, arith, length-append}
use Rattle.std.proofs.Math.Option.{Option, none, some}
use Rattle.numbers.specs.Limits.{max_rows}
use Rattle.numbers.specs.Stack.{links}
use Rattle.numbers.specs.Bytes.{eq_list}
use Rattle.lexer.specs.Tokens.{Name}
use Rattle.tree.specs.Tree.{Const}
use Rattle.symbols.specs.Symbols.{rows, Row, find, find_in, all_in, const_rows, var_rows, main_scope}
use Rattle.walk.specs.Declaring.{and_rows_lem, fresh_row}
use Rattle.agreement.specs.Exprs.{SoundBy, SoundFound}

abbrev pub Sound : ℕ → Row → Type 0
Sound n r = SoundBy n r r.kind

abbrev pub Each : ℕ → List Row → Type 0
Each n [] = Unit {0}
Each n (r ∷ rs) = Sound n r × Each n rs

each_snoc : (n : ℕ) (rs : List Row) (r : Row) → Each n rs → Sound n r → Each n (rs ++ (r ∷ []))
each_snoc n [] r h s = (s, tt)
each_snoc n (x ∷ rs) r h s = (h.0, each_snoc n rs r h.1 s)

find_sound : (n : ℕ) (rs : List Row) (w : List ℕ) (sc : List (List ℕ)) (best : Option Row) → Each n rs → SoundFound n best → SoundFound n (find_in rs w sc best)
unfolding find_in
find_sound n [] w sc best h s = s
find_sound n (r ∷ rs) w sc best h s = go (eq_list r.name w && all_in r.scope sc) (find_sound n rs w sc (some r) h.1 h.0) (find_sound n rs w sc best h.1 s)
  where
    go : (x : Bool) → SoundFound n (find_in rs w sc (some r)) → SoundFound n (find_in rs w sc best) → SoundFound n (elim x as (λ y. Option Row) [ true ↦ find_in rs w sc (some r) | false ↦ find_in rs w sc best ])
    go true a b = a
    go false a b = b

-- whatever name is looked for
pub sound_rows : (n : ℕ) (rs : List Row) → Each n rs → (w : List ℕ) → SoundFound n (find rs w main_scope)
unfolding find
sound_rows n rs h w = find_sound n rs w main_scope none h tt

pub const_rows_lem : (n : ℕ) (cs : List Const) (rs out : List Row) → const_rows rs 0 links main_scope cs ≡ rows out → Each n rs → length rs ≤ max_rows → Each n out × (length out ≤ max_rows)
unfolding const_rows
const_rows_lem n [] rs out e h l = let t : rs ≡ out = cc in (rw t at h, rw t at l)
const_rows_lem n (c ∷ cs) rs out e h l =
    let (r, f, g) = and_rows_lem _ _ e in
    let (a, m) = fresh_row rs _ r f in
    let k : length r ≤ max_rows = omega (arith, ap length a ∙ length-append rs _) in
    const_rows_lem n cs r out g (rw a (each_snoc n rs _ h tt)) k

pub var_rows_lem : (n : ℕ) (ns : List Name) (a : ℕ) (rs out : List Row) → var_rows rs 0 a main_scope ns ≡ rows out → links ≤ a → a + length ns ≤ n → Each n rs → length rs ≤ max_rows → Each n out × (length rs + length ns ≤ max_rows)
unfolding var_rows
var_rows_lem n [] a rs out e low high h l = let t : rs ≡ out = cc in (rw t at h, omega arith)
var_rows_lem n (x ∷ ns) a rs out e low high h l =
    let (r, f, g) = and_rows_lem _ _ e in
    let (q, m) = fresh_row rs _ r f in
    let s : length r ≡ suc (length rs) = omega (arith, ap length q ∙ length-append rs _) in
    let (i, j) = var_rows_lem n ns (suc a) r out g (omega arith) (omega arith) (rw q (each_snoc n rs _ h (refl, low, omega arith))) (omega arith) in
    (i, omega arith)

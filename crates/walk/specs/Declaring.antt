-- Laws of the rows that constants and variables become.
use Rattle.std.specs.Prelude.{◌≡◌, refl, Bool, true, false, List, [], ◌∷◌, ◌++◌, ℕ, zero, suc, ◌+◌, ◌≤◌, ◌<◌, ltb, length}
use Rattle.std.proofs.Common.{ap, ◌∙◌, arith, length-append, ltb-true, ltb-false}
use Rattle.numbers.specs.Panel.{name_taken, too_many_rows}
use Rattle.numbers.specs.Limits.{max_rows, greatest}
use Rattle.lexer.specs.Tokens.{Name}
use Rattle.tree.specs.Tree.{Const}
use Rattle.tree.specs.Named.{Each, NamedConst}
use Rattle.symbols.specs.Symbols.{Scope, Row, Rows, rows, refuse_rows, and_rows, declared, one_more, fresh, const_rows, var_rows}
use Rattle.symbols.specs.Table.{field, value_of, row_at, rows_in}

pub and_rows_lem : (x : Rows) {out : List Row} (k : List Row → Rows) → and_rows x k ≡ rows out → (rs : List Row) × (x ≡ rows rs) × (k rs ≡ rows out)
and_rows_lem (rows rs) k e = (rs, refl, e)
and_rows_lem (refuse_rows n) k e = absurd (let z : ◌≡◌ {A = ℕ} 0 1 = cc in omega arith)

pub fresh_row : (rs : List Row) (r : Row) (out : List Row) → fresh rs r ≡ rows out → (out ≡ rs ++ (r ∷ [])) × (length rs < max_rows)
unfolding fresh one_more
fresh_row rs r out e = go (declared rs r.name r.scope) (ltb (length rs) max_rows) refl e
  where
    go : (x y : Bool) → ltb (length rs) max_rows ≡ y → elim x as (λ z. Rows) [ true ↦ refuse_rows name_taken | false ↦ elim y as (λ z. Rows) [ true ↦ rows (rs ++ (r ∷ [])) | false ↦ refuse_rows too_many_rows ] ] ≡ rows out → (out ≡ rs ++ (r ∷ [])) × (length rs < max_rows)
    go true y l e = absurd (let z : ◌≡◌ {A = ℕ} 0 1 = cc in omega arith)
    go false true l e = ((cc), ltb-true _ _ l)
    go false false l e = absurd (let z : ◌≡◌ {A = ℕ} 0 1 = cc in omega arith)

-- a row whose value is within i64
abbrev pub Small : Row → Type 0
Small r = r.value ≤ greatest

each_snoc : (rs : List Row) (r : Row) → Each Small rs → Small r → Each Small (rs ++ (r ∷ []))
unfolding Each
each_snoc [] r h s = (s, tt)
each_snoc (x ∷ rs) r h s = (h.0, each_snoc rs r h.1 s)

each_last : (rs : List Row) (r : Row) → Each Small (rs ++ (r ∷ [])) → Each Small rs × Small r
unfolding Each
each_last [] r h = (tt, h.0)
each_last (x ∷ rs) r h = let (a, b) = each_last rs r h.1 in ((h.0, a), b)

pub consts_small : (s : List ℕ) (l a : ℕ) (sc : Scope) (cs : List Const) (rs out : List Row) → const_rows rs l a sc cs ≡ rows out → Each (NamedConst s) cs → Each Small rs → Each Small out
unfolding const_rows Each
consts_small s l a sc [] rs out e n h = let t : rs ≡ out = cc in rw t at h
consts_small s l a sc (c ∷ cs) rs out e n h =
    let (r, f, g) = and_rows_lem _ _ e in
    let (q, m) = fresh_row rs _ r f in
    consts_small s l a sc cs r out g n.1 (rw q (each_snoc rs _ h n.0.1))

pub vars_small : (l a : ℕ) (sc : Scope) (ns : List Name) (rs out : List Row) → var_rows rs l a sc ns ≡ rows out → Each Small rs → Each Small out × (length out ≡ length rs + length ns)
unfolding var_rows
vars_small l a sc [] rs out e h = let t : rs ≡ out = cc in (rw t at h, omega (arith, ap length t))
vars_small l a sc (n ∷ ns) rs out e h =
    let (r, f, g) = and_rows_lem _ _ e in
    let (q, m) = fresh_row rs _ r f in
    let (i, j) = vars_small l (suc a) sc ns r out g (rw q (each_snoc rs _ h (omega arith))) in
    (i, omega (arith, j, ap length q ∙ length-append rs _))

-- by the table's numbers
pub small_rows : (s xs : List ℕ) (k : ℕ) → Each Small (rows_in s xs k) → (i : ℕ) → i < k → value_of (field xs i 9) (field xs i 10) ≤ greatest
unfolding rows_in row_at
small_rows s xs zero h i l = absurd (omega (arith, l))
small_rows s xs (suc k) h i l = of (ltb i k) refl (λ m. small_rows s xs k (each_last (rows_in s xs k) (row_at s xs k) h).0 i m)
  where
    of : (b : Bool) → ltb i k ≡ b → (i < k → value_of (field xs i 9) (field xs i 10) ≤ greatest) → value_of (field xs i 9) (field xs i 10) ≤ greatest
    of true e f = f (ltb-true i k e)
    of false e f = let q : i ≡ k = omega (arith, ltb-false i k e, l) in rw q (each_last (rows_in s xs k) (row_at s xs k) h).1

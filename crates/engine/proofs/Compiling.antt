-- What compile leaves, from what its parts leave.
use mathlib.Core.Path.{◌≡◌, refl, sym, ap, ◌∙◌}
use mathlib.Core.Bool.{Bool, true, false, ◌&&◌}
use mathlib.Core.List.{List, ◌++◌}
use Prim.Native.Nat.{ℕ, ◌<◌, ◌≤◌}
use native.Mathlib.Omega.{arith}
use lib.Dec.{leb}
use lib.IntN.{ℤ}
use lib.ListN.{length, take, drop, replicate, length-replicate, take-append-drop}
use borrow.Author.Tests.{leb-true, lt-leb, le-leb}
use Rattle.std.specs.Prelude.{Result, Err}
use Rattle.numbers.specs.declared.refusal.Refusal.{Refusal}
use Rattle.numbers.specs.declared.refusal.Refusal.TheVariants.{RoomTooSmall}
use Rattle.numbers.specs.Limits.{max_code, tree_places, table_places, draft_places}
use Rattle.numbers.specs.Lent.{onto, filled}
use Rattle.pcode.specs.Code.{nil, Code, code_for}
use Rattle.translator.specs.declared.Translated.{Translated}
use Rattle.outcomes.specs.Compile.{Compiled, code_of, compile}
use Rattle.outcomes.specs.Outcomes.{CompileOutcome, Work, code_holds, work_holds, compile_leaves, compile_outcome}
use Rattle.engine.specs.declared.entries.Compiled.{Compiled as Answer}
use Rattle.engine.specs.Entries.{answer_of, compiled_of, Taken}

-- as many zeros as a room has places
pub zeroed : (n : ℕ) {m : ℕ} {xs : List ℕ} → m ≡ n → xs ≡ replicate m 0 → xs ≡ replicate n 0
zeroed n e p = rw e at p

-- working room of n places at the end: zeros, and beyond them what was lent
pub wiped : (n : ℕ) (lent : List ℕ) {xs : List ℕ} → xs ≡ replicate n 0 → xs ++ drop n lent ≡ onto lent (replicate n 0)
wiped n lent p = rw (p, length-replicate {A = ℕ} n 0)

-- a front and what lies behind it
pub whole : (n : ℕ) {xs ys : List ℕ} → ys ≡ take n xs → ys ++ drop n xs ≡ xs
whole n {xs} e = rw e (take-append-drop n xs)

-- all that compile leaves, where there is room
pub leaves : (x : Compiled) (code : Code) (work : Work) (t : Result Translated Refusal) {r : Answer} {ks : List ℤ} {ls : List ℕ} {os : List ℤ} {tr table draft d₁ : List ℕ} → Taken x d₁ t → r ≡ answer_of t
    → ks ≡ onto code.kinds (code_for (filled max_code nil (code_of x))).kinds → ls ≡ onto code.levels (code_for (filled max_code nil (code_of x))).levels → os ≡ onto code.operands (code_for (filled max_code nil (code_of x))).operands
    → tr ≡ onto work.tree (replicate tree_places 0) → table ≡ onto work.table (replicate table_places 0) → draft ≡ onto work.draft (replicate draft_places 0) → compiled_of r ks ls os tr table draft ≡ compile_leaves x code work
unfolding compile_leaves
leaves x code work t h e k l o pt pr pd =
    let pn = ap (λ (a : Answer). a.number) e ∙ h.number in
    let pm = ap (λ (a : Answer). a.length) e ∙ h.length_is in
    λ i. record { number = pn i; length = pm i; code = record { kinds = k i; levels = l i; operands = o i }; work = record { tree = pt i; table = pr i; draft = pd i } }

-- where all rooms are large enough, and where one is not
pub roomy : (src : List ℕ) (code : Code) (work : Work) {o : CompileOutcome} → code_holds code ≡ true → work_holds work ≡ true → o ≡ compile_leaves (compile src) code work → o ≡ compile_outcome src code work
unfolding compile_outcome
roomy src code work h k e = let both : code_holds code && work_holds work ≡ true = ap (λ (b : Bool). b && work_holds work) h ∙ k in rw (both, compile_outcome) e

pub cramped : (src : List ℕ) (code : Code) (work : Work) {r : Answer} {tr table draft : List ℕ} → code_holds code && work_holds work ≡ false → r ≡ answer_of (Err RoomTooSmall) → tr ≡ work.tree → table ≡ work.table → draft ≡ work.draft
    → compiled_of r code.kinds code.levels code.operands tr table draft ≡ compile_outcome src code work
unfolding compile_outcome
cramped src code work h e pt pr pd = rw (e, pt, pr, pd, h, compile_outcome)

-- three tests of rooms, one after the other: the first fails, the second fails, or the third decides
first_short : (m n : ℕ) (y z : Bool) → n < m → false ≡ ((leb m n && y) && z)
first_short m n y z h = sym (ap (λ (b : Bool). (b && y) && z) (lt-leb m n h))

second_short : (m n k l : ℕ) (z : Bool) → m ≤ n → l < k → false ≡ ((leb m n && leb k l) && z)
second_short m n k l z h g = sym (ap (λ (b : Bool). (b && leb k l) && z) (le-leb m n h) ∙ ap (λ (b : Bool). b && z) (lt-leb k l g))

third_tells : (m n k l : ℕ) (z : Bool) → m ≤ n → k ≤ l → z ≡ ((leb m n && leb k l) && z)
third_tells m n k l z h g = sym (ap (λ (b : Bool). (b && leb k l) && z) (le-leb m n h) ∙ ap (λ (b : Bool). b && z) (le-leb k l g))

-- a room that is too small
pub code_short : (code : Code) (work : Work) → code_holds code ≡ false → code_holds code && work_holds work ≡ false
code_short code work h = ap (λ (b : Bool). b && work_holds work) h

pub work_short : (code : Code) (work : Work) → code_holds code ≡ true → work_holds work ≡ false → code_holds code && work_holds work ≡ false
work_short code work h k = ap (λ (b : Bool). b && work_holds work) h ∙ k

pub tree_short : (work : Work) → length work.tree < tree_places → work_holds work ≡ false
tree_short work h = sym (first_short tree_places (length work.tree) _ _ h)

pub table_short : (work : Work) → tree_places ≤ length work.tree → length work.table < table_places → work_holds work ≡ false
table_short work h k = sym (second_short tree_places (length work.tree) table_places (length work.table) _ h k)

pub draft_short : (work : Work) → tree_places ≤ length work.tree → table_places ≤ length work.table → length work.draft < draft_places → work_holds work ≡ false
draft_short work h k l = sym (third_tells tree_places (length work.tree) table_places (length work.table) _ h k) ∙ lt-leb draft_places (length work.draft) l

pub all_held : (work : Work) → tree_places ≤ length work.tree → table_places ≤ length work.table → draft_places ≤ length work.draft → work_holds work ≡ true
all_held work h k l = sym (third_tells tree_places (length work.tree) table_places (length work.table) _ h k) ∙ le-leb draft_places (length work.draft) l

-- a room for the tree that is too small
pub tree_refused : (src : List ℕ) (ks : List ℤ) (ls : List ℕ) (os : List ℤ) (tree table draft : List ℕ) (r : Answer) → (leb max_code (length ks) && leb max_code (length ls) && leb max_code (length os)) ≡ true → length tree < tree_places → r ≡ answer_of (Err RoomTooSmall)
    → compiled_of r ks ls os tree table draft ≡ compile_outcome src (record { kinds = ks; levels = ls; operands = os }) (record { tree = tree; table = table; draft = draft })
tree_refused src ks ls os tree table draft r h k e =
    let code : Code = record { kinds = ks; levels = ls; operands = os } in
    let work : Work = record { tree = tree; table = table; draft = draft } in
    cramped src code work (work_short code work h (tree_short work k)) e refl refl refl

-- where all three hold, there is room for each
pub all_long : (m n k l p q : ℕ) → (leb m n && leb k l) && leb p q ≡ true → (m ≤ n) × ((k ≤ l) × (p ≤ q))
all_long m n k l p q h = go (leb m n) (leb k l) (leb p q) (leb-true m n) (leb-true k l) (leb-true p q) h
  where
    go : (x y z : Bool) → (x ≡ true → m ≤ n) → (y ≡ true → k ≤ l) → (z ≡ true → p ≤ q) → (x && y) && z ≡ true → (m ≤ n) × ((k ≤ l) × (p ≤ q))
    go true true true f g j e = (f refl, (g refl, j refl))
    go true true false f g j e = absurd (let z : ◌≡◌ {A = ℕ} 0 1 = cc in omega arith)
    go true false z f g j e = absurd (let z : ◌≡◌ {A = ℕ} 0 1 = cc in omega arith)
    go false y z f g j e = absurd (let z : ◌≡◌ {A = ℕ} 0 1 = cc in omega arith)

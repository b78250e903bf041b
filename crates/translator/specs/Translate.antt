-- 01, "Names and code": what procedures and the main block become.
use Rattle.std.specs.Prelude.{true, false, List, [], ◌∷◌, ◌++◌, ℕ, zero, suc, ◌+◌, ◌-◌, pos, ltb, length, get_or, set}
use Rattle.numbers.specs.Panel.{too_many_instructions}
use Rattle.numbers.specs.Limits.{max_code}
use Rattle.numbers.specs.Stack.{links}
use Rattle.tree.specs.Tree.{Stmts, Procs, no_procs, proc, Block}
use Rattle.pcode.specs.Operators.{return}
use Rattle.pcode.specs.Code.{STA, INT, JMP, Instr, ins}
use Rattle.symbols.specs.Symbols.{Scope, main_scope, Row, no_row, Rows, rows, refuse_rows, fresh, proc_row, const_rows, var_rows, arg_rows}
use Rattle.emission.specs.Pieces.{Out, made, refuse, Piece, ◌⨾◌, nothing, emit, emit_oper}
use Rattle.emission.specs.Statements.{Env, stmts_code}

-- "for i = 1..n arguments STA i, 3+n-i": the last k of them, from i on
unfoldable pub stas : ℕ → ℕ → ℕ → Piece
stas n i zero = nothing
stas n i (suc k) = emit STA i (pos (links + n - i)) ⨾ stas n (suc i) k

-- "INT address. Body; OPR 0 0"
abbrev pub body_code : Env → ℕ → Stmts → Piece
body_code ρ a s = emit INT 0 (pos a) ⨾ stmts_code ρ s ⨾ emit_oper return

-- the code so far, the rows, and the next free address of the enclosing block; or a refusal
pub data Done : Type 0 where
  finished : List Instr → List Row → ℕ → Done
  failed : ℕ → Done

-- on with the rows
abbrev pub with_rows : Rows → (List Row → Done) → Done
with_rows (rows rs) k = k rs
with_rows (refuse_rows n) k = failed n

-- on with what the procedures gave
abbrev pub with_done : Done → (List Instr → List Row → ℕ → Done) → Done
with_done (finished c rs a) k = k c rs a
with_done (failed n) k = failed n

-- on with a piece's code
abbrev pub with_code : Out → (List Instr → Done) → Done
with_code (made c) k = k c
with_code (refuse n) k = failed n

-- the row at i now has the entry v
abbrev pub entry_at : List Row → ℕ → ℕ → List Row
entry_at rs i v = let r = get_or rs i no_row in
    set rs i (record { name = r.name; kind = r.kind; value = v; level = r.level; addr = r.addr; size = r.size; scope = r.scope })

-- procedures at level l in the scope sc, from address a of the enclosing block on, with the rows rs so far; p is the place of the first one's JMP.
-- "A procedure's entry is its first STA, or INT if none, known only from here on, so a nested procedure calling an enclosing one emits CAL with 0"
unfoldable pub procs_code : Procs → ℕ → Scope → ℕ → List Row → ℕ → Done
procs_code no_procs l sc a rs p = finished [] rs a
procs_code (proc n ar cs vs inner b later) l sc a rs p =
    let sc' = n.text ∷ sc in
    let l' = suc l in
    let a' = links + length ar in
    with_rows (fresh rs (proc_row n (length ar) l a sc)) λ r1.
    with_rows (arg_rows r1 l' links sc' ar) λ r2.
    elim (ltb p max_code) [
      | false ↦ failed too_many_instructions
      | true ↦ (
          with_rows (const_rows r2 l' a' sc' cs) λ r3.
          with_rows (var_rows r3 l' a' sc' vs) λ r4.
          with_done (procs_code inner l' sc' (a' + length vs) r4 (p + 1)) λ c1 r5 a1.
          let entry = p + 1 + length c1 in
          let r6 = entry_at r5 (length rs) entry in
          with_code ((stas (length ar) 1 (length ar) ⨾ body_code (record { rows = r6; level = l'; scope = sc' }) a1 b) entry) λ c2.
          let c = ins JMP 0 (pos (entry + length ar)) ∷ c1 ++ c2 in
          with_done (procs_code later l sc (suc a) r6 (p + length c)) λ c3 r7 a3. finished (c ++ c3) r7 a3)
    ]

-- the main block: "emit JMP; constants; variables; procedures; .. point JMP here; INT address. Body; OPR 0 0"
unfoldable pub block_code : Block → Done
block_code b =
    with_rows (const_rows [] 0 links main_scope b.consts) λ r1.
    with_rows (var_rows r1 0 links main_scope b.vars) λ r2.
    with_done (procs_code b.procs 0 main_scope (links + length b.vars) r2 1) λ c1 r3 a.
    let entry = 1 + length c1 in
    with_code (body_code (record { rows = r3; level = 0; scope = main_scope }) a b.main entry) λ c2.
    finished (ins JMP 0 (pos entry) ∷ c1 ++ c2) r3 a

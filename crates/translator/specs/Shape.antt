-- What code the translator makes: which instructions, with which levels, and jumps and calls to within the list. The theorem
-- that it does is `block_shape` of proofs/Shape.
use Rattle.std.specs.Prelude.{pos, length}
use mathlib.Core.List.{List, [], ◌∷◌}
use Prim.Native.Nat.{ℕ, ◌+◌, ◌≤◌, ◌<◌}
use Rattle.numbers.specs.Limits.{max_code, max_rows, greatest}
use Rattle.numbers.specs.Stack.{links}
use Rattle.pcode.specs.Operators.{Oper}
use Rattle.pcode.specs.Code.{LIT, LOD, STO, STA, CAL, INT, JMP, JPC, Instr, ins, opr}

-- no address is past this: each takes a row
abbrev pub furthest : ℕ
furthest = links + max_rows

-- an instruction of a list of n places, with the levels of variables and procedures up to l: of kinds 0 to 8 alone
pub data Within (n l : ℕ) : Instr → Type 0 where
  literal : {a : ℕ} → a ≤ greatest → Within n l (ins LIT 0 (pos a))
  operator : (o : Oper) → Within n l (opr o)
  load : {k a : ℕ} → k ≤ l → a ≤ furthest → Within n l (ins LOD k (pos a))
  store : {k a : ℕ} → k ≤ l → a ≤ furthest → Within n l (ins STO k (pos a))
  argument : {i a : ℕ} → i ≤ max_rows → a ≤ furthest → Within n l (ins STA i (pos a))
  calls : {k : ℕ} (t : ℕ) → k ≤ l → t < n → Within n l (ins CAL k (pos t))
  raise : {a : ℕ} → a ≤ furthest → Within n l (ins INT 0 (pos a))
  jump : (t : ℕ) → t < n → Within n l (ins JMP 0 (pos t))
  test : (t : ℕ) → t < n → Within n l (ins JPC 0 (pos t))

-- each of a list
pub data Each {A : Type 0} (P : A → Type 0) : List A → Type 0 where
  each_none : Each P []
  each_more : {x : A} {xs : List A} → P x → Each P xs → Each P (x ∷ xs)

-- what is promised of the code of a program
pub record Shape (l : ℕ) (c : List Instr) : Type 0 where
  pub least : 3 ≤ length c
  pub most : length c ≤ max_code
  pub each : Each (λ i. Within (length c) l i) c

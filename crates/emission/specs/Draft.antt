-- The draft: four numbers for each instruction, and what an answer and the draft have to do with a piece of code.
use Rattle.std.specs.Prelude.{◌≡◌, List, [], ◌∷◌, ◌++◌, ℕ, ◌+◌, ◌*◌, ◌/◌, ◌%◌, ◌≤◌, length, take, Result, Ok, Err}
use Rattle.std.specs.Int.{w64}
use Rattle.std.proofs.Common.{of_z}
use Rattle.numbers.specs.Limits.{max_code, draft_share}
use Rattle.numbers.specs.declared.refusal.Refusal.{Refusal}
use Rattle.numbers.specs.Refusals.{number_of}
use Rattle.tree.specs.Layout.{half}
use Rattle.pcode.specs.Code.{Op, NIL, LIT, OPR, LOD, STO, STA, CAL, INT, JMP, JPC, RED, WRT, Instr}
use Rattle.emission.specs.Pieces.{Out, made, refuse}

-- a kind's number in the draft: that of `PcodeType`; no NIL is drafted
abbrev pub op_no : Op → ℕ
op_no LIT = 0
op_no OPR = 1
op_no LOD = 2
op_no STO = 3
op_no STA = 4
op_no CAL = 5
op_no INT = 6
op_no JMP = 7
op_no JPC = 8
op_no RED = 9
op_no WRT = 10
op_no NIL = 11

-- a value by its halves
abbrev pub whole : ℕ → ℕ → ℕ
whole low high = low + half * high

-- the numbers of instructions: kind, level, and the halves of the operand's 64 bits
unfoldable pub drafted : List Instr → List ℕ
drafted [] = []
drafted (i ∷ c) = op_no i.op ∷ i.level ∷ of_z w64 i.operand % half ∷ of_z w64 i.operand / half ∷ drafted c

-- the draft was xs up to place n and is ys up to place m: the code of a piece was written from n on
pub record Wrote (o : Out) (n : ℕ) (xs ys : List ℕ) (m : ℕ) : Type 0 where
  pub code : List Instr
  pub is : o ≡ made code
  pub ends : m ≡ n + length code
  pub lies : take (draft_share * m) ys ≡ take (draft_share * n) xs ++ drafted code
  pub most : m ≤ max_code

-- an answer and what was drafted are those of a piece from n on
pub data Emits (o : Out) (n : ℕ) (xs ys : List ℕ) : Result ℕ Refusal → Type 0 where
  wrote : {m : ℕ} → Wrote o n xs ys m → Emits o n xs ys (Ok m)
  refused : {e : Refusal} → o ≡ refuse (number_of e) → Emits o n xs ys (Err e)

-- The loop that hands a draft out: one law for kinds, levels and operands.
use mathlib.Core.Path.{◌≡◌, sym, ap, ◌∙◌}
use mathlib.Core.List.{List, map}
use Prim.Native.Nat.{ℕ, ◌+◌, ◌*◌, ◌<◌, ◌≤◌}
use native.Mathlib.Omega.{arith}
use lib.IntN.{pos}
use lib.ListN.{length, get_or, set, length-map, get_or-map}
use mir.Syntax.{w8, w64}
use mir.Val.{of_z, to_z}
use mir.ValLaws.{to_z_pos}
use Rattle.numbers.specs.Limits.{greatest}
use Rattle.numbers.specs.Lent.{onto}
use Rattle.tree.specs.Layout.{half}
use Rattle.pcode.specs.Code.{Op, NIL, LIT, OPR, LOD, STO, STA, CAL, INT, JMP, JPC, RED, WRT, Instr, nil, kind_no}
use Rattle.emission.specs.Draft.{op_no}
use Rattle.engine.specs.Handing.{Drafts, four_at}
use Rattle.numbers.proofs.Putting.{Put, put_length, put_more, put_all}

-- k of n drafted instructions are handed out, by what a place carries of each
pub record Handed {A : Type 0} (f : Instr → A) (draft : List ℕ) (n : ℕ) (lent xs : List A) (k : ℕ) : Type 0 where
  pub most : k ≤ n
  pub same : length xs ≡ length lent
  pub put : (c : List Instr) → Drafts draft n c → Put (map f c) lent k xs

module _ {A : Type 0} (f : Instr → A) where
  -- one more
  pub hand_more : {draft : List ℕ} {n : ℕ} {lent xs : List A} {k : ℕ} (z : A) → Handed f draft n lent xs k → k < n → ((c : List Instr) × Drafts draft n c) → ((c : List Instr) → Drafts draft n c → f (get_or c k nil) ≡ z)
      → Handed f draft n lent (set xs k z) (k + 1)
  hand_more {draft} {n} {lent} {xs} {k} z h l (c₀, d₀) e =
      let next : (c : List Instr) → Drafts draft n c → Put (map f c) lent (k + 1) (set xs k z) = λ c d. put_more z (f nil) (h.put c d) (omega (arith, length-map c f, d.length_is)) (get_or-map f c k nil ∙ e c d) in
      record { most = omega arith; same = put_length (next c₀ d₀); put = next }

  -- all of them
  pub hand_all : {draft : List ℕ} {n : ℕ} {lent xs : List A} {k : ℕ} → Handed f draft n lent xs k → n ≤ k → (c : List Instr) → Drafts draft n c → xs ≡ onto lent (map f c)
  hand_all h l c d = put_all (h.put c d) (omega (arith, length-map c f, d.length_is))

-- a kind's number in the draft
op_small : (o : Op) → op_no o ≤ 11
op_small NIL = omega arith
op_small LIT = omega arith
op_small OPR = omega arith
op_small LOD = omega arith
op_small STO = omega arith
op_small STA = omega arith
op_small CAL = omega arith
op_small INT = omega arith
op_small JMP = omega arith
op_small JPC = omega arith
op_small RED = omega arith
op_small WRT = omega arith

-- what the loop reads of the instruction k
module _ {draft : List ℕ} {n : ℕ} {c : List Instr} (k : ℕ) (d : Drafts draft n c) (l : k < n) where
  pub in_draft : 4 * k + 4 ≤ length draft
  in_draft = (four_at k d l).fits

  pub kind_small : get_or draft (4 * k) 0 ≤ 11
  kind_small = omega (arith, (four_at k d l).kind, op_small (get_or c k nil).op)

  pub kind_is : kind_no (get_or c k nil).op ≡ pos (get_or draft (4 * k) 0)
  kind_is = (d.placed k l).kind ∙ ap pos (sym (four_at k d l).kind)

  pub level_small : get_or draft (4 * k + 1) 0 < 65536
  level_small = omega (arith, (four_at k d l).level, (d.placed k l).level)

  pub level_is : (get_or c k nil).level ≡ get_or draft (4 * k + 1) 0
  level_is = sym (four_at k d l).level

  halves : get_or draft (4 * k + 2) 0 + half * get_or draft (4 * k + 3) 0 ≡ (d.placed k l).operand
  halves =
      let f = four_at k d l in
      let p = d.placed k l in
      let e : of_z w64 (get_or c k nil).operand ≡ p.operand = ap (of_z w64) p.is in
      omega (arith, f.low, f.high, e)

  pub operand_small : get_or draft (4 * k + 2) 0 + half * get_or draft (4 * k + 3) 0 ≤ greatest
  operand_small = omega (arith, halves, (d.placed k l).within)

  pub operand_is : (get_or c k nil).operand ≡ pos (get_or draft (4 * k + 2) 0 + half * get_or draft (4 * k + 3) 0)
  operand_is = (d.placed k l).is ∙ ap pos (sym halves)

  -- as it is read back
  pub kind_read : kind_no (get_or c k nil).op ≡ to_z w8 (get_or draft (4 * k) 0)
  kind_read = kind_is ∙ sym (to_z_pos w8 (get_or draft (4 * k) 0) (omega (arith, kind_small)))

  pub operand_read : (get_or c k nil).operand ≡ to_z w64 (get_or draft (4 * k + 2) 0 + half * get_or draft (4 * k + 3) 0)
  operand_read = operand_is ∙ sym (to_z_pos w64 (get_or draft (4 * k + 2) 0 + half * get_or draft (4 * k + 3) 0) (omega (arith, operand_small)))

-- Instructions that are handed out of the draft to the code places: what they must be, and what stands in the draft.
use Rattle.std.specs.Prelude.{◌≡◌, refl, List, [], ◌∷◌, map, ℕ, zero, suc, ◌+◌, ◌*◌, ◌/◌, ◌%◌, ◌≤◌, ◌<◌, ℤ, pos, length, get_or, take}
use Rattle.std.proofs.Common.{sym, ap, ◌∙◌, arith, length-take, get_or-take, of_z}
use Rattle.std.specs.Int.{w64}
use Rattle.numbers.specs.Limits.{greatest, draft_share, max_open, max_code}
use Rattle.tree.specs.Layout.{half}
use Rattle.pcode.specs.Operators.{oper_no}
use Rattle.pcode.specs.Code.{Instr, nil, kind_no}
use Rattle.machine.specs.Steps.{oper_few}
use Rattle.translator.specs.Shape.{Within, literal, operator, load, store, argument, calls, raise, jump, test, Each, each_none, each_more, Shape}
use Rattle.emission.specs.Draft.{op_no, drafted}

-- an instruction that a code place can carry: no NIL, a level below 65,536, an operand within i64 that is not negative
pub record Placed (i : Instr) : Type 0 where
  pub kind : kind_no i.op ≡ pos (op_no i.op)
  pub level : i.level < 65536
  pub operand : ℕ
  pub is : i.operand ≡ pos operand
  pub within : operand ≤ greatest

-- what a code place carries of each
abbrev pub kinds_of : List Instr → List ℤ
kinds_of c = map (λ i. kind_no i.op) c

abbrev pub levels_of : List Instr → List ℕ
levels_of c = map (λ i. i.level) c

abbrev pub operands_of : List Instr → List ℤ
operands_of c = map (λ i. i.operand) c

-- n instructions stand at the front of a draft
pub record Drafts (xs : List ℕ) (n : ℕ) (c : List Instr) : Type 0 where
  pub length_is : length c ≡ n
  pub stands : take (draft_share * n) xs ≡ drafted c
  pub placed : (k : ℕ) → k < n → Placed (get_or c k nil)

-- the four numbers of an instruction
pub record Four (xs : List ℕ) (k : ℕ) (i : Instr) : Type 0 where
  pub kind : get_or xs (4 * k) 0 ≡ op_no i.op
  pub level : get_or xs (4 * k + 1) 0 ≡ i.level
  pub low : get_or xs (4 * k + 2) 0 ≡ of_z w64 i.operand % half
  pub high : get_or xs (4 * k + 3) 0 ≡ of_z w64 i.operand / half
  pub fits : 4 * k + 4 ≤ length xs

four_in : (c : List Instr) (k : ℕ) → k < length c → Four (drafted c) k (get_or c k nil)
unfolding drafted
four_in [] k h = absurd (omega arith)
four_in (i ∷ c) zero h = record { kind = refl; level = refl; low = refl; high = refl; fits = omega arith }
four_in (i ∷ c) (suc k) h =
    let f = four_in c k (omega arith) in
    record {
      kind = on (4 * suc k) (4 * k) (omega arith) ∙ f.kind;
      level = on (4 * suc k + 1) (4 * k + 1) (omega arith) ∙ f.level;
      low = on (4 * suc k + 2) (4 * k + 2) (omega arith) ∙ f.low;
      high = on (4 * suc k + 3) (4 * k + 3) (omega arith) ∙ f.high;
      fits = omega (arith, f.fits);
    }
  where
    on : (m n : ℕ) → m ≡ suc (suc (suc (suc n))) → get_or (drafted (i ∷ c)) m 0 ≡ get_or (drafted c) n 0
    on m n e = ap (λ (x : ℕ). get_or (drafted (i ∷ c)) x 0) e

-- what stands in the draft at the place of the instruction k
pub four_at : {xs : List ℕ} {n : ℕ} {c : List Instr} (k : ℕ) → Drafts xs n c → k < n → Four xs k (get_or c k nil)
four_at {xs} {n} {c} k d h =
    let f = four_in c k (omega (arith, d.length_is)) in
    let m : length (take (4 * n) xs) ≡ length (drafted c) = ap length d.stands in
    record {
      kind = here (4 * k) (omega arith) ∙ f.kind;
      level = here (4 * k + 1) (omega arith) ∙ f.level;
      low = here (4 * k + 2) (omega arith) ∙ f.low;
      high = here (4 * k + 3) (omega arith) ∙ f.high;
      fits = omega (arith, length-take (4 * n) xs, f.fits);
    }
  where
    here : (i : ℕ) → i < 4 * n → get_or xs i 0 ≡ get_or (drafted c) i 0
    here i l = sym (get_or-take (4 * n) xs i 0 l) ∙ ap (λ (l : List ℕ). get_or l i 0) d.stands

-- each instruction of an accepted program can be carried
placed : {n : ℕ} {i : Instr} → n ≤ max_code → Within n max_open i → Placed i
unfolding kind_no
placed h (literal {a} v) = record { kind = refl; level = omega arith; operand = a; is = refl; within = v }
placed h (operator o) = record { kind = refl; level = omega arith; operand = oper_no o; is = refl; within = omega (arith, oper_few o) }
placed h (load {k} {a} l f) = record { kind = refl; level = omega arith; operand = a; is = refl; within = omega arith }
placed h (store {k} {a} l f) = record { kind = refl; level = omega arith; operand = a; is = refl; within = omega arith }
placed h (argument {i} {a} l f) = record { kind = refl; level = omega arith; operand = a; is = refl; within = omega arith }
placed h (calls t l j) = record { kind = refl; level = omega arith; operand = t; is = refl; within = omega arith }
placed h (raise {a} f) = record { kind = refl; level = omega arith; operand = a; is = refl; within = omega arith }
placed h (jump t j) = record { kind = refl; level = omega arith; operand = t; is = refl; within = omega arith }
placed h (test t j) = record { kind = refl; level = omega arith; operand = t; is = refl; within = omega arith }

each_placed : {n : ℕ} → n ≤ max_code → {c : List Instr} → Each (λ i. Within n max_open i) c → (k : ℕ) → k < length c → Placed (get_or c k nil)
each_placed h each_none k l = absurd (omega arith)
each_placed h (each_more w e) zero l = placed h w
each_placed h (each_more w e) (suc k) l = each_placed h e k (omega arith)

-- code of that shape at the front of a draft
pub shape_drafts : {xs : List ℕ} {c : List Instr} → Shape max_open c → take (draft_share * length c) xs ≡ drafted c → Drafts xs (length c) c
shape_drafts s e = record { length_is = refl; stands = e; placed = each_placed s.most s.each }

-- no code
pub no_drafts : (xs : List ℕ) → Drafts xs 0 []
unfolding drafted
no_drafts xs = record { length_is = refl; stands = refl; placed = λ k l. absurd (omega arith) }

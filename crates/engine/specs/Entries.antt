-- What the entries' parts promise, and what their answers say as the outcomes of the definitions.
use Rattle.std.specs.Prelude.{◌≡◌, refl, Result, Ok, Err, List, ℕ, ◌*◌, ◌≤◌, ℤ, length, take}
use Rattle.std.proofs.Common.{sym, ap, ◌∙◌, subst, arith}
use Rattle.numbers.specs.declared.refusal.Refusal.{Refusal}
use Rattle.numbers.specs.Refusals.{number_of as panel_number}
use Rattle.numbers.specs.Panel.{done}
use Rattle.numbers.specs.Limits.{max_code, draft_share}
use Rattle.tree.specs.Tree.{Block}
use Rattle.grammar.specs.Grammar.{tree}
use Rattle.grammar.specs.Source.{reading}
use Rattle.translator.specs.declared.Translated.{Translated}
use Rattle.translator.specs.Blocks.{BlockAt, Whole}
use Rattle.emission.specs.Draft.{drafted}
use Rattle.engine.specs.declared.entries.Compiled.{Compiled as Answer}
use Rattle.outcomes.specs.Compile.{Compiled, accepted, not_accepted, number_of, code_of, compile}
use Rattle.outcomes.specs.Outcomes.{CompileOutcome}
use Rattle.outcomes.specs.Accepted.{accepts}
use Rattle.outcomes.proofs.Accepted.{accepted_shape}
use Rattle.engine.specs.Handing.{Drafts, shape_drafts, no_drafts}

-- a text was read and translated: its tree stands in the working room, with its k symbol rows and its n instructions
pub record Ready (src tr table draft : List ℕ) (n k : ℕ) : Type 0 where
  pub block : Block
  pub read : reading src ≡ tree block
  pub stands : BlockAt src tr block
  pub whole : Whole block src table draft n k

-- or it was refused
pub data Drafting (src tr table draft : List ℕ) : Result Translated Refusal → Type 0 where
  ready : {t : Translated} → Ready src tr table draft t.code t.rows → Drafting src tr table draft (Ok t)
  refusal : {e : Refusal} → compile src ≡ not_accepted (panel_number e) → Drafting src tr table draft (Err e)

-- the number of an answer
abbrev pub number_in : Result Translated Refusal → ℕ
number_in (Ok t) = done
number_in (Err e) = panel_number e

-- the length of its code, 0 if refused
abbrev pub length_in : Result Translated Refusal → ℕ
length_in (Ok t) = t.code
length_in (Err e) = 0

-- both
abbrev pub answer_of : Result Translated Refusal → Answer
answer_of t = record { number = number_in t; length = length_in t }

-- what compile answers and leaves
abbrev pub compiled_of : Answer → List ℤ → List ℕ → List ℤ → List ℕ → List ℕ → List ℕ → CompileOutcome
compiled_of r kinds levels operands tr table draft =
    record { number = r.number; length = r.length; code = record { kinds = kinds; levels = levels; operands = operands }; work = record { tree = tr; table = table; draft = draft } }

-- an answer's number and length are those of what a text gives, and its instructions stand in the draft
pub record Taken (x : Compiled) (draft : List ℕ) (t : Result Translated Refusal) : Type 0 where
  pub number : number_in t ≡ number_of x
  pub length_is : length_in t ≡ length (code_of x)
  pub few : length_in t ≤ max_code
  pub stands : Drafts draft (length_in t) (code_of x)

pub taken : {src tr table draft : List ℕ} {t : Result Translated Refusal} → Drafting src tr table draft t → Taken (compile src) draft t
taken {src} {tr} {table} {draft} (ready {t} r) =
    let w = r.whole in
    let c = w.code in
    let e : compile src ≡ accepted c = accepts src r.block c _ _ r.read w.is in
    let l : take (draft_share * length c) draft ≡ drafted c = ap (λ (m : ℕ). take (draft_share * m) draft) (sym w.ends) ∙ w.lies in
    let d : Drafts draft t.code c = subst (λ (m : ℕ). Drafts draft m c) (sym w.ends) (shape_drafts (accepted_shape src c e) l) in
    subst (λ x. Taken x draft (Ok t)) (sym e) (record { number = refl; length_is = w.ends; few = w.most; stands = d })
taken {src} {tr} {table} {draft} (refusal {e} p) = subst (λ x. Taken x draft (Err e)) (sym p) (record { number = refl; length_is = refl; few = omega arith; stands = no_drafts draft })

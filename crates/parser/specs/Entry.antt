-- What `parse` promises: by 01's order 24, 1 and 2, and then what the parser's definition answers, with the tree's
-- numbers from the first place on and zero behind them.
use Rattle.std.specs.Prelude.{◌≡◌, refl, Result, Ok, Err, Bool, true, false, List, [], ◌++◌, ℕ, ◌-◌, ◌≤◌, ◌<◌, ltb, length, take, drop, replicate}
use Rattle.std.specs.Result.{result_unwrap_or}
use Rattle.std.proofs.Common.{sym, ap, ◌∙◌, append_assoc, ltb-true, ltb-false}
use Rattle.std.proofs.Math.Seq.{take-append_seam}
use Rattle.numbers.specs.Limits.{tree_places}
use Rattle.numbers.specs.Lent.{onto, filled}
use Rattle.numbers.specs.declared.refusal.Refusal.{Refusal}
use Rattle.numbers.specs.declared.refusal.Refusal.TheVariants.{RoomTooSmall}
use Rattle.numbers.specs.Refusals.{number_of, refusal_is}
use Rattle.tree.specs.Tree.{Block}
use Rattle.tree.specs.Layout.{size, enc}
use Rattle.tree.specs.Reading.{length_enc}
use Rattle.tree.specs.Nodes.{block_node}
use Rattle.grammar.specs.Grammar.{Parsed as Outcome, tree, refused}
use Rattle.grammar.specs.Source.{reading}

-- where the tree ends, or the refusal
abbrev pub Parsed : Type 0
Parsed = Result ℕ Refusal

-- the result is the answer to what was read: the tree's size, or a refusal of that number
abbrev pub Answered : Parsed → Outcome → Type 0
Answered (Ok end) (tree b) = end ≡ size (block_node b)
Answered (Ok end) (refused n) = ⊥
Answered (Err w) (tree b) = ⊥
Answered (Err w) (refused n) = number_of w ≡ n

-- the numbers of the tree, none if it was refused
abbrev pub numbers_of : Outcome → List ℕ
numbers_of (tree b) = enc (block_node b)
numbers_of (refused n) = []

-- where the tree ends; a refusal has none
abbrev pub end_of : Parsed → ℕ
end_of r = result_unwrap_or r 0

-- what was read stands in ys up to its end, and places past the room are as they were
pub record Reads (src xs ys : List ℕ) (r : Parsed) : Type 0 where
  pub answer : Answered r (reading src)
  pub stands : take (end_of r) ys ≡ numbers_of (reading src)
  pub within : end_of r ≤ tree_places
  pub beyond : drop tree_places ys ≡ drop tree_places xs

-- with too little room nothing changes; otherwise the room that is asked for holds the tree's numbers, and zero behind
-- them
pub record Parses (src xs ys : List ℕ) (r : Parsed) : Type 0 where
  pub small : length xs < tree_places → (r ≡ Err RoomTooSmall) × (ys ≡ xs)
  pub large : tree_places ≤ length xs → Answered r (reading src) × (ys ≡ onto xs (filled tree_places 0 (numbers_of (reading src))))
  pub beyond : drop tree_places ys ≡ drop tree_places xs

-- one outcome has one answer
answered_once : (r t : Parsed) (o : Outcome) → Answered r o → Answered t o → r ≡ t
answered_once (Ok end) (Ok end') (tree b) e f = ap Ok (e ∙ sym f)
answered_once (Err w) (Err w') (refused n) e f = ap Err (refusal_is w w' (e ∙ sym f))
answered_once (Ok end) (Err w) (tree b) e f = absurd f
answered_once (Err w) (Ok end) (tree b) e f = absurd e
answered_once (Err w) (Err w') (tree b) e f = absurd e
answered_once (Ok end) (Ok end') (refused n) e f = absurd e
answered_once (Ok end) (Err w) (refused n) e f = absurd e
answered_once (Err w) (Ok end) (refused n) e f = absurd f

-- two outcomes of `parse` coincide, whole room included
pub parse_once : (src xs ys zs : List ℕ) (r t : Parsed) → Parses src xs ys r → Parses src xs zs t → (r ≡ t) × (ys ≡ zs)
parse_once src xs ys zs r t p q = by (ltb (length xs) tree_places) refl
  where
    by : (x : Bool) → ltb (length xs) tree_places ≡ x → (r ≡ t) × (ys ≡ zs)
    by true e =
        let a = p.small (ltb-true _ _ e) in
        let b = q.small (ltb-true _ _ e) in
        (a.0 ∙ sym b.0, a.1 ∙ sym b.1)
    by false e =
        let a = p.large (ltb-false _ _ e) in
        let b = q.large (ltb-false _ _ e) in
        (answered_once r t (reading src) a.0 b.0, a.1 ∙ sym b.1)

-- for whoever reads the tree: a tree was read, and its numbers stand up to its end; or the text was refused
unfoldable pub Answers : List ℕ → List ℕ → Parsed → Type 0
Answers src ys (Ok end) = (b : Block) × ((reading src ≡ tree b) × (take end ys ≡ enc (block_node b)))
Answers src ys (Err w) = reading src ≡ refused (number_of w)

pub answers : {src xs ys : List ℕ} {r : Parsed} → tree_places ≤ length xs → Parses src xs ys r → Answers src ys r
unfolding Answers
answers {src} {xs} {ys} {r} h p = go (reading src) refl r (p.large h).0 (p.large h).1
  where
    go : (o : Outcome) → reading src ≡ o → (r : Parsed) → Answered r o → ys ≡ onto xs (filled tree_places 0 (numbers_of o)) → Answers src ys r
    go (tree b) f (Ok end) e q =
        let n : end ≡ length (enc (block_node b)) = e ∙ sym (length_enc (block_node b)) in
        let z : List ℕ = replicate (tree_places - length (enc (block_node b))) 0 in
        let y : List ℕ = drop (length (filled tree_places 0 (enc (block_node b)))) xs in
        (b, (f, ap (take end) (q ∙ append_assoc (enc (block_node b)) z y) ∙ ap (λ (k : ℕ). take k (enc (block_node b) ++ (z ++ y))) n ∙ take-append_seam (enc (block_node b)) (z ++ y)))
    go (refused w) f (Err x) e q = f ∙ ap refused (sym e)
    go (tree b) f (Err x) e q = absurd e
    go (refused w) f (Ok end) e q = absurd e

-- The proof of `after`: a leaf takes four numbers, any other node as many more as its fourth number says.
use native.Mathlib.Omega.{arith}
use borrow.Author.Tests.{ltb-true, ltb-false}
use mathlib.Core.Path.{sym, ◌∙◌, ap}
use Prim.Native.Nat.{ℕ, ◌+◌, ◌≤◌, ◌<◌}
use lib.ListN.{get_or}
use Rattle.tree.specs.Reading.{node_fits, size_least, leaf_next, branch_next}
use Rattle.tree.proofs.after.Goals as goal

pub returns-then-is_leaf : goal.returns-then-is_leaf
returns-then-is_leaf c =
    let h : get_or c.args.tree.now c.args.i 0 < 3 = omega (arith, c.kind_at.ensures, ltb-true _ _ (sym c.is_leaf.ensures ∙ c.if-is_leaf.true)) in
    λ t s. leaf_next _ _ t s h

pub number_at-requires : goal.number_at-requires
number_at-requires c = omega (arith, node_fits _ _ _ c.requires.1, size_least c.requires.0, c.well_formed)

pub returns : goal.returns
returns c =
    let h : 3 ≤ get_or c.args.tree.now c.args.i 0 = omega (arith, c.kind_at.ensures, ltb-false _ _ (sym c.is_leaf.ensures ∙ c.if-is_leaf.false)) in
    λ t s. ap (λ (n : ℕ). c.args.i + 4 + n) c.number_at.ensures ∙ branch_next _ _ t s h

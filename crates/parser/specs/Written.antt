-- What a reader writes: nodes at the end of the part of the tree that is used.
use Rattle.std.specs.Prelude.{◌≡◌, List, ◌++◌, ℕ, ◌+◌, ◌≤◌, length, take}
use Rattle.tree.specs.Layout.{NodeKind, Nodes, no_more, member, branch, node_no, count, sizes, encs}

-- from u on, where xs was used up to u, the nodes ns were written, and ys is used up to e
pub record Wrote (xs : List ℕ) (u : ℕ) (ys : List ℕ) (e : ℕ) (ns : Nodes) : Type 0 where
  pub lies : take e ys ≡ take u xs ++ encs ns
  pub ends : e ≡ u + sizes ns
  pub start : u ≤ length xs

-- what `seal` does: members that were written from i + 4 on are those of the node at i
pub record Seals (i kind op n end : ℕ) (ys zs : List ℕ) : Type 0 where
  pub sealed : (xs : List ℕ) (k : NodeKind) (ns : Nodes) → kind ≡ node_no k → n ≡ count ns → Wrote xs (i + 4) ys end ns → Wrote xs i zs end (member (branch k op ns) no_more)

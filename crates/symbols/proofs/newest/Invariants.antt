-- The proof of `newest`.
use Rattle.std.proofs.Common.{false, ℕ, ◌≤◌, ◌<◌}
use Rattle.symbols.proofs.newest.Given as goal

abbrev pub invariant-loop-k : goal.invariant-loop-k
invariant-loop-k g l = (k : ℕ) → l.k ≤ k → k < l.used → goal.F-post g l.passes k false

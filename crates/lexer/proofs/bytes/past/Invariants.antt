-- `bytes::past` meets its contract.
use mathlib.Core.Path.{◌≡◌}
use mathlib.Core.Bool.{Bool}
use Prim.Native.Nat.{ℕ}
use Rattle.lexer.proofs.Runs.{stop}
use Rattle.lexer.proofs.bytes.past.Given as goal

abbrev pub invariant-loop-i : goal.invariant-loop-i
invariant-loop-i g l = (p : ℕ → Bool) → ((b : ℕ) (r : Bool) → goal.F-post g l.test b r → r ≡ p b) → stop p l.text l.i ≡ stop p l.text l.at

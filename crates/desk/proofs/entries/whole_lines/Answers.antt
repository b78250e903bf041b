-- `entries::whole_lines` meets its contract: the last line end is where `rposition` finds it.
use mathlib.Core.Path.{◌≡◌}
use Prim.Native.Nat.{ℕ, ◌<◌}
use native.Mathlib.Omega.{arith}
use lib.ListN.{length, get_or}
use Rattle.std.proofs.Common.{rules}
use Rattle.desk.proofs.Lines.{whole_at, none_whole}
use Rattle.desk.proofs.entries.whole_lines.Goals as goal

pub returns-in-Some : goal.returns-in-Some
returns-in-Some c =
    let s = c.args.s.now in
    let i = c.in-Some.last in
    let within : i < length s = search rules in
    let here : get_or s i 0 ≡ 10 = search rules in
    let later : (k : ℕ) → i < k → k < length s → get_or s k 0 ≡ 10 → ⊥ = search rules in
    (omega (arith, within), whole_at s i here within later)

pub returns-in-None : goal.returns-in-None
returns-in-None c =
    let none : (k : ℕ) → k < length c.args.s.now → get_or c.args.s.now k 0 ≡ 10 → ⊥ = search rules in
    (omega arith, none_whole c.args.s.now none)

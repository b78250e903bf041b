-- The numbers past the table mean nothing.
use mathlib.Core.Path.{◌≡◌, refl, sym, ap, ◌∙◌}
use mathlib.Core.List.{List, []}
use Prim.Native.Nat.{ℕ, zero, suc, ◌+◌, ◌-◌, ◌<◌}
use native.Mathlib.Omega.{arith}
use Rattle.numbers.specs.Bytes.{bytes}
use Rattle.desk.specs.Table.{line_span, after_line, line_at, lines, meanings, meaning_of}

-- what follows the first k lines
behind : ℕ → List ℕ → List ℕ
behind zero s = s
behind (suc k) s = behind k (after_line s)

further : (k n : ℕ) (s : List ℕ) → line_at (k + n) s ≡ line_at n (behind k s)
unfolding line_at behind
further zero n s = let e : 0 + n ≡ n = omega arith in rw e refl
further (suc k) n s = let e : suc k + n ≡ suc (k + n) = omega arith in rw e (further k n (after_line s))

no_line : (n : ℕ) → line_at n [] ≡ []
unfolding line_at after_line line_span
no_line zero = refl
no_line (suc n) = no_line n

all_passed : behind 26 (lines meanings) ≡ []
unfolding behind after_line line_span lines meanings bytes
all_passed = refl

pub no_meaning : (n : ℕ) → 25 < n → [] ≡ meaning_of n
unfolding meaning_of
no_meaning n h =
    let e : n ≡ 26 + (n - 26) = omega arith in
    sym (ap (λ (k : ℕ). line_at k (lines meanings)) e ∙ further 26 (n - 26) (lines meanings) ∙ ap (line_at (n - 26)) all_passed ∙ no_line (n - 26))

-- Laws of the lent list that holds the variables.
use mathlib.Core.Path.{◌≡◌, refl, sym, ◌∙◌}
use mathlib.Core.List.{List, [], ◌++◌}
use Prim.Native.Nat.{ℕ, ◌≤◌, ◌<◌}
use native.Mathlib.Omega.{arith}
use lib.IntN.{ℤ}
use lib.ListN.{length, take, drop, set, length-set, take-append-drop}
use lib.Seq.{length-take-le, set-append_left}
use Rattle.numbers.specs.Lent.{onto}
use Rattle.walk.specs.declared.expressions.Env.{Env}
use Rattle.walk.specs.declared.expressions.Clock.{Clock}
use Rattle.walk.specs.Walk.{State}
use Rattle.walk.specs.Meets.{Shows}

-- some state is always shown
pub some_state : (vars : List ℤ) (e : Env) (c : Clock) → e.vars ≤ length vars → (w : State) × Shows vars e c w
some_state vars e c h = (
  record { top = c.top; vars = take e.vars vars; out = []; input = []; lines = 0 },
  record { top = refl; cells = record { lent = vars; is = whole; many = length-take-le e.vars vars h } },
)
  where
    whole : vars ≡ take e.vars vars ++ drop (length (take e.vars vars)) vars
    whole = rw (length-take-le e.vars vars h) (sym (take-append-drop e.vars vars))

-- a value that is put into a place
pub put_in : (vars : List ℤ) (n p : ℕ) (z y : ℤ) → p < n → y ≡ z → (lent vs : List ℤ) → vars ≡ onto lent vs → length vs ≡ n → set vars p y ≡ onto lent (set vs p z)
put_in vars n p z y h e lent vs q l = rw (q, e) (set-append_left vs (drop (length vs) lent) p z (omega (arith, l)) ∙ rw (length-set vs p z))

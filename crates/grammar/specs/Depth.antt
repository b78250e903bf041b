-- How deep procedures stand one inside the other.
use Prim.Native.Nat.{ℕ, zero, suc}
use Rattle.tree.specs.Tree.{Procs, no_procs, proc}

-- at most d deep
unfoldable pub Nest : ℕ → Procs → Type 0
Nest d no_procs = Unit {0}
Nest zero (proc n ar cs vs inner b later) = ⊥
Nest (suc d) (proc n ar cs vs inner b later) = Nest d inner × Nest (suc d) later

pub nest_none : (d : ℕ) → Nest d no_procs
unfolding Nest
nest_none d = tt

-- so too where more is allowed
pub nest_more : (d : ℕ) (ps : Procs) → Nest d ps → Nest (suc d) ps
unfolding Nest
nest_more d no_procs h = tt
nest_more zero (proc n ar cs vs inner b later) h = absurd h
nest_more (suc d) (proc n ar cs vs inner b later) h = (nest_more d inner h.0, nest_more (suc d) later h.1)

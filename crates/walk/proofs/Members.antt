-- A loop over the members of a node that works out each of them: one law for the names of a `read`, the expressions of a `write` and the members of a body.
use mathlib.Core.Path.{◌≡◌, refl, sym, ap, ◌∙◌}
use mathlib.Core.List.{List, [], ◌∷◌}
use Prim.Native.Nat.{ℕ, ◌+◌, ◌≤◌, ◌<◌}
use native.Mathlib.Omega.{arith}
use lib.IntN.{ℤ}
use lib.ListN.{length}
use Rattle.std.proofs.Common.{Result as Answer, Ok, Err}
use Rattle.numbers.specs.declared.refusal.Refusal.{Refusal}
use Rattle.tree.specs.Layout.{Node, count, enc, encs, Stands}
use Rattle.tree.specs.Nodes.{list_nodes}
use Rattle.tree.specs.Named.{Each}
use Rattle.tree.specs.Reading.{two_at, After}
use Rattle.walk.specs.declared.expressions.Env.{Env}
use Rattle.walk.specs.declared.progress.Progress.{Progress}
use Rattle.walk.specs.Walk.{State, Walk, then}
use Rattle.walk.specs.Holds.{Holds, HasState, Ends, done}
use Rattle.walk.proofs.Ends.{ends_as, ends_from, ends_halt}

-- what stays the same while members of one kind are worked out: their nodes, what is known of them, how one and how all are worked out
pub record Family : Type 1 where
  pub A : Type 0
  pub node : A → Node
  pub In : A → Type 0
  pub run : ℕ → A → Walk (Unit {0})
  pub gen : ℕ → List A → Walk (Unit {0})
  pub more : (room : ℕ) (a : A) (l : List A) (b : ℕ) (w : State) → gen room (a ∷ l) b w ≡ then (λ u. gen room l) (run room a b w)

-- where the loop stands for one state at its start
pub record So (F : Family) (e : Env) (input : List ℕ) (lv : List ℤ) (lo : List ℕ) (all rest : List F.A) (p : Progress) (w : State) (vars : List ℤ) (out : List ℕ) (q : Progress) : Type 0 where
  pub state : State
  pub holds : Holds e input lv lo vars out q state
  pub is : F.gen (length lo) all p.clock.left w ≡ F.gen (length lo) rest q.clock.left state
  pub less : q.clock.left ≤ p.clock.left

-- k of N members are done, and the next stands at j, past i
pub record Along (F : Family) (tr : List ℕ) (e : Env) (input : List ℕ) (i N : ℕ) (all : List F.A) (vars₀ : List ℤ) (out₀ : List ℕ) (p : Progress) (k j : ℕ) (vars : List ℤ) (out : List ℕ) (q : Progress) : Type 0 where
  pub rest : List F.A
  pub counted : k + count (list_nodes F.node rest) ≡ N
  pub stands : Stands tr j (encs (list_nodes F.node rest))
  pub named : Each F.In rest
  pub beyond : i < j
  pub so : (lv : List ℤ) (lo : List ℕ) (w : State) → Holds e input lv lo vars₀ out₀ p w → So F e input lv lo all rest p w vars out q

module _ (F : Family) (tr : List ℕ) (e : Env) (input : List ℕ) (i N : ℕ) (all : List F.A) (vars₀ : List ℤ) (out₀ : List ℕ) (p : Progress) where
  pub along_start : N ≡ count (list_nodes F.node all) → Stands tr (i + 4) (encs (list_nodes F.node all)) → Each F.In all → Along F tr e input i N all vars₀ out₀ p 0 (i + 4) vars₀ out₀ p
  along_start n st nm = record {
    rest = all;
    counted = omega (arith, n);
    stands = st;
    named = nm;
    beyond = omega arith;
    so = λ lv lo w h. record { state = w; holds = h; is = refl; less = omega arith };
  }

  module _ (k j : ℕ) (vars : List ℤ) (out : List ℕ) (q : Progress) (l : Along F tr e input i N all vars₀ out₀ p k j vars out q) where
    -- a state is held all along
    pub along_held : HasState e input vars₀ out₀ p → HasState e input vars out q
    along_held h = let s = l.so h.lv h.lo h.state h.holds in record { lv = h.lv; lo = h.lo; state = s.state; holds = s.holds }

    module _ (lv : List ℤ) (lo : List ℕ) (w : State) (h : Holds e input lv lo vars₀ out₀ p w) (vars' : List ℤ) (out' : List ℕ) (r : Answer (Unit {0}) Refusal) (d : Progress) where
      abbrev Whole : Type 0
      Whole = Ends e input lv lo vars' out' p (F.gen (length lo) all p.clock.left w) d r

      -- no member is left
      pub along_done : N ≤ k → (f : Walk (Unit {0})) → ((b : ℕ) (v : State) → F.gen (length lo) [] b v ≡ f b v) → ((v : State) → Holds e input lv lo vars out q v → Ends e input lv lo vars' out' q (f q.clock.left v) d r) → Whole
      unfolding list_nodes count
      along_done n f g x = of l.rest l.counted (l.so lv lo w h)
        where
          of : (u : List F.A) → k + count (list_nodes F.node u) ≡ N → So F e input lv lo all u p w vars out q → Whole
          of [] c s = ends_as (sym (s.is ∙ g q.clock.left s.state)) (ends_from p s.less (x s.state s.holds))
          of (a ∷ u) c s = absurd (omega (arith, c))

    module _ (n : k < N) where
      -- the next member
      pub along_next : (a : F.A) × (Stands tr j (enc (F.node a)) × (F.In a × (j + 4 ≤ length tr)))
      unfolding list_nodes count Each
      along_next = of l.rest l.counted l.stands l.named
        where
          of : (u : List F.A) → k + count (list_nodes F.node u) ≡ N → Stands tr j (encs (list_nodes F.node u)) → Each F.In u → (a : F.A) × (Stands tr j (enc (F.node a)) × (F.In a × (j + 4 ≤ length tr)))
          of [] c st nm = absurd (omega (arith, c))
          of (a ∷ u) c st nm = let two = two_at tr j (F.node a) (list_nodes F.node u) st in (a, (two.one, (nm.0, omega (arith, two.fits, two.least))))

      module _ (vars' : List ℤ) (out' : List ℕ) {r : Answer (Unit {0}) Refusal} {d : Progress} (x : (a : F.A) → Stands tr j (enc (F.node a)) → F.In a → (lv : List ℤ) (lo : List ℕ) (w : State) → Holds e input lv lo vars out q w → Ends e input lv lo vars' out' q (F.run (length lo) a q.clock.left w) d r) where
        pub along_halt : {m : Refusal} → r ≡ Err m → (lv : List ℤ) (lo : List ℕ) (w : State) → Holds e input lv lo vars₀ out₀ p w → Ends e input lv lo vars' out' p (F.gen (length lo) all p.clock.left w) d (Err m)
        unfolding list_nodes count Each
        along_halt {m} y lv lo w h = of l.rest l.counted l.stands l.named (l.so lv lo w h)
          where
            of : (u : List F.A) → k + count (list_nodes F.node u) ≡ N → Stands tr j (encs (list_nodes F.node u)) → Each F.In u → So F e input lv lo all u p w vars out q → Ends e input lv lo vars' out' p (F.gen (length lo) all p.clock.left w) d (Err m)
            of [] c st nm s = absurd (omega (arith, c))
            of (a ∷ u) c st nm s =
                ends_as (sym (s.is ∙ F.more (length lo) a u q.clock.left s.state))
                (ends_from p s.less (ends_halt y (x a (two_at tr j (F.node a) (list_nodes F.node u) st).one nm.0 lv lo s.state s.holds) (λ t. F.gen (length lo) u)))

        pub along_more : {u : Unit {0}} {j' : ℕ} → r ≡ Ok u → After tr j j' → Along F tr e input i N all vars₀ out₀ p (k + 1) j' vars' out' d
        unfolding list_nodes count Each
        along_more {u = ok_u} {j'} y f = of l.rest l.counted l.stands l.named l.so
          where
            next_so : (a : F.A) (u : List F.A) (lv : List ℤ) (lo : List ℕ) (w : State) (s : So F e input lv lo all (a ∷ u) p w vars out q) → Ends e input lv lo vars' out' q (F.run (length lo) a q.clock.left s.state) d (Ok ok_u) → So F e input lv lo all u p w vars' out' d
            next_so a u lv lo w s (done v i m n) = record {
              state = v;
              holds = m;
              is = s.is ∙ F.more (length lo) a u q.clock.left s.state ∙ ap (then (λ t. F.gen (length lo) u)) i;
              less = omega (arith, n, s.less);
            }

            of : (u : List F.A) → k + count (list_nodes F.node u) ≡ N → Stands tr j (encs (list_nodes F.node u)) → Each F.In u
                → ((lv : List ℤ) (lo : List ℕ) (w : State) → Holds e input lv lo vars₀ out₀ p w → So F e input lv lo all u p w vars out q) → Along F tr e input i N all vars₀ out₀ p (k + 1) j' vars' out' d
            of [] c st nm s = absurd (omega (arith, c))
            of (a ∷ u) c st nm s =
                let two = two_at tr j (F.node a) (list_nodes F.node u) st in
                let je = f (F.node a) two.one in
                record {
                  rest = u;
                  counted = omega (arith, c);
                  stands = rw je two.others;
                  named = nm.1;
                  beyond = omega (arith, l.beyond, je);
                  so = λ lv lo w h. next_so a u lv lo w (s lv lo w h) (rw y at (x a two.one nm.0 lv lo (s lv lo w h).state (s lv lo w h).holds));
                }

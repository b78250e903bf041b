-- Laws of expressions and conditions: how the answers of the parts give the answer of the whole.
use mathlib.Core.Path.{◌≡◌, refl, sym, ap, ◌∙◌}
use mathlib.Core.List.{List}
use Prim.Native.Nat.{ℕ, ◌+◌, ◌-◌, ◌≤◌, ◌<◌}
use native.Mathlib.Omega.{arith as linear}
use lib.IntN.{ℤ, pos}
use lib.ListN.{length, get_or}
use Rattle.std.proofs.Common.{Result as Answer, Ok, Err}
use Rattle.numbers.specs.declared.refusal.Refusal.{Refusal}
use Rattle.numbers.specs.Arithmetic.{Arith, arith, Compare, Val, oddness}
use Rattle.tree.specs.Tree.{Exp, chain, Chain, end, link, Cond, is_odd, rel}
use Rattle.tree.specs.Layout.{neg_kind, chain_kind, brackets_kind, odd_kind, literal, member, name_no, number_no, node_no, count, enc, encs, Stands}
use Rattle.tree.specs.Nodes.{exp_node, chain_nodes, arith_no, compare_no}
use Rattle.tree.specs.Named.{NamedExp, NamedChain}
use Rattle.tree.specs.Reading.{word_at, branch_at, first_at, two_at, After}
use Rattle.tree.specs.Heads.{name_head, number_head, node_head, ExpIs, is_lit, is_ref, is_neg, is_chain, is_brackets, exp_head_lem, cond_head_lem}
use Rattle.tree.specs.Standing.{ExpAt, CondAt}
use Rattle.tree.specs.Parts.{exp_by, at_neg, at_brackets, at_first, at_odd, at_left, at_right}
use Rattle.symbols.specs.Symbols.{main_scope, Row, find}
use Rattle.symbols.specs.Table.{part}
use Rattle.symbols.specs.ByNumbers.{name_is}
use Rattle.walk.specs.declared.expressions.Env.{Env}
use Rattle.walk.specs.declared.expressions.Clock.{Clock}
use Rattle.walk.specs.Walk.{State, Result, ok, stop, Walk, then, at_top, push, result, on_one, on_two, value_in, walk_exp, walk_chain, walk_cond}
use Rattle.walk.specs.Meets.{Went, Gives, gives, halts, Cells, Shows, neg_walk, link_walk, rel_walk}
use Rattle.walk.proofs.Steps.{at_top_lem}

-- one after the other
pub then_assoc : {A B C : Type 0} (r : Result A) (f : A → Walk B) (g : B → Walk C) → then (λ a b w. then g (f a b w)) r ≡ then g (then f r)
then_assoc (ok a b w) f g = refl
then_assoc (stop n b w) f g = refl

module _ {n : ℕ} {c : Clock} {w : State} {o : Result ℤ} {d : Clock} where
  pub gives_top : {m : ℕ} {r : Answer ℤ Refusal} → n ≡ m → Gives n c w o d r → Gives m c w o d r
  gives_top e (gives h) = gives (record { is = h.is; top = h.top ∙ e; less = h.less })
  gives_top e (halts h) = halts h

  pub gives_as : {p : Result ℤ} {r : Answer ℤ Refusal} → p ≡ o → Gives n c w o d r → Gives n c w p d r
  gives_as e h = rw e h

  -- a refusal ends what comes after it, too
  pub gives_stop : {m : ℕ} {k : Refusal} {r : Answer ℤ Refusal} → r ≡ Err k → Gives n c w o d r → (f : ℤ → Walk ℤ) → Gives m c w (then f o) d (Err k)
  gives_stop {m} {k} e h f = of (rw e at h)
    where
      of : Gives n c w o d (Err k) → Gives m c w (then f o) d (Err k)
      of (halts x) = halts (record { is = ap (then f) x.is; less = x.less })

  -- a value
  pub went : {z : ℤ} {r : Answer ℤ Refusal} → r ≡ Ok z → Gives n c w o d r → Went n c w o z d
  went {z} e h = of (rw e at h)
    where
      of : Gives n c w o d (Ok z) → Went n c w o z d
      of (gives x) = x

  -- on with a value
  pub gives_then : {m : ℕ} {z : ℤ} {r q : Answer ℤ Refusal} {g : Clock} → r ≡ Ok z → Gives n c w o d r → (f : ℤ → Walk ℤ) → Gives m d (at_top d.top w) (f z d.left (at_top d.top w)) g q → Gives m c w (then f o) g q
  gives_then e h f (gives x) = gives (record { is = ap (then f) (went e h).is ∙ x.is; top = x.top; less = omega (linear, x.less, (went e h).less) })
  gives_then e h f (halts x) = halts (record { is = ap (then f) (went e h).is ∙ x.is; less = omega (linear, x.less, (went e h).less) })

-- from an earlier clock
pub gives_from : {c d : Clock} {w : State} {o : Result ℤ} {m : ℕ} {r : Answer ℤ Refusal} {g : Clock} → d.left ≤ c.left → Gives m d (at_top d.top w) o g r → Gives m c w o g r
gives_from l (gives h) = gives (record { is = h.is; top = h.top; less = omega (linear, h.less) })
gives_from l (halts h) = halts (record { is = h.is; less = omega (linear, h.less) })

-- what a name, a number, a leading minus and brackets give
module _ (rs : List Row) {s tr : List ℕ} {i : ℕ} {vars : List ℤ} {e : Env} {c d : Clock} {r : Answer ℤ Refusal} where
  pub exp_ref : (x y : ℤ) → get_or tr i 0 ≡ name_no → y ≡ x → ((vs : List ℤ) → Cells vars e.vars vs → x ≡ value_in (find rs (part s (get_or tr (i + 2) 0) (get_or tr (i + 3) 0)) main_scope) vs)
      → ((w : State) → w.top ≡ c.top → Gives (c.top + 1) c w (push y c.left w) d r)
      → (t : Exp) → ExpAt s tr i t → (w : State) → Shows vars e c w → Gives (c.top + 1) c w (walk_exp rs t c.left w) d r
  unfolding exp_node NamedExp walk_exp
  exp_ref x y k q v h t a w sh = of (exp_by name_head k a) a
    where
      of : {u : Exp} → ExpIs name_head u → ExpAt s tr i u → Gives (c.top + 1) c w (walk_exp rs u c.left w) d r
      of (is_ref m) b =
          let g = word_at tr i b.op m.at (length m.text) b.stands in
          let z : y ≡ value_in (find rs m.text main_scope) w.vars = q ∙ v w.vars sh.cells ∙ ap (λ (l : List ℕ). value_in (find rs l main_scope) w.vars) (name_is {s = s} {n = m} (get_or tr (i + 2) 0) (get_or tr (i + 3) 0) g.at2 g.at3 b.named) in
          gives_as (ap (λ (v : ℤ). push v c.left w) (sym z)) (h w sh.top)

  pub exp_lit : (x y : ℤ) → get_or tr i 0 ≡ number_no → y ≡ x → ((o v : ℕ) → Stands tr i (enc (literal o v)) → x ≡ pos v)
      → ((w : State) → w.top ≡ c.top → Gives (c.top + 1) c w (push y c.left w) d r)
      → (t : Exp) → ExpAt s tr i t → (w : State) → Shows vars e c w → Gives (c.top + 1) c w (walk_exp rs t c.left w) d r
  unfolding exp_node NamedExp walk_exp
  exp_lit x y k q v h t a w sh = of (exp_by number_head k a) a
    where
      of : {u : Exp} → ExpIs number_head u → ExpAt s tr i u → Gives (c.top + 1) c w (walk_exp rs u c.left w) d r
      of (is_lit m) b = gives_as (ap (λ (v : ℤ). push v c.left w) (sym (q ∙ v b.op m b.stands))) (h w sh.top)

  pub exp_neg : get_or tr i 0 ≡ node_no neg_kind → ((t : Exp) → ExpAt s tr (i + 4) t → (w : State) → Shows vars e c w → Gives (c.top + 1) c w (neg_walk rs t c.left w) d r)
      → (t : Exp) → ExpAt s tr i t → (w : State) → Shows vars e c w → Gives (c.top + 1) c w (walk_exp rs t c.left w) d r
  unfolding walk_exp
  exp_neg k h t a w sh = of (exp_by (node_head neg_kind) k a) a
    where
      of : {u : Exp} → ExpIs (node_head neg_kind) u → ExpAt s tr i u → Gives (c.top + 1) c w (walk_exp rs u c.left w) d r
      of (is_neg x) b = h x (at_neg x b) w sh

  pub exp_brackets : ((t : Exp) → ExpAt s tr i t → ExpIs (node_head brackets_kind) t) → ((t : Exp) → ExpAt s tr (i + 4) t → (w : State) → Shows vars e c w → Gives (c.top + 1) c w (walk_exp rs t c.left w) d r)
      → (t : Exp) → ExpAt s tr i t → (w : State) → Shows vars e c w → Gives (c.top + 1) c w (walk_exp rs t c.left w) d r
  unfolding walk_exp
  exp_brackets k h t a w sh = of (k t a) a
    where
      of : {u : Exp} → ExpIs (node_head brackets_kind) u → ExpAt s tr i u → Gives (c.top + 1) c w (walk_exp rs u c.left w) d r
      of (is_brackets x) b = h x (at_brackets x b) w sh

-- an operator after a value: the value z of o is on top, and the operator's answer is v
module _ {n : ℕ} {c : Clock} {w : State} {o : Result ℤ} {z : ℤ} {d g : Clock} {r q : Answer ℤ Refusal} (e : r ≡ Ok z) (h : Gives n c w o d r) where
  pub on_one_lem : (f : ℤ → Val) (v : Val) → v ≡ f z → ((w : State) → w.top ≡ d.top → Gives d.top d w (result d.top v d.left w) g q) → Gives n c w (then (λ x. on_one (f x)) o) g q
  on_one_lem f v p t = gives_top (went e h).top (gives_then e h (λ x. on_one (f x)) (gives_as (ap (λ (u : Val). result d.top u d.left (at_top d.top w)) (sym p)) (t (at_top d.top w) refl)))

  pub on_two_lem : {m : ℕ} (f : ℤ → Val) (v : Val) → v ≡ f z → n ≡ m + 1 → ((w : State) → w.top ≡ d.top → Gives (d.top - 1) d w (result (d.top - 1) v d.left w) g q) → Gives m c w (then (λ x. on_two (f x)) o) g q
  on_two_lem {m} f v p k t = gives_top (omega (linear, (went e h).top, k)) (gives_then e h (λ x. on_two (f x)) (gives_as (ap (λ (u : Val). result (d.top - 1) u d.left (at_top d.top w)) (sym p)) (t (at_top d.top w) refl)))

-- the operands l of a chain after the first, from the value x₀ and the clock d₀ on: k of N are done, the next stands at j, and x is what came before it
pub record Along (rs : List Row) (s tr : List ℕ) (vars : List ℤ) (e : Env) (i N : ℕ) (x₀ : ℤ) (d₀ : Clock) (l : Chain) (k j : ℕ) (x : ℤ) (d : Clock) : Type 0 where
  pub rest : Chain
  pub counted : k + count (chain_nodes rest) ≡ N
  pub stands : Stands tr j (encs (chain_nodes rest))
  pub named : NamedChain s rest
  pub beyond : i < j
  pub top : d.top ≡ d₀.top
  pub less : d.left ≤ d₀.left
  pub is : (w : State) → Shows vars e d₀ w → walk_chain rs l x₀ d₀.left w ≡ walk_chain rs rest x d.left (at_top d.top w)

abbrev pub Loop : List Row → List ℕ → List ℕ → List ℤ → Env → ℕ → ℕ → ℤ → Clock → ℕ → ℕ → ℤ → Clock → Type 0
Loop rs s tr vars e i N x₀ d₀ k j x d = (y : Exp) (l : Chain) → ExpAt s tr i (chain y l) → Along rs s tr vars e i N x₀ d₀ l k j x d

-- the next operand
pub record NextAt (s tr : List ℕ) (i j : ℕ) : Type 0 where
  pub op : Arith
  pub exp : Exp
  pub op_is : get_or tr (j + 1) 0 ≡ arith_no op
  pub at : ExpAt s tr j exp
  pub fits : j + 4 ≤ length tr
  pub beyond : i < j

pub chain_start : (rs : List Row) (s tr : List ℕ) (vars : List ℤ) (e : Env) (i N j : ℕ) (x₀ : ℤ) (d₀ : Clock) → N ≡ get_or tr (i + 2) 0 → After tr (i + 4) j → Loop rs s tr vars e i N x₀ d₀ 1 j x₀ d₀
unfolding exp_node NamedExp chain_nodes count
chain_start rs s tr vars e i N j x₀ d₀ n f y l b =
    let p = first_at tr i chain_kind b.op (exp_node 0 y) (chain_nodes l) b.stands in
    let je = f (exp_node 0 y) p.one in
    record {
      rest = l;
      counted = omega (linear, n, (branch_at tr i chain_kind b.op (member (exp_node 0 y) (chain_nodes l)) b.stands).at2);
      stands = rw je p.others;
      named = b.named.1;
      beyond = omega (linear, p.least, je);
      top = refl;
      less = omega linear;
      is = λ w sh. ap (walk_chain rs l x₀ d₀.left) (sym (at_top_lem w d₀.top sh.top));
    }

module _ (rs : List Row) (s tr : List ℕ) (vars : List ℤ) (e : Env) (i : ℕ) where
  -- what the operands give
  abbrev pub Links : ℤ → Clock → Answer ℤ Refusal → Clock → Type 0
  Links x₀ d₀ r d = (y : Exp) (l : Chain) → ExpAt s tr i (chain y l) → (w : State) → Shows vars e d₀ w → Gives d₀.top d₀ w (walk_chain rs l x₀ d₀.left w) d r

  module _ (c : Clock) (k : get_or tr i 0 ≡ node_no chain_kind) {r : Answer ℤ Refusal} {d : Clock} (h : (t : Exp) → ExpAt s tr (i + 4) t → (w : State) → Shows vars e c w → Gives (c.top + 1) c w (walk_exp rs t c.left w) d r) where
    pub chain_stop : {m : Refusal} → r ≡ Err m → (t : Exp) → ExpAt s tr i t → (w : State) → Shows vars e c w → Gives (c.top + 1) c w (walk_exp rs t c.left w) d (Err m)
    unfolding walk_exp
    chain_stop {m} q t a w sh = of (exp_by (node_head chain_kind) k a) a
      where
        of : {u : Exp} → ExpIs (node_head chain_kind) u → ExpAt s tr i u → Gives (c.top + 1) c w (walk_exp rs u c.left w) d (Err m)
        of (is_chain x l) b = gives_stop q (h x (at_first x l b) w sh) (λ y. walk_chain rs l y)

    pub chain_whole : {z y : ℤ} {q : Answer ℤ Refusal} {f : Clock} → r ≡ Ok z → y ≡ z → Links y d q f → (t : Exp) → ExpAt s tr i t → (w : State) → Shows vars e c w → Gives (c.top + 1) c w (walk_exp rs t c.left w) f q
    unfolding walk_exp
    chain_whole {z} {y} {q} {f} g v n t a w sh = of (exp_by (node_head chain_kind) k a) a
      where
        of : {u : Exp} → ExpIs (node_head chain_kind) u → ExpAt s tr i u → Gives (c.top + 1) c w (walk_exp rs u c.left w) f q
        of (is_chain x l) b =
            let y₁ = h x (at_first x l b) w sh in
            gives_top (went g y₁).top (gives_then g y₁ (λ o. walk_chain rs l o)
            (gives_as (ap (λ (o : ℤ). walk_chain rs l o d.left (at_top d.top w)) (sym v)) (n x l b (at_top d.top w) (record { top = refl; cells = sh.cells }))))

  module _ (N : ℕ) (x₀ : ℤ) (d₀ : Clock) (k j : ℕ) (x : ℤ) (d : Clock) (inv : Loop rs s tr vars e i N x₀ d₀ k j x d) where
    pub chain_done : N ≤ k → Links x₀ d₀ (Ok x) d
    unfolding walk_chain count chain_nodes
    chain_done h y l b w sh = let a = inv y l b in gives {z = x} (record { is = a.is w sh ∙ empty a.rest (omega (linear, a.counted)); top = a.top; less = a.less })
      where
        empty : (u : Chain) → count (chain_nodes u) ≡ 0 → walk_chain rs u x d.left (at_top d.top w) ≡ ok x d.left (at_top d.top w)
        empty end z = refl
        empty (link o y u) z = absurd (omega (linear, z))

    module _ (h : k < N) where
      pub next_in : {y : Exp} {l : Chain} → ExpAt s tr i (chain y l) → NextAt s tr i j
      unfolding chain_nodes count NamedChain
      next_in {y} {l} b = of (inv y l b).rest (inv y l b).counted (inv y l b).stands (inv y l b).named (inv y l b).beyond
        where
          of : (u : Chain) → k + count (chain_nodes u) ≡ N → Stands tr j (encs (chain_nodes u)) → NamedChain s u → i < j → NextAt s tr i j
          of end q st nm b = absurd (omega (linear, q))
          of (link o y u) q st nm b =
              let p = two_at tr j (exp_node (arith_no o) y) (chain_nodes u) st in
              record { op = o; exp = y; op_is = (exp_head_lem tr j (arith_no o) y p.one).op; at = record { op = arith_no o; stands = p.one; named = nm.0 }; fits = omega (linear, p.fits, p.least); beyond = b }

      module _ {r : Answer ℤ Refusal} {g : Clock} (ens : (o : Arith) (t : Exp) → get_or tr (j + 1) 0 ≡ arith_no o → ExpAt s tr j t → (w : State) → Shows vars e d w → Gives d.top d w (link_walk rs o x t d.left w) g r) where
        -- the next operand is worked out, from each state
        linked_in : (o : Arith) (y : Exp) (u : Chain) → Stands tr j (encs (chain_nodes (link o y u))) → NamedExp s y → (w : State) → Shows vars e d₀ w → Gives d.top d (at_top d.top w) (link_walk rs o x y d.left (at_top d.top w)) g r
        unfolding chain_nodes
        linked_in o y u st nm w sh =
            let p = two_at tr j (exp_node (arith_no o) y) (chain_nodes u) st in
            ens o y (exp_head_lem tr j (arith_no o) y p.one).op (record { op = arith_no o; stands = p.one; named = nm }) (at_top d.top w) (record { top = refl; cells = sh.cells })

        chain_next : (o : Arith) (y : Exp) (u : Chain) (b : ℕ) (w : State) → walk_chain rs (link o y u) x b w ≡ then (λ z. walk_chain rs u z) (link_walk rs o x y b w)
        unfolding walk_chain
        chain_next o y u b w = then_assoc (walk_exp rs y b w) (λ z. on_two (arith o x z)) (λ z. walk_chain rs u z)

        pub chain_halt : {m : Refusal} → r ≡ Err m → Links x₀ d₀ (Err m) g
        unfolding count NamedChain chain_nodes
        chain_halt {m} q y l b w sh = of (inv y l b).rest (inv y l b).counted (inv y l b).stands (inv y l b).named ((inv y l b).is w sh)
          where
            of : (u : Chain) → k + count (chain_nodes u) ≡ N → Stands tr j (encs (chain_nodes u)) → NamedChain s u → walk_chain rs l x₀ d₀.left w ≡ walk_chain rs u x d.left (at_top d.top w) → Gives d₀.top d₀ w (walk_chain rs l x₀ d₀.left w) g (Err m)
            of end n st nm z = absurd (omega (linear, n))
            of (link o v u) n st nm z = gives_as (z ∙ chain_next o v u d.left (at_top d.top w)) (gives_from (inv y l b).less (gives_stop {m = d₀.top} q (linked_in o v u st nm.0 w sh) (λ v. walk_chain rs u v)))

        pub chain_more : {z a : ℤ} {m : ℕ} → r ≡ Ok z → a ≡ z → After tr j m → (w : State) → Shows vars e d₀ w → Loop rs s tr vars e i N x₀ d₀ (k + 1) m a g
        unfolding count NamedChain chain_nodes
        chain_more {z} {a} {m} q v f w₀ sh₀ y l b = of (inv y l b).rest (inv y l b).counted (inv y l b).stands (inv y l b).named (inv y l b).is
          where
            of : (u : Chain) → k + count (chain_nodes u) ≡ N → Stands tr j (encs (chain_nodes u)) → NamedChain s u → ((w : State) → Shows vars e d₀ w → walk_chain rs l x₀ d₀.left w ≡ walk_chain rs u x d.left (at_top d.top w)) → Along rs s tr vars e i N x₀ d₀ l (k + 1) m a g
            of end n st nm p = absurd (omega (linear, n))
            of (link o t u) n st nm p =
                let two = two_at tr j (exp_node (arith_no o) t) (chain_nodes u) st in
                let le = f (exp_node (arith_no o) t) two.one in
                let w₁ = went q (linked_in o t u st nm.0 w₀ sh₀) in
                record {
                  rest = u;
                  counted = omega (linear, n);
                  stands = rw le two.others;
                  named = nm.1;
                  beyond = omega (linear, (inv y l b).beyond, le);
                  top = w₁.top ∙ (inv y l b).top;
                  less = omega (linear, w₁.less, (inv y l b).less);
                  is = λ w sh. p w sh ∙ chain_next o t u d.left (at_top d.top w) ∙ ap (then (λ z. walk_chain rs u z)) (went q (linked_in o t u st nm.0 w sh)).is ∙ ap (λ (n : ℤ). walk_chain rs u n g.left (at_top g.top w)) (sym v);
                }

-- what a condition gives
module _ (rs : List Row) (s tr : List ℕ) (vars : List ℤ) (e : Env) (i : ℕ) (c : Clock) {r : Answer ℤ Refusal} {d : Clock} (h : (t : Exp) → ExpAt s tr (i + 4) t → (w : State) → Shows vars e c w → Gives (c.top + 1) c w (walk_exp rs t c.left w) d r) where
  pub cond_stop : {m : Refusal} → r ≡ Err m → (t : Cond) → CondAt s tr i t → (w : State) → Shows vars e c w → Gives (c.top + 1) c w (walk_cond rs t c.left w) d (Err m)
  unfolding walk_cond
  cond_stop q (is_odd x) a w sh = gives_stop q (h x (at_odd x a) w sh) (λ z. on_one (oddness z))
  cond_stop q (rel o x y) a w sh = gives_stop q (h x (at_left o x y a) w sh) (λ z. rel_walk rs o z y)

  module _ {z : ℤ} {q : Answer ℤ Refusal} {u : Clock} (g : r ≡ Ok z) where
    pub cond_odd : get_or tr i 0 ≡ node_no odd_kind → (v : Val) → v ≡ oddness z → ((w : State) → w.top ≡ d.top → Gives d.top d w (result d.top v d.left w) u q)
        → (t : Cond) → CondAt s tr i t → (w : State) → Shows vars e c w → Gives (c.top + 1) c w (walk_cond rs t c.left w) u q
    unfolding walk_cond
    cond_odd k v p f (is_odd x) a w sh = on_one_lem g (h x (at_odd x a) w sh) oddness v p f
    cond_odd k v p f (rel o x y) a w sh = absurd (omega (linear, k, (cond_head_lem tr i (rel o x y) a.stands).kind))

    pub cond_rel : {j : ℕ} → (get_or tr i 0 ≡ node_no odd_kind → ⊥) → (x : ℤ) → x ≡ z → After tr (i + 4) j
        → ((o : Compare) (t : Exp) → get_or tr (i + 1) 0 ≡ compare_no o → ExpAt s tr j t → (w : State) → Shows vars e d w → Gives d.top d w (rel_walk rs o x t d.left w) u q)
        → (t : Cond) → CondAt s tr i t → (w : State) → Shows vars e c w → Gives (c.top + 1) c w (walk_cond rs t c.left w) u q
    unfolding walk_cond
    cond_rel k x v n f (is_odd y) a w sh = absurd (k (cond_head_lem tr i (is_odd y) a.stands).kind)
    cond_rel k x v n f (rel o l y₂) a w sh =
        let m = h l (at_left o l y₂ a) w sh in
        gives_top (went g m).top (gives_then g m (λ y. rel_walk rs o y y₂)
        (gives_as (ap (λ (y : ℤ). rel_walk rs o y y₂ d.left (at_top d.top w)) (sym v)) (f o y₂ (cond_head_lem tr i (rel o l y₂) a.stands).op (at_right o l y₂ n a) (at_top d.top w) (record { top = refl; cells = sh.cells }))))

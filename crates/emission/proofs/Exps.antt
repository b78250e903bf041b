-- Laws of expressions and conditions, by the node that stands for them.
use mathlib.Core.Path.{◌≡◌, refl, subst}
use mathlib.Core.List.{List, []}
use Prim.Native.Nat.{ℕ, ◌+◌, ◌≤◌}
use native.Mathlib.Omega.{arith}
use lib.IntN.{pos}
use lib.ListN.{length, get_or}
use Rattle.std.specs.Prelude.{Result, Ok, Err}
use Rattle.numbers.specs.declared.refusal.Refusal.{Refusal}
use Rattle.numbers.specs.Limits.{max_code}
use Rattle.numbers.specs.Arithmetic.{Arith, Compare}
use Rattle.tree.specs.Tree.{Exp, chain, Chain, end, link, Cond, rel}
use Rattle.tree.specs.Layout.{neg_kind, chain_kind, brackets_kind, odd_kind, comparison_kind, member, name_no, number_no, node_no, count}
use Rattle.tree.specs.Nodes.{exp_node, chain_nodes, arith_no, compare_no}
use Rattle.tree.specs.Named.{NamedExp, NamedChain}
use Rattle.tree.specs.Reading.{word_at, literal_at, branch_at, first_at, After}
use Rattle.tree.specs.Heads.{name_head, number_head, node_head, ExpIs, is_lit, is_ref, is_neg, is_chain, is_brackets, exp_head_lem, CondIs, is_oddness, is_rel, cond_is, cond_head_lem}
use Rattle.tree.specs.Standing.{ExpAt, CondAt}
use Rattle.tree.specs.Parts.{exp_by, at_neg, at_brackets, at_first, at_odd, is_rel_lem, at_left, at_right}
use Rattle.pcode.specs.Operators.{Oper, arithmetic, comparison, negate, odd}
use Rattle.pcode.specs.Code.{LIT}
use Rattle.symbols.specs.Symbols.{find}
use Rattle.symbols.specs.Table.{part}
use Rattle.symbols.specs.ByNumbers.{name_is}
use Rattle.emission.specs.Pieces.{made, ◌⨾◌, nothing, emit, emit_oper}
use Rattle.emission.specs.Statements.{Env, used, exp_code, chain_code, cond_code}
use Rattle.emission.specs.Draft.{whole, Emits}
use Rattle.emission.specs.Drafting.{so_start, stop, then, seq_assoc}
use Rattle.emission.proofs.Lists.{Uncons, Family, Loop}

-- what each becomes
module _ {s tr : List ℕ} {i : ℕ} (ρ : Env) {n : ℕ} {ys zs : List ℕ} {r : Result ℕ Refusal} where
  as_ref : {t : Exp} → Emits (used ρ (find ρ.rows (part s (get_or tr (i + 2) 0) (get_or tr (i + 3) 0)) ρ.scope) n) n ys zs r → ExpIs name_head t → ExpAt s tr i t → Emits (exp_code ρ t n) n ys zs r
  unfolding exp_node NamedExp exp_code
  as_ref h (is_ref m) a =
      let f = word_at tr i a.op m.at (length m.text) a.stands in
      rw (← name_is {s = s} {n = m} (get_or tr (i + 2) 0) (get_or tr (i + 3) 0) f.at2 f.at3 a.named) h

  pub exp_ref : get_or tr i 0 ≡ name_no → Emits (used ρ (find ρ.rows (part s (get_or tr (i + 2) 0) (get_or tr (i + 3) 0)) ρ.scope) n) n ys zs r → (t : Exp) → ExpAt s tr i t → Emits (exp_code ρ t n) n ys zs r
  exp_ref k h t a = as_ref h (exp_by name_head k a) a

  as_lit : {t : Exp} → Emits (emit LIT 0 (pos (whole (get_or tr (i + 2) 0) (get_or tr (i + 3) 0))) n) n ys zs r → ExpIs number_head t → ExpAt s tr i t → Emits (exp_code ρ t n) n ys zs r
  unfolding exp_node exp_code
  as_lit h (is_lit v) a =
      let f = literal_at tr i a.op v a.stands in
      let e : whole (get_or tr (i + 2) 0) (get_or tr (i + 3) 0) ≡ v = omega (arith, f.at2, f.at3) in
      rw (← e) h

  pub exp_lit : get_or tr i 0 ≡ number_no → Emits (emit LIT 0 (pos (whole (get_or tr (i + 2) 0) (get_or tr (i + 3) 0))) n) n ys zs r → (t : Exp) → ExpAt s tr i t → Emits (exp_code ρ t n) n ys zs r
  exp_lit k h t a = as_lit h (exp_by number_head k a) a

  as_neg : {t : Exp} → ((u : Exp) → ExpAt s tr (i + 4) u → Emits ((exp_code ρ u ⨾ emit_oper negate) n) n ys zs r) → ExpIs (node_head neg_kind) t → ExpAt s tr i t → Emits (exp_code ρ t n) n ys zs r
  unfolding exp_code
  as_neg h (is_neg e) a = h e (at_neg e a)

  pub exp_neg : get_or tr i 0 ≡ node_no neg_kind → ((u : Exp) → ExpAt s tr (i + 4) u → Emits ((exp_code ρ u ⨾ emit_oper negate) n) n ys zs r) → (t : Exp) → ExpAt s tr i t → Emits (exp_code ρ t n) n ys zs r
  exp_neg k h t a = as_neg h (exp_by (node_head neg_kind) k a) a

  pub exp_brackets : ((t : Exp) → ExpAt s tr i t → ExpIs (node_head brackets_kind) t) → ((u : Exp) → ExpAt s tr (i + 4) u → Emits (exp_code ρ u n) n ys zs r) → (t : Exp) → ExpAt s tr i t → Emits (exp_code ρ t n) n ys zs r
  unfolding exp_code
  exp_brackets k h t a = of (k t a) a
    where
      of : {u : Exp} → ExpIs (node_head brackets_kind) u → ExpAt s tr i u → Emits (exp_code ρ u n) n ys zs r
      of (is_brackets e) x = h e (at_brackets e x)

-- an operand of a chain after the first, with its operator
abbrev pub LinkAt : List ℕ → List ℕ → ℕ → Arith × Exp → Type 0
LinkAt s tr j p = (get_or tr (j + 1) 0 ≡ arith_no p.0) × ExpAt s tr j p.1

pub links_empty : (ρ : Env) (c : Chain) → count (chain_nodes c) ≡ 0 → (n : ℕ) → chain_code ρ c n ≡ made []
unfolding exp_node count exp_code nothing
links_empty ρ end h n = refl
links_empty ρ (link a e c) h n = absurd (omega (arith, h))

-- the operands of a chain after the first
module _ (s tr : List ℕ) (ρ : Env) where
  pub link_uncons : (c : Chain) → 1 ≤ count (chain_nodes c) → Uncons chain_nodes (λ (p : Arith × Exp). exp_node (arith_no p.0) p.1) (chain_code ρ) (λ (p : Arith × Exp). exp_code ρ p.1 ⨾ emit_oper (arithmetic p.0)) (NamedChain s) (λ (p : Arith × Exp). NamedExp s p.1) c
  unfolding exp_node count exp_code NamedExp nothing
  link_uncons end h = absurd (omega arith)
  link_uncons (link a e c) h = record { head = (a, e); tail = c; nodes_is = refl; gen_is = seq_assoc (exp_code ρ e) (emit_oper (arithmetic a)) (chain_code ρ c); head_in = λ x. x.0; tail_in = λ x. x.1 }

  abbrev pub Links : ℕ → Family
  Links i = record {
    L = Chain;
    A = Arith × Exp;
    W = Exp × Chain;
    nodes = chain_nodes;
    node = λ p. exp_node (arith_no p.0) p.1;
    gen = chain_code ρ;
    gen_a = λ p. exp_code ρ p.1 ⨾ emit_oper (arithmetic p.0);
    In = NamedChain s;
    InA = λ p. NamedExp s p.1;
    uncons = link_uncons;
    tr = tr;
    ItemAt = LinkAt s tr;
    item_at = λ j p st nm. ((exp_head_lem tr j (arith_no p.0) p.1 st).op, record { op = arith_no p.0; stands = st; named = nm });
    whole = λ w. chain_code ρ w.1;
    Is = λ w. ExpAt s tr i (chain w.0 w.1);
  }

  pub links_start : (i N j m : ℕ) (ys : List ℕ) → N ≡ get_or tr (i + 2) 0 → After tr (i + 4) j → m ≤ max_code → Loop (Links i) N i m ys 1 j m ys
  unfolding exp_node NamedExp count
  links_start i N j m ys e f b w a =
      let x = exp_node 0 w.0 in
      let v = first_at tr i chain_kind a.op x (chain_nodes w.1) a.stands in
      let je = f x v.one in
      record {
        rest = w.1;
        counted = omega (arith, (branch_at tr i chain_kind a.op (member x (chain_nodes w.1)) a.stands).at2);
        stands = rw je v.others;
        named = a.named.1;
        so = so_start (chain_code ρ w.1) b;
        beyond = omega (arith, v.least);
      }

  module _ {i n : ℕ} {ys zs : List ℕ} (k : get_or tr i 0 ≡ node_no chain_kind) where
    pub chain_stop : (zs' : List ℕ) {e : Refusal} → ((u : Exp) → ExpAt s tr (i + 4) u → Emits (exp_code ρ u n) n ys zs (Err e)) → (t : Exp) → ExpAt s tr i t → Emits (exp_code ρ t n) n ys zs' (Err e)
    unfolding exp_code
    chain_stop zs' {e} h t a = of (exp_by (node_head chain_kind) k a) a
      where
        of : {u : Exp} → ExpIs (node_head chain_kind) u → ExpAt s tr i u → Emits (exp_code ρ u n) n ys zs' (Err e)
        of (is_chain x c) y = stop (exp_code ρ x) (chain_code ρ c) (h x (at_first x c y))

    pub chain_end : {m : ℕ} {ws : List ℕ} {q : Result ℕ Refusal} → ((u : Exp) → ExpAt s tr (i + 4) u → Emits (exp_code ρ u n) n ys zs (Ok m)) → n ≤ max_code → ((w : Exp × Chain) → ExpAt s tr i (chain w.0 w.1) → Emits (chain_code ρ w.1 m) m zs ws q)
        → (t : Exp) → ExpAt s tr i t → Emits (exp_code ρ t n) n ys ws q
    unfolding exp_code
    chain_end {m} {ws} {q} h b l t a = of (exp_by (node_head chain_kind) k a) a
      where
        of : {u : Exp} → ExpIs (node_head chain_kind) u → ExpAt s tr i u → Emits (exp_code ρ u n) n ys ws q
        of (is_chain x c) y = then (exp_code ρ x) (chain_code ρ c) b (h x (at_first x c y)) (l (x, c) y)

  -- an operand with its operator, as the loop has it
  pub link_ens : {j m : ℕ} {ys zs : List ℕ} {r : Result ℕ Refusal} {v : Oper} → ((a : Arith) → get_or tr (j + 1) 0 ≡ arith_no a → v ≡ arithmetic a) → ((t : Exp) → ExpAt s tr j t → Emits ((exp_code ρ t ⨾ emit_oper v) m) m ys zs r)
      → (p : Arith × Exp) → LinkAt s tr j p → Emits ((exp_code ρ p.1 ⨾ emit_oper (arithmetic p.0)) m) m ys zs r
  link_ens {j} {m} {ys} {zs} {r} e h p a = subst (λ (x : Oper). Emits ((exp_code ρ p.1 ⨾ emit_oper x) m) m ys zs r) (e p.0 a.0) (h p.1 a.1)

-- conditions
module _ {s tr : List ℕ} {i : ℕ} (ρ : Env) {n : ℕ} {ys zs : List ℕ} where
  pub cond_odd : {r : Result ℕ Refusal} → get_or tr i 0 ≡ node_no odd_kind → ((u : Exp) → ExpAt s tr (i + 4) u → Emits ((exp_code ρ u ⨾ emit_oper odd) n) n ys zs r) → (t : Cond) → CondAt s tr i t → Emits (cond_code ρ t n) n ys zs r
  unfolding cond_code
  cond_odd {r} k h t a = of (cond_is (node_head odd_kind) tr i t k a.stands) a
    where
      of : {u : Cond} → CondIs (node_head odd_kind) u → CondAt s tr i u → Emits (cond_code ρ u n) n ys zs r
      of (is_oddness e) x = h e (at_odd e x)

  module _ (k : get_or tr i 0 ≡ node_no odd_kind → ⊥) where
    pub cond_stop : (zs' : List ℕ) {e : Refusal} → ((u : Exp) → ExpAt s tr (i + 4) u → Emits (exp_code ρ u n) n ys zs (Err e)) → (t : Cond) → CondAt s tr i t → Emits (cond_code ρ t n) n ys zs' (Err e)
    unfolding cond_code
    cond_stop zs' {e} h t a = of (is_rel_lem k t a) a
      where
        of : {u : Cond} → CondIs (node_head comparison_kind) u → CondAt s tr i u → Emits (cond_code ρ u n) n ys zs' (Err e)
        of (is_rel o x y) v = stop (exp_code ρ x) (exp_code ρ y ⨾ emit_oper (comparison o)) (h x (at_left o x y v))

    pub cond_rel : {j m : ℕ} {ws : List ℕ} {q : Result ℕ Refusal} {v : Oper} → ((u : Exp) → ExpAt s tr (i + 4) u → Emits (exp_code ρ u n) n ys zs (Ok m)) → n ≤ max_code → After tr (i + 4) j
        → ((o : Compare) → get_or tr (i + 1) 0 ≡ compare_no o → v ≡ comparison o) → ((u : Exp) → ExpAt s tr j u → Emits ((exp_code ρ u ⨾ emit_oper v) m) m zs ws q) → (t : Cond) → CondAt s tr i t → Emits (cond_code ρ t n) n ys ws q
    unfolding cond_code
    cond_rel {j} {m} {ws} {q} {v} h b f e g t a = of (is_rel_lem k t a) a
      where
        of : {u : Cond} → CondIs (node_head comparison_kind) u → CondAt s tr i u → Emits (cond_code ρ u n) n ys ws q
        of (is_rel o x y) w =
            then (exp_code ρ x) (exp_code ρ y ⨾ emit_oper (comparison o)) b (h x (at_left o x y w))
            (subst (λ (z : Oper). Emits ((exp_code ρ y ⨾ emit_oper z) m) m zs ws q) (e o (cond_head_lem tr i (rel o x y) w.stands).op) (g y (at_right o x y f w)))

-- Operator chains: a first operand, and then operators with their operands. One set of laws for sums and for products.
use Rattle.std.specs.Prelude.{Ok, Err, Option, Some, None}
use mathlib.Core.Path.{◌≡◌, refl, ap, ◌∙◌}
use mathlib.Core.List.{List}
use mathlib.Core.Logic.{◌⊎◌, inl, inr}
use Prim.Native.Nat.{ℕ, suc, ◌+◌, ◌*◌, ◌≤◌}
use native.Mathlib.Omega.{arith}
use lib.ListN.{length}
use Rattle.numbers.specs.declared.arithmetic.Arith.{Arith as Operator}
use Rattle.numbers.specs.Answers.{arith_of}
use Rattle.numbers.specs.Arithmetic.{Arith}
use Rattle.numbers.specs.declared.refusal.Refusal.{Refusal}
use Rattle.numbers.specs.Refusals.{number_of}
use Rattle.lexer.specs.Spelling.{token_of}
use Rattle.lexer.specs.Marks.{Mark}
use Rattle.lexer.specs.Cursor.{Cursor as Place, got, refuse, Reader}
use Rattle.lexer.specs.Stands.{Stands, taken, past, left}
use Rattle.lexer.specs.declared.token.Token.{Token}
use Rattle.lexer.specs.declared.cursor.Cursor.{Cursor}
use Rattle.tree.specs.Tree.{Exp, chain, Chain, end, link}
use Rattle.tree.specs.Layout.{Node as Knot, member, node_no, chain_kind, count}
use Rattle.tree.specs.Nodes.{arith_no, exp_node, chain_nodes}
use Rattle.tree.specs.Writing.{join}
use Rattle.parser.specs.Answer.{Answer, Node}
use Rattle.grammar.specs.Reader.{then, pure, if_next}
use Rattle.grammar.specs.Grammar.{chained}
use Rattle.parser.specs.Parts.{only, operand}
use Rattle.parser.specs.Written.{Seals}
use Rattle.parser.specs.See.{Seen, Saw, Sees, Joins}
use Rattle.parser.specs.Meets.{Safe, Made, Means, Reads}
use Rattle.parser.proofs.Seeing.{saw, no_look, next_is, next_is_not}
use Rattle.parser.proofs.Writing.{wrote_none, wrote_more}
use Rattle.parser.proofs.Answers.{Refuses, by_suc, grew, made}
use Rattle.parser.proofs.Choices.{next_refused}
use Rattle.parser.proofs.Loops.{On, Turn, Going, Ended}

-- a link's nodes are its operand's and those after it
linked_nodes : (a : Arith) (op : ℕ) → op ≡ arith_no a → (e : Exp) (l : Chain) → chain_nodes (link a e l) ≡ join (operand op e) (chain_nodes l)
unfolding chain_nodes join
linked_nodes a op q e l = rw q

one_more_lem : (t : Knot) → 0 + count (only t) ≡ 1
unfolding count
one_more_lem t = refl

-- f reads a first operand and then the rest: operators, each with an operand
pub record Chaining (src : List ℕ) (f first item : ℕ → Reader Exp) (rest : ℕ → Reader Chain) : Type 0 where
  pub ma : Mark
  pub mb : Mark
  pub aa : Arith
  pub ab : Arith
  pub whole : (n : ℕ) (k : Place) → f (suc n) k ≡ then (λ e c. then (λ l k. got (chain e l) k) (rest n c)) (first n k)
  pub again : (n : ℕ) (k : Place) → rest (suc n) k ≡ if_next src ma (chained (item n) (rest n) (link aa)) (if_next src mb (chained (item n) (rest n) (link ab)) (pure end)) k

-- whether a token is an operator
pub joins_some : (ma mb : Mark) (aa ab : Arith) {t : Token} {v : Option Operator} {o : Operator} → Joins ma aa mb ab t v → v ≡ Some o
    → ((t ≡ token_of ma) × (arith_of o ≡ aa)) ⊎ ((t ≡ token_of ma → ⊥) × ((t ≡ token_of mb) × (arith_of o ≡ ab)))
unfolding Joins
joins_some ma mb aa ab j e = rw e at j

pub joins_none : (ma mb : Mark) (aa ab : Arith) {t : Token} {v : Option Operator} → Joins ma aa mb ab t v → v ≡ None → (t ≡ token_of ma → ⊥) × (t ≡ token_of mb → ⊥)
unfolding Joins
joins_none ma mb aa ab j e = rw e at j

module _ {src : List ℕ} {f first item : ℕ → Reader Exp} {rest : ℕ → Reader Chain} (ch : Chaining src f first item rest) where
  -- the token after an operand is refused
  pub chain_stop : {c : Cursor} {v : Seen} {n : Refusal} → Sees src c v → v ≡ Err n → Refuses src rest (8 * left c + 1) c (number_of n)
  chain_stop {c} {v} {n} h e =
      by_suc (λ x. (k : Place) → Stands src c k → rest x k ≡ refuse (number_of n)) (8 * left c + 1) (omega arith) (λ x l k s. ch.again x k ∙ next_refused src ch.ma _ _ k (no_look h e k s))

  module _ {c d : Cursor} {v : Seen} (h : Sees src c v) (at : v ≡ Ok d) where
    -- no operator: the chain's end
    pub chain_end : (d.token ≡ token_of ch.ma → ⊥) × (d.token ≡ token_of ch.mb → ⊥) → {ys : List ℕ} {e : ℕ} → e ≤ length ys
        → (n : ℕ) → 8 * left c + 1 ≤ n → (k : Place) → Stands src c k → Ended rest chain_nodes src 1 ys e 0 ys e 0 d (rest n k)
    unfolding chain_nodes count
    chain_end o {ys} {e} fits =
        by_suc (λ x. (k : Place) → Stands src c k → Ended rest chain_nodes src 1 ys e 0 ys e 0 d (rest x k)) (8 * left c + 1) (omega arith)
        (λ x l k s.
        let p = (saw h at k s).1 in
        record {
          value = end;
          at = k;
          is = ch.again x k ∙ next_is_not p ch.ma _ _ o.0 ∙ next_is_not p ch.mb _ _ o.1;
          stands = p.stands;
          wrote = wrote_none fits;
          counts = refl;
        })

    -- an operator, with the number op, and after it an operand
    module _ {v' : Option Operator} (joins : Joins ch.ma ch.aa ch.mb ch.ab d.token v') {o : Operator} (some : v' ≡ Some o) {op : ℕ} (number : op ≡ arith_no (arith_of o)) {t : Cursor} (took : t ≡ taken d) where
      -- which operator it is
      pub record Linked (n : ℕ) (k : Place) : Type 0 where
        pub sign : Arith
        pub no : op ≡ arith_no sign
        pub is : rest (suc n) k ≡ chained (item n) (rest n) (link sign) (past src k)

      linked : (n : ℕ) (k : Place) → Stands src c k → Linked n k
      linked n k s = go (joins_some _ _ _ _ joins some)
        where
          p : Saw src c d k (saw h at k s).0
          p = (saw h at k s).1

          go : ((d.token ≡ token_of ch.ma) × (arith_of o ≡ ch.aa)) ⊎ ((d.token ≡ token_of ch.ma → ⊥) × ((d.token ≡ token_of ch.mb) × (arith_of o ≡ ch.ab))) → Linked n k
          go (inl (e, q)) = record { sign = ch.aa; no = number ∙ ap arith_no q; is = ch.again n k ∙ next_is p ch.ma _ _ e }
          go (inr (x, (e, q))) = record { sign = ch.ab; no = number ∙ ap arith_no q; is = ch.again n k ∙ next_is_not p ch.ma _ _ x ∙ next_is p ch.mb _ _ e }

      -- its operand is refused
      pub chain_operand : {m w : ℕ} → m ≤ 8 → Refuses src item (8 * left t + m) t w → Refuses src rest (8 * left c + 1) c w
      chain_operand {m} {w} le z =
          by_suc (λ x. (k : Place) → Stands src c k → rest x k ≡ refuse w) (8 * left c + 1) (omega arith)
          (λ x l k s.
          let p = (saw h at k s).1 in
          let j = linked x k s in
          let y : item x (past src k) ≡ refuse w = z x (rw took (omega (arith, p.fewer))) (past src k) (rw took p.beyond) in
          j.is ∙ ap (then _) y)

      -- its operand is there
      pub chain_turn : {m spare : ℕ} → m ≤ 8 → {ys zs : List ℕ} {e g : ℕ} {q : Answer} {d' : Cursor} → Reads (operand op) src ys e zs item (8 * left t + m) spare 0 t q → q ≡ Node g d' → suc (left t) ≡ left c
          → Turn rest chain_nodes src 1 ys e c zs g d'
      chain_turn {m} {spare} le {ys} {zs} {e} {g} {q} {d'} r n fw =
          let w = grew r n in
          record {
            above = w.above;
            fewer = omega (arith, w.fewer);
            room = omega (arith, w.room);
            turn = by_suc (λ x. (k : Place) → Stands src c k → On rest chain_nodes src 1 ys e 0 zs g 1 d' (rest x k)) (8 * left c + 1) (omega arith)
                (λ x l k s.
                let p = (saw h at k s).1 in
                let j = linked x k s in
                let b = made r n x (omega arith) (past src k) (rw took p.beyond) in
                record {
                  fuel = x;
                  enough = omega (arith, w.fewer);
                  at = b.at;
                  stands = b.stands;
                  before = link j.sign b.value;
                  ms = operand op b.value;
                  is = j.is ∙ ap (then _) b.is;
                  joins = linked_nodes j.sign op j.no b.value;
                  wrote = b.wrote;
                  counts = one_more_lem _;
                });
          }

  -- `m` and `spare` are those of the first operand
  module _ (m spare : ℕ) (some : 1 ≤ m) where
    -- the first operand is refused
    pub chain_first : {w : ℕ} {c : Cursor} → Refuses src first (8 * left c + m) c w → Refuses src f (8 * left c + (m + 1)) c w
    chain_first {w} {c} z = by_suc (λ x. (k : Place) → Stands src c k → f x k ≡ refuse w) (8 * left c + (m + 1)) (omega arith) (λ x l k s. ch.whole x k ∙ ap (then _) (z x (omega arith) k s))

    -- the first operand is there, and lies before what the loop reads
    module _ (u : ℕ) {xs ys : List ℕ} {i : ℕ} {cur start : Cursor} {r : Answer} (h : Reads (operand 0) src xs (u + 4) ys first (8 * left cur + m) spare 0 cur r) (q : r ≡ Node i start) where
      -- the rest is refused
      pub chain_rest : {w : ℕ} → Refuses src rest (8 * left start + 1) start w → Refuses src f (8 * left cur + (m + 1)) cur w
      chain_rest {w} z =
          by_suc (λ x. (k : Place) → Stands src cur k → f x k ≡ refuse w) (8 * left cur + (m + 1)) (omega arith)
          (λ x l k s.
          let g = grew h q in
          let b = made h q x (omega arith) k s in
          ch.whole x k ∙ ap (then _) b.is ∙ ap (then _) (z x (omega (arith, g.fewer)) b.at b.stands))

      -- the whole chain
      pub chain_done : {op n end : ℕ} {zs ws : List ℕ} {c d : Cursor} → Going rest chain_nodes src 1 ys i 1 start zs end n c → left d ≡ left c
          → ((n' : ℕ) → 8 * left start + 1 ≤ n' → (k : Place) → Stands src start k → Ended rest chain_nodes src 1 ys i 1 zs end n d (rest n' k))
          → Seals u (node_no chain_kind) op n end zs ws → (less : ℕ) → less + 4 ≤ spare → Reads (operand op) src xs u ws f (8 * left cur + (m + 1)) less 0 cur (Node end d)
      unfolding Safe Means join exp_node count
      chain_done {op} {n} {end} {zs} {ws} {c} {d} z i e t less l =
          let g = grew h q in
          record {
            safe = record { above = omega (arith, g.above, z.above); fewer = omega (arith, g.fewer, z.fewer); room = omega (arith, g.room, z.room) };
            means = by_suc (λ x. (k : Place) → Stands src cur k → Made (λ a. a) (λ v. ⊥) (operand op) src xs u ws end d (f x k)) (8 * left cur + (m + 1)) (omega arith)
                (λ x l k s.
                let b = made h q x (omega arith) k s in
                let o = e x (omega (arith, g.fewer)) b.at b.stands in
                record {
                  value = chain b.value o.value;
                  at = o.at;
                  is = ch.whole x k ∙ ap (then _) b.is ∙ ap (then _) o.is;
                  stands = o.stands;
                  wrote = t.sealed xs chain_kind (member (exp_node 0 b.value) (chain_nodes o.value)) refl (omega (arith, o.counts)) (wrote_more b.wrote o.wrote);
                });
          }

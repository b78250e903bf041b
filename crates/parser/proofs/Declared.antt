-- Constants, variables and arguments.
use Rattle.std.specs.Prelude.{Ok, Err}
use mathlib.Core.Path.{◌≡◌, refl, ap, ◌∙◌}
use mathlib.Core.List.{List, [], ◌∷◌, ◌++◌}
use Prim.Native.Nat.{ℕ, suc, ◌+◌, ◌*◌, ◌≤◌}
use native.Mathlib.Omega.{arith}
use lib.ListN.{length, take as front}
use Rattle.numbers.specs.declared.refusal.Refusal.{Refusal}
use Rattle.numbers.specs.Refusals.{number_of}
use Rattle.lexer.specs.Marks.{Mark, const_word, var_word, becomes_sign, close_sign, semicolon_sign}
use Rattle.lexer.specs.Cursor.{Cursor as Place, Reader}
use Rattle.lexer.specs.Spelling.{token_of}
use Rattle.lexer.specs.Stands.{Stands, taken, past, left}
use Rattle.lexer.specs.declared.cursor.Cursor.{Cursor}
use Rattle.tree.specs.Layout.{NodeKind, Node as Knot, no_more, branch, literal, node_no, constant_kind, list_kind, count, size, sizes, enc, encs}
use Rattle.tree.specs.Nodes.{name_node, names_node, const_node, consts_node, list_nodes}
use Rattle.tree.specs.Writing.{join}
use Rattle.parser.specs.Answer.{Answer, Node}
use Rattle.grammar.specs.Reader.{then, pure, if_next, want_name, want_number}
use Rattle.grammar.specs.Grammar.{const_def, const_part, var_part, arg_part}
use Rattle.parser.specs.Parts.{only}
use Rattle.parser.specs.Lists.{closed}
use Rattle.parser.specs.Blocks.{decls, decls_nodes}
use Rattle.parser.specs.See.{Seen, Sees, Wants}
use Rattle.parser.specs.Written.{Wrote, Seals}
use Rattle.parser.specs.Meets.{Safe, Means, Reads}
use Rattle.parser.proofs.Seeing.{saw, no_look, took, no_mark, next_is, next_is_not}
use Rattle.parser.proofs.Writing.{wrote_one, wrote_more}
use Rattle.parser.proofs.Answers.{Refuses, grew, made, Moved}
use Rattle.parser.proofs.Choices.{next_refused}
use Rattle.parser.proofs.Sequences.{Sequence, Joins}

-- a node without members
pub wrote_empty : {xs ys : List ℕ} {u e : ℕ} (k : NodeKind) → u ≤ length xs → e ≡ u + 4 → front (u + 4) ys ≡ front u xs ++ (node_no k ∷ 0 ∷ 0 ∷ 0 ∷ []) → Wrote xs u ys e (only (branch k 0 no_more))
unfolding size sizes enc encs count
wrote_empty k h q l = wrote_one (branch k 0 no_more) h (omega arith) (rw q l)

-- name `:=` number
module _ {src : List ℕ} where
  pub const_refused : {c : Cursor} {m w : ℕ} → Refuses src (λ n. want_name src) 0 c w → Refuses src (λ n. const_def src) m c w
  unfolding const_def
  const_refused z n l k s = ap (then _) (z 0 (omega arith) k s)

  module _ (u : ℕ) {xs ys : List ℕ} {e : ℕ} {c d : Cursor} {r : Answer} (h : Reads (λ n. only (name_node n)) src xs (u + 4) ys (λ n. want_name src) 0 8 0 c r) (q : r ≡ Node e d) {v : Seen} (wants : Wants src becomes_sign d v) where
    pub const_mark : {m : ℕ} {n : Refusal} → v ≡ Err n → Refuses src (λ n. const_def src) m c (number_of n)
    unfolding const_def
    const_mark i n l k s = let b = made h q 0 (omega arith) k s in ap (then _) b.is ∙ ap (then _) (no_mark wants i b.at b.stands)

    module _ {t : Cursor} (at : v ≡ Ok t) where
      pub const_number : {m w : ℕ} → Refuses src (λ n. want_number src) 0 t w → Refuses src (λ n. const_def src) m c w
      unfolding const_def
      const_number z n l k s =
          let b = made h q 0 (omega arith) k s in
          let o = took wants at b.at b.stands in
          ap (then _) b.is ∙ ap (then _) o.wants ∙ ap (then _) (z 0 (omega arith) (past src b.at) o.stands)

      pub const_done : {zs ws : List ℕ} {end : ℕ} {f : Cursor} {p : Answer} → Reads (λ v. only (literal 0 v)) src ys e zs (λ n. want_number src) 0 8 0 t p → p ≡ Node end f → suc (left t) ≡ left d
          → Seals u (node_no constant_kind) 0 2 end zs ws → Reads (λ c. only (const_node c)) src xs u ws (λ n. const_def src) 0 8 0 c (Node end f)
      unfolding const_def Safe Means join count
      const_done {zs} {ws} {end} {f} {p} o i fw z =
          let g = grew h q in
          let j = grew o i in
          record {
            safe = record { above = omega (arith, g.above, j.above); fewer = omega (arith, g.fewer, j.fewer); room = omega (arith, g.room, j.room) };
            means = λ n l k s.
                let b = made h q 0 (omega arith) k s in
                let w = took wants at b.at b.stands in
                let y = made o i 0 (omega arith) (past src b.at) w.stands in
                record {
                  value = record { id = b.value; value = y.value };
                  at = y.at;
                  is = ap (then _) b.is ∙ ap (then _) w.wants ∙ ap (then _) y.is;
                  stands = y.stands;
                  wrote = z.sealed xs constant_kind _ refl refl (wrote_more b.wrote y.wrote);
                };
          }

-- a part that the mark m begins, or that is not there
pub record Part {A : Type 0} (src : List ℕ) (m : Mark) (more part : ℕ → Reader (List A)) : Type 0 where
  pub whole : (n : ℕ) (k : Place) → part n k ≡ if_next src m (more n) (pure []) k

module _ {A : Type 0} {src : List ℕ} {m : Mark} {more part : ℕ → Reader (List A)} (node : A → Knot) (is : Part src m more part) where
  pub part_stop : {c : Cursor} {v : Seen} {n : Refusal} → Sees src c v → v ≡ Err n → Refuses src part (8 * left c + 1) c (number_of n)
  part_stop h e n l k s = is.whole n k ∙ next_refused src m _ _ k (no_look h e k s)

  module _ {c d : Cursor} {v : Seen} (h : Sees src c v) (at : v ≡ Ok d) where
    pub part_there : {t : Cursor} → t ≡ taken d → d.token ≡ token_of m → (n : ℕ) → 8 * left c + 1 ≤ n → (k : Place) → Stands src c k → Moved src more (8 * left t + 1) t (part n k)
    part_there {t} e i n l k s =
        let p = (saw h at k s).1 in
        let f : suc (left t) ≡ left c = rw e p.fewer in
        record { fuel = n; enough = omega arith; at = past src k; stands = rw e p.beyond; is = is.whole n k ∙ next_is p m _ _ i }

    pub part_none : {xs ys : List ℕ} {u e : ℕ} → (d.token ≡ token_of m → ⊥) → left d ≡ left c → u ≤ length xs → e ≡ u + 4 → front (u + 4) ys ≡ front u xs ++ (node_no list_kind ∷ 0 ∷ 0 ∷ 0 ∷ [])
        → Reads (λ l. only (branch list_kind 0 (list_nodes node l))) src xs u ys part (8 * left c + 1) 0 4 c (Node e d)
    unfolding Safe Means list_nodes
    part_none o f fits e l = record {
      safe = record { above = omega arith; fewer = omega arith; room = omega arith };
      means = λ n b k s.
          let p = (saw h at k s).1 in
          record { value = []; at = k; is = is.whole n k ∙ next_is_not p m _ _ o; stands = p.stands; wrote = wrote_empty list_kind fits e l };
    }

pub const_whole : (src : List ℕ) → Part src const_word (closed src semicolon_sign (const_def src)) (λ n. const_part src n)
unfolding const_part
const_whole src = record { whole = λ n k. refl }

pub var_whole : (src : List ℕ) → Part src var_word (closed src semicolon_sign (want_name src)) (λ n. var_part src n)
unfolding var_part
var_whole src = record { whole = λ n k. refl }

-- constants and then variables
pub decls_whole : (src : List ℕ) → Sequence (λ n. const_part src n) (λ n. var_part src n) (λ n. decls src n) (λ cs vs. record { consts = cs; vars = vs })
unfolding decls
decls_whole src = record { whole = λ n k. refl }

pub decls_join : Joins (λ cs. only (consts_node cs)) (λ vs. only (names_node vs)) decls_nodes (λ cs vs. record { consts = cs; vars = vs })
unfolding decls_nodes join
decls_join = record { joins = λ cs vs. refl }

-- [names] `)`
module _ {src : List ℕ} where
  pub args_stop : {c : Cursor} {v : Seen} {n : Refusal} → Sees src c v → v ≡ Err n → Refuses src (λ n. arg_part src n) (8 * left c + 1) c (number_of n)
  unfolding arg_part
  args_stop h e n l k s = next_refused src close_sign _ _ k (no_look h e k s)

  module _ {c d : Cursor} {v : Seen} (h : Sees src c v) (at : v ≡ Ok d) where
    pub args_there : (d.token ≡ token_of close_sign → ⊥) → (n : ℕ) → 8 * left c + 1 ≤ n → (k : Place) → Stands src c k → Moved src (closed src close_sign (want_name src)) (8 * left d + 1) d (arg_part src n k)
    unfolding arg_part
    args_there i n l k s =
        let p = (saw h at k s).1 in
        record { fuel = n; enough = omega (arith, p.same); at = k; stands = p.stands; is = next_is_not p close_sign _ _ i }

    pub args_none : {xs ys : List ℕ} {u e : ℕ} {t : Cursor} → t ≡ taken d → d.token ≡ token_of close_sign → suc (left t) ≡ left c → u ≤ length xs → e ≡ u + 4 → front (u + 4) ys ≡ front u xs ++ (node_no list_kind ∷ 0 ∷ 0 ∷ 0 ∷ [])
        → Reads (λ ns. only (names_node ns)) src xs u ys (λ n. arg_part src n) (8 * left c + 1) 8 0 c (Node e t)
    unfolding arg_part Safe Means list_nodes
    args_none {xs} {ys} {u} {e} {t} z i f fits q l = record {
      safe = record { above = omega arith; fewer = omega arith; room = omega arith };
      means = λ n b k s.
          let p = (saw h at k s).1 in
          record { value = []; at = past src k; is = next_is p close_sign _ _ i; stands = rw z p.beyond; wrote = wrote_empty list_kind fits q l };
    }

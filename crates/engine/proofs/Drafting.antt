-- What drafting leaves, from what the parser and the translator leave.
use mathlib.Core.Path.{◌≡◌, sym, ap, ◌∙◌}
use mathlib.Core.List.{List, ◌++◌}
use Prim.Native.Nat.{ℕ, ◌≤◌}
use lib.ListN.{length, drop, take-append-drop}
use Rattle.std.specs.Prelude.{Result, Ok, Err}
use Rattle.numbers.specs.declared.refusal.Refusal.{Refusal}
use Rattle.numbers.specs.Refusals.{number_of}
use Rattle.numbers.specs.Limits.{tree_places}
use Rattle.tree.specs.Tree.{Block}
use Rattle.grammar.specs.Grammar.{tree}
use Rattle.grammar.specs.Source.{reading}
use Rattle.parser.specs.Entry.{Answers, answers, Parses}
use Rattle.grammar.proofs.Names.{parse_named}
use Rattle.translator.specs.declared.Translated.{Translated}
use Rattle.translator.specs.Blocks.{BlockAt}
use Rattle.translator.specs.Result.{Translates, code, refusal as failure}
use Rattle.outcomes.specs.Accepted.{tree_read, unread, untranslated}
use Rattle.engine.specs.Entries.{Drafting, ready, refusal}

-- the parser's tree, as the translator asks for it
pub record Standing (src tr : List ℕ) : Type 0 where
  pub block : Block
  pub read : reading src ≡ tree block
  pub at : BlockAt src tr block

pub standing : {src xs tr : List ℕ} {r : Result ℕ Refusal} {end : ℕ} → tree_places ≤ length xs → Parses src xs tr r → r ≡ Ok end → Standing src tr
unfolding Answers
standing {src} {xs} {tr} {r} {end} h p e =
    let (b, (f, t)) = rw e at (answers h p) in
    record {
      block = b;
      read = f;
      at = record {
        stands = record { rest = drop end tr; here = sym (take-append-drop end tr) ∙ ap (λ (l : List ℕ). l ++ drop end tr) t };
        named = parse_named src b (tree_read src b f);
      };
    }

-- the parser's refusal
pub passed_on : {src xs tr : List ℕ} {r : Result ℕ Refusal} {e : Refusal} (table draft : List ℕ) → tree_places ≤ length xs → Parses src xs tr r → r ≡ Err e → Drafting src tr table draft (Err e)
unfolding Answers
passed_on {src} {e = n} table draft h p e = refusal (unread src (number_of n) (rw e at (answers h p)))

-- what the translator left
pub drafting : {src tr : List ℕ} {t : Result Translated Refusal} (table draft : List ℕ) → (s : Standing src tr) → Translates s.block src table draft t → Drafting src tr table draft t
drafting table draft s (code w) = ready (record { block = s.block; read = s.read; stands = s.at; whole = w })
drafting table draft s (failure e) = refusal (untranslated _ s.block _ s.read e)

-- The proof of `enter`.
use mathlib.Core.Path.{sym, ◌∙◌}
use Rattle.symbols.proofs.Adding.{fresh_not, fresh_on}
use Rattle.symbols.proofs.enter.Goals as goal

pub declared-requires : goal.declared-requires
declared-requires c =
    record {
      sound = c.requires.sound;
      len_in_bounds = c.requires.named.lies;
      scoped = c.requires.scoped;
    }

pub returns-then-declared : goal.returns-then-declared
returns-then-declared c = fresh_not _ _ _ _ _ _ c.declared.ensures c.if-declared.true

pub add-requires : goal.add-requires
add-requires c =
    record {
      declares = c.requires;
      new_procedure = λ k. sym c.declared.ensures ∙ c.if-declared.false;
    }

pub returns : goal.returns
returns c = fresh_on _ _ _ _ _ _ c.declared.ensures _ c.if-declared.false c.add.ensures

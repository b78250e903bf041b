-- Lists with commas up to the mark after them: their definition, and what the reader of that mark promises.
use Rattle.std.specs.Prelude.{◌≡◌, List, ℕ}
use Rattle.lexer.specs.Marks.{Mark}
use Rattle.lexer.specs.Cursor.{Cursor as Place, refuse, Reader}
use Rattle.lexer.specs.Stands.{Stands}
use Rattle.lexer.specs.declared.cursor.Cursor.{Cursor}
use Rattle.parser.specs.Answer.{Answer, Node, Nothing, Refused}
use Rattle.grammar.specs.Reader.{pure, ◌>>=◌, ◌>>◌, want, commas}
use Rattle.parser.specs.See.{Took}
use Rattle.parser.specs.Written.{Seals}

-- item {`,` item} and the mark m
abbrev pub closed : {A : Type 0} → List ℕ → Mark → Reader A → ℕ → Reader (List A)
closed src m item f = commas src f item >>= λ l. want src m >> pure l

-- the mark m after a list is there, and its node was sealed; or it is not
unfoldable pub Ended : List ℕ → Mark → (u kind n end : ℕ) → (ys zs : List ℕ) → Cursor → Answer → Type 0
Ended src m u kind n end ys zs c (Node e d) = (e ≡ end) × (Seals u kind 0 n end ys zs × ((k : Place) → Stands src c k → Took src m c d k))
Ended src m u kind n end ys zs c (Nothing d) = ⊥
Ended src m u kind n end ys zs c (Refused w) = (k : Place) → Stands src c k → want src m k ≡ refuse w

pub record Ends (src : List ℕ) (m : Mark) (u kind n end : ℕ) (ys zs : List ℕ) (c : Cursor) (r : Answer) : Type 0 where
  pub ended : Ended src m u kind n end ys zs c r

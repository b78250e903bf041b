-- The words of the command line: what a word asks for is looked up by its spelling.
use Rattle.std.specs.Prelude.{true, false, ◌&&◌, List, ℕ, eqb, get_or}
use Rattle.std.proofs.Math.Option.{Option}
use Prim.Native.Char.{code}
use Prim.Native.String.{String}
use Rattle.std.specs.Str.{bytes_eq}
use Rattle.numbers.specs.Bytes.{bytes}
use Rattle.numbers.specs.Line.{magnitude}
use Rattle.desk.specs.declared.words.Command.{Command}
use Rattle.desk.specs.declared.words.Command.TheVariants as command
use Rattle.desk.specs.declared.words.Choice.{Choice}
use Rattle.desk.specs.declared.words.Choice.TheVariants as choice

-- the greatest count: a step budget is within u32
abbrev pub most_count : ℕ
most_count = 4294967295

-- a spelling and what it asks for, or else another answer
unfoldable pub spelled : {A : Type 0} → List ℕ → String → A → A → A
spelled w s a b = elim (bytes_eq w (bytes s)) [ true ↦ a | false ↦ b ]

-- the first word
unfoldable pub command_of : List ℕ → Command
command_of w =
    spelled w "run" command.Run
    (spelled w "walk" command.Walk
    (spelled w "compile" command.Compile
    (spelled w "check" command.Check
    (spelled w "both" command.Both
    (spelled w "numbers" command.Numbers
    (spelled w "--help" command.Help command.Unknown))))))

-- a word that starts with two minuses is an option, and any other a sheet's name
unfoldable pub named : List ℕ → Choice
named w = elim (eqb (get_or w 0 0) (code "-") && eqb (get_or w 1 0) (code "-")) [ true ↦ choice.Unknown | false ↦ choice.Sheet ]

-- a later word
unfoldable pub choice_of : List ℕ → Choice
choice_of w = spelled w "--help" choice.Help (spelled w "--steps" choice.Steps (spelled w "--budget" choice.Budget (named w)))

-- the count that a word means: digits alone, up to 4,294,967,295
unfoldable pub count_of : List ℕ → Option ℕ
count_of w = magnitude most_count w

-- A page: a lent list whose first bytes are text. What is put on it goes behind them, as far as there is room.
use Rattle.std.specs.Prelude.{◌≡◌, List, [], ◌++◌, ℕ, ◌-◌, ℤ, length, take, replicate}
use Prim.Native.Char.{code}
use Rattle.numbers.specs.Screen.{decimal_of, decimal, many_digits}
use Rattle.desk.specs.declared.page.Page.{Page}

-- the text so far
abbrev pub written : Page → List ℕ
written p = take p.len p.room.now

-- a page over the same room, as long as before
abbrev pub SameRoom : Page → Page → Type 0
SameRoom before after = (length after.room.now ≡ length before.room.now) × (after.room.ghost_name ≡ before.room.ghost_name)

-- a text was put behind that of the page, as far as there is room, in the same room
pub record Put (text : List ℕ) (before after : Page) : Type 0 where
  pub holds : written after ≡ take (length before.room.now) (written before ++ text)
  pub kept : length after.room.now ≡ length before.room.now
  pub same : after.room.ghost_name ≡ before.room.ghost_name

-- a count in decimal
unfoldable pub count : ℕ → List ℕ
count n = decimal_of many_digits n []

-- a number in decimal, a minus in front where it is negative
unfoldable pub number : ℤ → List ℕ
number z = decimal z

-- bytes that a column is wide
abbrev pub column : ℕ
column = 4

-- a count in decimal, with blanks in front up to four bytes
unfoldable pub right : ℕ → List ℕ
right n = replicate (column - length (count n)) (code " ") ++ count n

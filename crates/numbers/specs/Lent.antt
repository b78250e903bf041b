-- What is lent: whether a list is long enough, and what it holds afterwards.
use Rattle.std.specs.Prelude.{Bool, List, ◌++◌, ℕ, ◌-◌, leb, length, take, drop, replicate}

-- a lent list has so many places
abbrev pub holds : {A : Type 0} → ℕ → List A → Bool
holds n lent = leb n (length lent)

-- a lent list with new contents from its first place on: "Places past these sizes stay as they were"
abbrev pub onto : {A : Type 0} → List A → List A → List A
onto lent new = new ++ drop (length new) lent

-- so many places: the contents, and z beyond them
abbrev pub filled : {A : Type 0} → ℕ → A → List A → List A
filled n z l = l ++ replicate (n - length l) z

-- the places of a lent list before `from`, and z in those from there up to `to`
abbrev pub filling : {A : Type 0} → ℕ → ℕ → A → List A → List A
filling from to z lent = take from lent ++ replicate (to - from) z

-- How a tree lies in a list of numbers: four numbers for a node, then its members in reading order. No number says where the tree lies.
use Rattle.std.specs.Prelude.{◌≡◌, List, [], ◌∷◌, ◌++◌, ℕ, suc, ◌+◌, ◌/◌, ◌%◌, drop}

-- the kinds of nodes that have members
pub data NodeKind : Type 0 where
  neg_kind chain_kind brackets_kind odd_kind comparison_kind assign_kind if_kind while_kind call_kind body_kind read_kind write_kind : NodeKind
  constant_kind list_kind no_procedures_kind procedure_kind block_kind : NodeKind

-- a place of the list holds a number below this
abbrev pub half : ℕ
half = 4294967296

-- `word op offset length` is a name, `literal op value` a number, and `branch kind op members` any other node;
-- the op says how a member joins what stands before it
mutual
  pub data Node : Type 0 where
    word : ℕ → ℕ → ℕ → Node
    literal : ℕ → ℕ → Node
    branch : NodeKind → ℕ → Nodes → Node

  pub data Nodes : Type 0 where
    no_more : Nodes
    member : Node → Nodes → Nodes

-- the first number of a node: a name's
abbrev pub name_no : ℕ
name_no = 1

-- a number's
abbrev pub number_no : ℕ
number_no = 2

-- any other's
abbrev pub node_no : NodeKind → ℕ
node_no neg_kind = 3
node_no chain_kind = 4
node_no brackets_kind = 5
node_no odd_kind = 6
node_no comparison_kind = 7
node_no assign_kind = 8
node_no if_kind = 9
node_no while_kind = 10
node_no call_kind = 11
node_no body_kind = 12
node_no read_kind = 13
node_no write_kind = 14
node_no constant_kind = 15
node_no list_kind = 16
node_no no_procedures_kind = 17
node_no procedure_kind = 18
node_no block_kind = 19

-- how many members
unfoldable pub count : Nodes → ℕ
count no_more = 0
count (member t ts) = suc (count ts)

unfoldable mutual
  -- how many numbers a node takes
  pub size : Node → ℕ
  size (word o a n) = 4
  size (literal o v) = 4
  size (branch k o ts) = 4 + sizes ts

  -- and the members together
  pub sizes : Nodes → ℕ
  sizes no_more = 0
  sizes (member t ts) = size t + sizes ts

unfoldable mutual
  -- the numbers of a node
  pub enc : Node → List ℕ
  enc (word o a n) = name_no ∷ o ∷ a ∷ n ∷ []
  enc (literal o v) = number_no ∷ o ∷ v % half ∷ v / half ∷ []
  enc (branch k o ts) = node_no k ∷ o ∷ count ts ∷ sizes ts ∷ encs ts

  -- the numbers of some members
  pub encs : Nodes → List ℕ
  encs no_more = []
  encs (member t ts) = enc t ++ encs ts

-- the numbers w stand in xs from i on
pub record Stands (xs : List ℕ) (i : ℕ) (w : List ℕ) : Type 0 where
  pub rest : List ℕ
  pub here : drop i xs ≡ w ++ rest

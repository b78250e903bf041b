-- The kinds of nodes that the code names, by the first number of their nodes.
use Rattle.std.specs.Prelude.{◌≡◌, refl, List as Numbers, ℕ, ◌≤◌, get_or}
use Rattle.std.proofs.Common.{sym, ap, ◌∙◌, arith}
use Rattle.tree.specs.Layout.{Node, word, literal, branch, NodeKind, neg_kind, chain_kind, brackets_kind, odd_kind, comparison_kind, assign_kind, if_kind, while_kind, call_kind, body_kind, read_kind, write_kind, constant_kind, list_kind, no_procedures_kind, procedure_kind, block_kind, node_no, enc, Stands}
use Rattle.tree.specs.Reading.{node_least, word_at, literal_at, branch_at}
use Rattle.tree.specs.Heads.{Head, name_head, number_head, node_head, head_no, head_is}
use Rattle.tree.specs.declared.Kind.{Kind}
use Rattle.tree.specs.declared.Kind.TheVariants.{Name, Number, Neg, Chain, Brackets, Odd, Comparison, Assign, If, While, Call, Body, Read, Write, Constant, List, NoProcedures, Procedure, Block}

-- what a kind says of a node
abbrev pub head_of : Kind → Head
head_of Name = name_head
head_of Number = number_head
head_of Neg = node_head neg_kind
head_of Chain = node_head chain_kind
head_of Brackets = node_head brackets_kind
head_of Odd = node_head odd_kind
head_of Comparison = node_head comparison_kind
head_of Assign = node_head assign_kind
head_of If = node_head if_kind
head_of While = node_head while_kind
head_of Call = node_head call_kind
head_of Body = node_head body_kind
head_of Read = node_head read_kind
head_of Write = node_head write_kind
head_of Constant = node_head constant_kind
head_of List = node_head list_kind
head_of NoProcedures = node_head no_procedures_kind
head_of Procedure = node_head procedure_kind
head_of Block = node_head block_kind

-- the first number of its nodes
abbrev pub no_of : Kind → ℕ
no_of k = head_no (head_of k)

kind_by : Head → Kind
kind_by name_head = Name
kind_by number_head = Number
kind_by (node_head neg_kind) = Neg
kind_by (node_head chain_kind) = Chain
kind_by (node_head brackets_kind) = Brackets
kind_by (node_head odd_kind) = Odd
kind_by (node_head comparison_kind) = Comparison
kind_by (node_head assign_kind) = Assign
kind_by (node_head if_kind) = If
kind_by (node_head while_kind) = While
kind_by (node_head call_kind) = Call
kind_by (node_head body_kind) = Body
kind_by (node_head read_kind) = Read
kind_by (node_head write_kind) = Write
kind_by (node_head constant_kind) = Constant
kind_by (node_head list_kind) = List
kind_by (node_head no_procedures_kind) = NoProcedures
kind_by (node_head procedure_kind) = Procedure
kind_by (node_head block_kind) = Block

back : (k : Kind) → kind_by (head_of k) ≡ k
unfolding kind_by
back Name = refl
back Number = refl
back Neg = refl
back Chain = refl
back Brackets = refl
back Odd = refl
back Comparison = refl
back Assign = refl
back If = refl
back While = refl
back Call = refl
back Body = refl
back Read = refl
back Write = refl
back Constant = refl
back List = refl
back NoProcedures = refl
back Procedure = refl
back Block = refl

-- two kinds of one number are the same
pub kind_is : (a b : Kind) → no_of a ≡ no_of b → a ≡ b
kind_is a b e = sym (back a) ∙ ap kind_by (head_is (head_of a) (head_of b) e) ∙ back b

-- a node with members has a first number up to 19
node_most : (k : NodeKind) → node_no k ≤ 19
node_most neg_kind = omega arith
node_most chain_kind = omega arith
node_most brackets_kind = omega arith
node_most odd_kind = omega arith
node_most comparison_kind = omega arith
node_most assign_kind = omega arith
node_most if_kind = omega arith
node_most while_kind = omega arith
node_most call_kind = omega arith
node_most body_kind = omega arith
node_most read_kind = omega arith
node_most write_kind = omega arith
node_most constant_kind = omega arith
node_most list_kind = omega arith
node_most no_procedures_kind = omega arith
node_most procedure_kind = omega arith
node_most block_kind = omega arith

-- a node's first number is one of 1 to 19
pub first_is : (xs : Numbers ℕ) (i : ℕ) (t : Node) → Stands xs i (enc t) → (1 ≤ get_or xs i 0) × (get_or xs i 0 ≤ 19)
first_is xs i (word o a n) s = let f = (word_at xs i o a n s).at0 in (omega (arith, f), omega (arith, f))
first_is xs i (literal o v) s = let f = (literal_at xs i o v s).at0 in (omega (arith, f), omega (arith, f))
first_is xs i (branch k o ts) s = let f = (branch_at xs i k o ts s).at0 in (omega (arith, f, node_least k), omega (arith, f, node_most k))

-- a kind that is not a given one has another number
pub not_kind : {k : Kind} {n : ℕ} (a : Kind) → no_of k ≡ n → (k ≡ a → ⊥) → n ≡ no_of a → ⊥
not_kind {k} a e f g = f (kind_is k a (e ∙ g))

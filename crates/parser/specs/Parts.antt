-- Parts of the grammar's definitions that have a reader of their own.
use Rattle.std.specs.Prelude.{◌≡◌, List, ℕ}
use Rattle.std.specs.Prelude as O
use Rattle.std.proofs.Math.Option.{Option, none, some}
use Rattle.numbers.specs.declared.arithmetic.Compare.{Compare as Comparison}
use Rattle.numbers.specs.Answers.{compare_of}
use Rattle.numbers.specs.Arithmetic.{Compare}
use Rattle.lexer.specs.Marks.{plus_sign, minus_sign, close_sign}
use Rattle.tree.specs.Tree.{Exp, neg, brackets, Cond, is_odd}
use Rattle.tree.specs.Layout.{Node, Nodes, no_more, member}
use Rattle.tree.specs.Nodes.{exp_node, cond_node}
use Rattle.lexer.specs.Tokens.{Token as Word, token}
use Rattle.lexer.specs.Meaning.{sees, meaning}
use Rattle.lexer.specs.declared.token.Token.{Token}
use Rattle.lexer.specs.Cursor.{Reader, look}
use Rattle.grammar.specs.Reader.{pure, ◌>>=◌, ◌>>◌, want, if_next}
use Rattle.grammar.specs.Grammar.{exp, term, compare_with, comparison_of}

-- one node
abbrev pub only : Node → Nodes
only t = member t no_more

-- the node of an expression that joins what stands before it by op
abbrev pub operand : ℕ → Exp → Nodes
operand op e = only (exp_node op e)

-- the node of a condition
abbrev pub condition : Cond → Nodes
condition c = only (cond_node c)

-- the comparison that the code names, or none
abbrev pub comparing : O.Option Comparison → Option Compare
comparing (O.Some c) = some (compare_of c)
comparing O.None = none

-- what `comparison` answers for a token
pub record Compares (t : Token) (r : O.Option Comparison) : Type 0 where
  pub compares : (src : List ℕ) (w : Word) → meaning src t ≡ sees (token w) → comparison_of w ≡ comparing r

module _ (src : List ℕ) where
  -- the first term after a leading minus, which negates it whole
  unfoldable pub negated : ℕ → ℕ → Reader Exp
  negated f o = term src f o >>= λ e. pure (neg e)

  -- [+ or -] term
  unfoldable pub signed : ℕ → ℕ → Reader Exp
  signed f o = if_next src plus_sign (term src f o) (if_next src minus_sign (negated f o) (term src f o))

  -- exp, after `odd`
  unfoldable pub odds : ℕ → ℕ → Reader Cond
  odds f o = exp src f o >>= λ e. pure (is_odd e)

  -- exp sign exp
  unfoldable pub compared : ℕ → ℕ → Reader Cond
  compared f o = exp src f o >>= λ a. look src >>= λ t. compare_with src f o a (comparison_of t)

  -- exp `)`, after the `(`
  unfoldable pub bracketed : ℕ → ℕ → Reader Exp
  bracketed f o = exp src f o >>= λ e. want src close_sign >> pure (brackets e)

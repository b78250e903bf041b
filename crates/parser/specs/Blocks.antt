-- Parts of the definitions of procedures and blocks that have a reader of their own.
use Rattle.std.specs.Prelude.{List, ℕ}
use Rattle.std.proofs.Math.Option.{Option}
use Rattle.lexer.specs.Marks.{procedure_word, open_sign, semicolon_sign}
use Rattle.lexer.specs.Tokens.{Name}
use Rattle.lexer.specs.Cursor.{Reader}
use Rattle.tree.specs.Tree.{Const, Procs, Block}
use Rattle.tree.specs.Layout.{Nodes, member}
use Rattle.tree.specs.Nodes.{name_node, names_node, consts_node, procs_node}
use Rattle.grammar.specs.Reader.{pure, ◌>>=◌, ◌>>◌, want, want_name}
use Rattle.grammar.specs.Grammar.{const_part, var_part, arg_part, inner_of, body_of, map_o}
use Rattle.parser.specs.Parts.{only}

-- constants and variables
pub record Decls : Type 0 where
  pub consts : List Const
  pub vars : List Name

-- the head of a procedure: its name and its arguments
pub record Head : Type 0 where
  pub id : Name
  pub args : List Name

-- what stands before a block's body
pub record Front : Type 0 where
  pub consts : List Const
  pub vars : List Name
  pub procs : Procs

unfoldable pub decls_nodes : Decls → Nodes
decls_nodes d = member (consts_node d.consts) (only (names_node d.vars))

unfoldable pub head_nodes : Head → Nodes
head_nodes h = member (name_node h.id) (only (names_node h.args))

unfoldable pub front_nodes : Front → Nodes
front_nodes f = member (consts_node f.consts) (member (names_node f.vars) (only (procs_node f.procs)))

module _ (src : List ℕ) where
  unfoldable pub decls : ℕ → Reader Decls
  decls f = const_part src f >>= λ cs. var_part src f >>= λ vs. pure (record { consts = cs; vars = vs })

  -- `procedure` name `(` [names] `)` `;`
  unfoldable pub head : ℕ → Reader Head
  head f = want src procedure_word >> want_name src >>= λ n. want src open_sign >> arg_part src f >>= λ ar. want src semicolon_sign >> pure (record { id = n; args = ar })

  -- constants, variables and [procedure]
  unfoldable pub front : ℕ → ℕ → Reader Front
  front f o = decls f >>= λ d. inner_of src f o >>= λ ps. pure (record { consts = d.consts; vars = d.vars; procs = ps })

  -- the main block
  unfoldable pub block : ℕ → Reader (Option Block)
  block f = front f 0 >>= λ h. body_of src f 0 >>= λ b. pure (map_o (λ s. record { consts = h.consts; vars = h.vars; procs = h.procs; main = s }) b)

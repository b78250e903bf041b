-- Parts of the definitions of statements that have a reader of their own, each after the statement's first token.
use Rattle.std.specs.Prelude.{◌≡◌, List, [], ℕ}
use Rattle.std.proofs.Math.Option.{Option, none, some}
use Rattle.lexer.specs.Marks.{then_word, else_word, do_word, open_sign, close_sign, semicolon_sign, becomes_sign}
use Rattle.lexer.specs.Tokens.{Name}
use Rattle.lexer.specs.Cursor.{Reader}
use Rattle.lexer.specs.declared.cursor.Cursor.{Cursor}
use Rattle.tree.specs.Tree.{Stmt, assign, while, call, read_s, write_s, Stmts}
use Rattle.tree.specs.Layout.{Nodes, no_more}
use Rattle.tree.specs.Nodes.{stmt_node, body_node}
use Rattle.parser.specs.Answer.{Answer}
use Rattle.grammar.specs.Reader.{pure, ◌>>=◌, ◌>>◌, want, if_next, want_name, commas}
use Rattle.grammar.specs.Grammar.{exp, cond, stmt, stmts, if_node, map_o}
use Rattle.parser.specs.Parts.{only}
use Rattle.parser.specs.Meets.{Meets}

-- the node of a statement, and of a body
abbrev pub statement : Stmt → Nodes
statement s = only (stmt_node s)

abbrev pub body : Stmts → Nodes
body l = only (body_node l)

module _ (src : List ℕ) where
  -- `:=` exp, after the name x
  unfoldable pub assigned : Name → ℕ → ℕ → Reader (Option Stmt)
  assigned x f o = want src becomes_sign >> exp src f o >>= λ e. pure (some (assign x e))

  -- cond `do` st, after `while`
  unfoldable pub looped : ℕ → ℕ → Reader (Option Stmt)
  looped f o = cond src f o >>= λ c. want src do_word >> stmt src f o >>= λ s. pure (map_o (while c) s)

  -- cond `then` st [`else` st], after `if`
  unfoldable pub conditional : ℕ → ℕ → Reader (Option Stmt)
  conditional f o = cond src f o >>= λ c. want src then_word >> stmt src f o >>= λ s.
      if_next src else_word (stmt src f o >>= λ e. pure (if_node c s e)) (pure (if_node c s none))

  -- [`else` st]
  unfoldable pub else_part : ℕ → ℕ → Reader (Option Stmt)
  else_part f o = if_next src else_word (stmt src f o) (pure none)

  -- name `(` [exps] `)`, after `call`
  unfoldable pub called : ℕ → ℕ → Reader (Option Stmt)
  called f o = want_name src >>= λ n. want src open_sign >>
      if_next src close_sign (pure (some (call n []))) (commas src f (exp src f o) >>= λ es. want src close_sign >> pure (some (call n es)))

  -- `(` names `)`, after `read`
  unfoldable pub reading : ℕ → ℕ → Reader (Option Stmt)
  reading f o = want src open_sign >> commas src f (want_name src) >>= λ ns. want src close_sign >> pure (some (read_s ns))

  -- `(` exps `)`, after `write`
  unfoldable pub writing : ℕ → ℕ → Reader (Option Stmt)
  writing f o = want src open_sign >> commas src f (exp src f o) >>= λ es. want src close_sign >> pure (some (write_s es))

  -- {`;` statement} after a member that yields nothing: read on, and nothing
  unfoldable pub quiet_rest : ℕ → ℕ → Reader (Option Stmts)
  quiet_rest f o = if_next src semicolon_sign (stmts src f o >>= λ r. pure none) (pure none)

-- a reader that yields nothing at best
abbrev pub Quiets : (src xs : List ℕ) → ℕ → List ℕ → (ℕ → Reader (Option Stmts)) → ℕ → Cursor → Answer → Type 0
Quiets src xs u ys f m c r = Meets {A = ⊥} (λ x. none) (λ v. v ≡ none) (λ x. no_more) src xs u ys f m 0 0 c r

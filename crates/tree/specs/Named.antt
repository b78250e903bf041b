-- What a reader of the text gives besides the tree: every name of the tree lies in the text with the bytes that the tree says, and every literal is within i64.
use Rattle.std.specs.Prelude.{◌≡◌, true, List, [], ◌∷◌, ℕ, ◌+◌, ◌≤◌, length, take, drop, get_or}
use Rattle.numbers.specs.Limits.{greatest}
use Rattle.numbers.specs.Bytes.{is_letter}
use Rattle.lexer.specs.Tokens.{Name}
use Rattle.tree.specs.Tree.{Exp, lit, ref, neg, chain, brackets, Chain, end, link, Cond, is_odd, rel, Stmt, assign, if_then, if_else, while, call, body, read_s, write_s, Stmts, last, more, Const, Procs, no_procs, proc, Block}

-- a name lies in the text s, and starts with a letter, so that it is not `#`
pub record NameIn (s : List ℕ) (n : Name) : Type 0 where
  pub fits : n.at + length n.text ≤ length s
  pub is : take (length n.text) (drop n.at s) ≡ n.text
  pub letter : is_letter (get_or n.text 0 0) ≡ true

-- each of a list
unfoldable pub Each : {A : Type 0} → (A → Type 0) → List A → Type 0
Each P [] = Unit {0}
Each P (x ∷ xs) = P x × Each P xs

unfoldable mutual
  pub NamedExp : List ℕ → Exp → Type 0
  NamedExp s (lit v) = v ≤ greatest
  NamedExp s (ref n) = NameIn s n
  NamedExp s (neg e) = NamedExp s e
  NamedExp s (chain e c) = NamedExp s e × NamedChain s c
  NamedExp s (brackets e) = NamedExp s e

  pub NamedChain : List ℕ → Chain → Type 0
  NamedChain s end = Unit {0}
  NamedChain s (link a e c) = NamedExp s e × NamedChain s c

unfoldable pub NamedCond : List ℕ → Cond → Type 0
NamedCond s (is_odd e) = NamedExp s e
NamedCond s (rel o a b) = NamedExp s a × NamedExp s b

unfoldable mutual
  pub NamedStmt : List ℕ → Stmt → Type 0
  NamedStmt s (assign n e) = NameIn s n × NamedExp s e
  NamedStmt s (if_then c t) = NamedCond s c × NamedStmt s t
  NamedStmt s (if_else c t e) = NamedCond s c × (NamedStmt s t × NamedStmt s e)
  NamedStmt s (while c t) = NamedCond s c × NamedStmt s t
  NamedStmt s (call n es) = NameIn s n × Each (NamedExp s) es
  NamedStmt s (body l) = NamedStmts s l
  NamedStmt s (read_s ns) = Each (NameIn s) ns
  NamedStmt s (write_s es) = Each (NamedExp s) es

  pub NamedStmts : List ℕ → Stmts → Type 0
  NamedStmts s (last t) = NamedStmt s t
  NamedStmts s (more t l) = NamedStmt s t × NamedStmts s l

abbrev pub NamedConst : List ℕ → Const → Type 0
NamedConst s c = NameIn s c.id × (c.value ≤ greatest)

unfoldable pub NamedProcs : List ℕ → Procs → Type 0
NamedProcs s no_procs = Unit {0}
NamedProcs s (proc n ar cs vs inner b later) =
    NameIn s n × (Each (NameIn s) ar × (Each (NamedConst s) cs × (Each (NameIn s) vs × (NamedProcs s inner × (NamedStmts s b × NamedProcs s later)))))

pub record Named (s : List ℕ) (b : Block) : Type 0 where
  pub consts : Each (NamedConst s) b.consts
  pub vars : Each (NameIn s) b.vars
  pub procs : NamedProcs s b.procs
  pub main : NamedStmts s b.main

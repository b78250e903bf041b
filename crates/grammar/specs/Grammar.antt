-- 01, "Grammar", with "Quiet failure": nothing is a result of its own, `none`. In each reader f is fuel and o is how many constructs are open.
use Rattle.std.specs.Prelude.{true, false, List, [], ◌∷◌, ℕ, zero, suc}
use Rattle.std.proofs.Math.Option.{Option, none, some}
use Rattle.numbers.specs.Panel.{token_missing, body_failed_quietly}
use Rattle.numbers.specs.Arithmetic.{add, sub, mul, div, Compare, equal, unequal, less, at_least, greater, at_most}
use Rattle.lexer.specs.Marks.{Mark, if_word, then_word, else_word, while_word, do_word, const_word, var_word, procedure_word, program_word, begin_word, end_word, call_word, read_word, write_word, odd_word, plus_sign, minus_sign, times_sign, divide_sign, open_sign, close_sign, equal_sign, semicolon_sign, less_sign, greater_sign, at_most_sign, at_least_sign, unequal_sign, becomes_sign, same, listed}
use Rattle.lexer.specs.Tokens.{Name, Token, mark, name, number}
use Rattle.tree.specs.Tree.{Exp, lit, ref, neg, chain, brackets, Chain, end, link, Cond, is_odd, rel, Stmt, assign, if_then, if_else, while, call, body, read_s, write_s, Stmts, last, more, Const, Procs, no_procs, proc, Block}
use Rattle.grammar.specs.Reader.{Ans, got, refuse, Reader, pure, fail, ◌>>=◌, ◌>>◌, spent, enter, is_mark, look, take, want, if_next, want_name, want_number, commas}

-- an operand, and then the chain of operators and operands after it
abbrev pub chained : {A : Type 0} → Reader Exp → Reader Chain → (Exp → Chain → A) → Reader A
chained p q k = p >>= λ e. q >>= λ c. pure (k e c)

-- the signs of a condition
unfoldable pub comparisons : List (Mark × Compare)
comparisons =
    (equal_sign, equal) ∷
    (unequal_sign, unequal) ∷
    (less_sign, less) ∷
    (at_least_sign, at_least) ∷
    (greater_sign, greater) ∷
    (at_most_sign, at_most) ∷
    []

-- the comparison that a token stands for
unfoldable pub comparison_of : Token → Option Compare
comparison_of (mark m) = listed m comparisons
comparison_of (name n) = none
comparison_of (number v) = none

-- what a statement can start with
pub data Start : Type 0 where
  assign_start : Name → Start
  if_start while_start call_start body_start read_start write_start : Start

-- the keywords that start one
unfoldable pub starts : List (Mark × Start)
starts =
    (if_word, if_start) ∷
    (while_word, while_start) ∷
    (call_word, call_start) ∷
    (begin_word, body_start) ∷
    (read_word, read_start) ∷
    (write_word, write_start) ∷
    []

-- the statement that a token starts, or none
unfoldable pub start_of : Token → Option Start
start_of (mark m) = listed m starts
start_of (name n) = some (assign_start n)
start_of (number v) = none

-- "A statement place whose token starts no statement yields nothing, takes nothing and sets no error"
abbrev pub no_statement : Reader (Option Stmt)
no_statement = pure none

-- nothing in either gives nothing
unfoldable pub both : {A B C : Type 0} → (A → B → C) → Option A → Option B → Option C
both g none b = none
both g (some a) none = none
both g (some a) (some b) = some (g a b)

-- nothing gives nothing
unfoldable pub map_o : {A B : Type 0} → (A → B) → Option A → Option B
map_o g none = none
map_o g (some a) = some (g a)

-- then part, else part: no node without the first; an else part that yields nothing is absent
unfoldable pub if_node : Cond → Option Stmt → Option Stmt → Option Stmt
if_node c none e = none
if_node c (some s) none = some (if_then c s)
if_node c (some s) (some e) = some (if_else c s e)

-- a block's procedure that yields nothing is absent
unfoldable pub or_absent : Option Procs → Procs
or_absent none = no_procs
or_absent (some p) = p

module _ (src : List ℕ) where
  unfoldable mutual
    -- "Exp: [+ or -] term {+ or - term}"
    pub exp : ℕ → ℕ → Reader Exp
    exp zero o = spent
    exp (suc f) o =
        if_next src plus_sign (chained (term f o) (terms f o) chain)
        (if_next src minus_sign (chained (term f o) (terms f o) (λ e c. chain (neg e) c)) (chained (term f o) (terms f o) chain))

    -- {+ or - term}
    pub terms : ℕ → ℕ → Reader Chain
    terms zero o = spent
    terms (suc f) o =
        if_next src plus_sign (chained (term f o) (terms f o) (link add))
        (if_next src minus_sign (chained (term f o) (terms f o) (link sub)) (pure end))

    -- "Term: factor {* or / factor}"
    pub term : ℕ → ℕ → Reader Exp
    term zero o = spent
    term (suc f) o = chained (factor f o) (factors f o) chain

    -- {* or / factor}
    pub factors : ℕ → ℕ → Reader Chain
    factors zero o = spent
    factors (suc f) o =
        if_next src times_sign (chained (factor f o) (factors f o) (link mul))
        (if_next src divide_sign (chained (factor f o) (factors f o) (link div)) (pure end))

    -- "Factor: name, number, `(` exp `)`"; the `(` is looked at before its 7
    pub factor : ℕ → ℕ → Reader Exp
    factor zero o = spent
    factor (suc f) o = look src >>= λ t. elim t [
      | mark m ↦ elim (same m open_sign) [
        | true ↦ (enter o >> take src >> exp f (suc o) >>= λ e. want src close_sign >> pure (brackets e))
        | false ↦ fail token_missing
      ]
      | name n ↦ (take src >> pure (ref n))
      | number v ↦ (take src >> pure (lit v))
    ]

  -- the sign of a condition, and its second expression
  unfoldable pub compare_with : ℕ → ℕ → Exp → Option Compare → Reader Cond
  compare_with f o a none = fail token_missing
  compare_with f o a (some r) = take src >> exp f o >>= λ b. pure (rel r a b)

  -- "Cond: `odd` exp, or exp sign exp"
  unfoldable pub cond : ℕ → ℕ → Reader Cond
  cond f o = if_next src odd_word (exp f o >>= λ e. pure (is_odd e)) (exp f o >>= λ a. look src >>= λ t. compare_with f o a (comparison_of t))

  unfoldable mutual
    -- a statement place: the test for 7 comes before the token is judged
    pub stmt : ℕ → ℕ → Reader (Option Stmt)
    stmt zero o = spent
    stmt (suc f) o = enter o >> look src >>= λ t. elim (start_of t) [ none ↦ no_statement | some s ↦ statement f (suc o) s ]

    -- a statement, from its first token on
    pub statement : ℕ → ℕ → Start → Reader (Option Stmt)
    statement zero o s = spent
    -- name `:=` exp
    statement (suc f) o (assign_start n) = take src >> want src becomes_sign >> exp f o >>= λ e. pure (some (assign n e))
    -- `if` cond `then` st [`else` st]: the `else` is read whatever the then part yields
    statement (suc f) o if_start = take src >> cond f o >>= λ c. want src then_word >> stmt f o >>= λ s.
        if_next src else_word (stmt f o >>= λ e. pure (if_node c s e)) (pure (if_node c s none))
    -- `while` cond `do` st
    statement (suc f) o while_start = take src >> cond f o >>= λ c. want src do_word >> stmt f o >>= λ s. pure (map_o (while c) s)
    -- `call` name `(` [exps] `)`
    statement (suc f) o call_start = take src >> want_name src >>= λ n. want src open_sign >>
        if_next src close_sign (pure (some (call n []))) (commas src f (exp f o) >>= λ es. want src close_sign >> pure (some (call n es)))
    -- body
    statement (suc f) o body_start = body_of f o >>= λ b. pure (map_o body b)
    -- `read` `(` names `)`
    statement (suc f) o read_start = take src >> want src open_sign >> commas src f (want_name src) >>= λ ns. want src close_sign >> pure (some (read_s ns))
    -- `write` `(` exps `)`
    statement (suc f) o write_start = take src >> want src open_sign >> commas src f (exp f o) >>= λ es. want src close_sign >> pure (some (write_s es))

    -- "Body: `begin` statement {`;` statement} `end`"; with a member that yields nothing its `end` is left unread
    pub body_of : ℕ → ℕ → Reader (Option Stmts)
    body_of zero o = spent
    body_of (suc f) o = want src begin_word >> stmts f o >>= λ s. elim s [ none ↦ pure none | some b ↦ (want src end_word >> pure (some b)) ]

    -- statement {`;` statement}: the list is read on past a member that yields nothing
    pub stmts : ℕ → ℕ → Reader (Option Stmts)
    stmts zero o = spent
    stmts (suc f) o = stmt f o >>= λ s. if_next src semicolon_sign (stmts f o >>= λ r. pure (both more s r)) (pure (map_o last s))

  -- name `:=` number
  unfoldable pub const_def : Reader Const
  const_def = want_name src >>= λ n. want src becomes_sign >> want_number src >>= λ v. pure (record { id = n; value = v })

  -- [`const` name `:=` number {`,` ..} `;`]
  unfoldable pub const_part : ℕ → Reader (List Const)
  const_part f = if_next src const_word (commas src f const_def >>= λ cs. want src semicolon_sign >> pure cs) (pure [])

  -- [`var` name {`,` name} `;`]
  unfoldable pub var_part : ℕ → Reader (List Name)
  var_part f = if_next src var_word (commas src f (want_name src) >>= λ ns. want src semicolon_sign >> pure ns) (pure [])

  -- [names] `)`
  unfoldable pub arg_part : ℕ → Reader (List Name)
  arg_part f = if_next src close_sign (pure []) (commas src f (want_name src) >>= λ ns. want src close_sign >> pure ns)

  unfoldable mutual
    -- "Procedure: `procedure` name `(` [names] `)` `;` block {`;` procedure}"; it yields nothing where its body or a later one does
    pub proc_of : ℕ → ℕ → Reader (Option Procs)
    proc_of zero o = spent
    proc_of (suc f) o =
        enter o >> want src procedure_word >> want_name src >>= λ n. want src open_sign >> arg_part f >>= λ ar. want src semicolon_sign >>
        const_part f >>= λ cs. var_part f >>= λ vs. inner_of f (suc o) >>= λ ps. body_of f (suc o) >>= λ b.
        later_of f (suc o) >>= λ l. pure (both (λ x y. proc n ar cs vs ps x y) b l)

    -- a block's [procedure]: the `procedure` is looked at before its 7
    pub inner_of : ℕ → ℕ → Reader Procs
    inner_of zero o = spent
    inner_of (suc f) o = look src >>= λ t. elim (is_mark procedure_word t) [ true ↦ (proc_of f o >>= λ p. pure (or_absent p)) | false ↦ pure no_procs ]

    -- {`;` procedure}: "each later one is read inside the one before", so one at most
    pub later_of : ℕ → ℕ → Reader (Option Procs)
    later_of zero o = spent
    later_of (suc f) o = if_next src semicolon_sign (proc_of f o) (pure (some no_procs))

  -- "program: `program` name `;` block"
  unfoldable pub program : ℕ → Reader (Option Block)
  program f =
      want src program_word >> want_name src >>= λ n. want src semicolon_sign >>
      const_part f >>= λ cs. var_part f >>= λ vs. inner_of f 0 >>= λ ps. body_of f 0 >>= λ b.
      pure (map_o (λ s. record { consts = cs; vars = vs; procs = ps; main = s }) b)

-- the tree, or a refusal
pub data Parsed : Type 0 where
  tree : Block → Parsed
  refused : ℕ → Parsed

-- "the main body failed quietly" is 6
unfoldable pub parsed : Ans (Option Block) → Parsed
parsed (got none c) = refused body_failed_quietly
parsed (got (some b) c) = tree b
parsed (refuse n) = refused n

-- no reader calls deeper than this while 8,192 tokens last
abbrev pub fuel : ℕ
fuel = 65536

-- a text's tree
unfoldable pub parse : List ℕ → Parsed
parse src = parsed (program src fuel (record { seen = 0; at = 0 }))

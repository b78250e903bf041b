-- `signs::sign` meets its contract.
use native.Mathlib.Omega.{arith}
use Rattle.numbers.specs.Bytes.{bytes}
use Rattle.lexer.specs.Marks.{pairs, spelt}
use Rattle.lexer.specs.Spelling.{sign_of}
use Rattle.lexer.proofs.Tables.{no_first, no_second, no_both, one_sign}
use Rattle.lexer.proofs.signs.sign.Goals as goal
use Rattle.lexer.proofs.signs.sign.Goals.{in-61-eq60, in-61-eq62, in-61-eq58, in-62-eq60}

pub returns-in_default : goal.returns-in_default
returns-in_default c = one_sign _ _ _ _ (no_first _ _ c.in_default.is-1.0.0.1 c.in_default.is-1.0.1 c.in_default.is-1.1) c.single.ensures

pub returns-in_default-2 : goal.returns-in_default-2
returns-in_default-2 c = one_sign _ _ _ _ (no_both _ _ (λ e. absurd (omega (arith, e, c.in_default.is-0))) c.in_default.is-1.1) c.single.ensures

pub returns-in_default-3 : goal.returns-in_default-3
returns-in_default-3 c = one_sign _ _ _ _ (no_second _ _ c.in_default.is-0.0.1 c.in_default.is-0.1) c.single.ensures

pub returns : goal.returns
unfolding sign_of spelt pairs bytes
returns c =
    elim c.match-d.branch [
      | in-61-eq60 w ↦ rw (w.token-is, w.in-61-eq60.is-0, w.in-61-eq60.is-1)
      | in-61-eq62 w ↦ rw (w.token-is, w.in-61-eq62.is-0, w.in-61-eq62.is-1)
      | in-61-eq58 w ↦ rw (w.token-is, w.in-61-eq58.is-0, w.in-61-eq58.is-1)
      | in-62-eq60 w ↦ rw (w.token-is, w.in-62-eq60.is-0, w.in-62-eq60.is-1)
    ]

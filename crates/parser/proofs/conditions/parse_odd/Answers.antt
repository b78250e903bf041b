-- `conditions::parse_odd` meets its contract.
use mathlib.Core.Path.{refl}
use native.Mathlib.Omega.{arith}
use Rattle.parser.proofs.Answers.{refused, grew, left_as, refuses}
use Rattle.parser.proofs.Conds.{odds_refused, odds_done}
use Rattle.parser.proofs.conditions.parse_odd.Goals as goal

pub returns-in_err-end : goal.returns-in_err-end
returns-in_err-end c =
    rw (left_as c.from_residual.ensures) (refused (odds_refused _ _ (refuses c.in_err-end.ensures)))

pub seal-requires : goal.seal-requires
seal-requires c =
    let g = grew c.in_ok-end.ensures refl in
    let k = c.parse_exp.auto.tree in
    record {
      i_bound = (g.above, omega (arith, g.room, c.requires.room));
      count_le_end = (omega (arith, g.above), omega (arith, c.requires.small));
    }

pub returns : goal.returns
returns c =
    odds_done _ _ _ c.in_ok-end.ensures refl c.seal.ensures

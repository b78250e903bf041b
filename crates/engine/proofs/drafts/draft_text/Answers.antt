-- The proof of `draft_text`.
use native.Mathlib.Omega.{arith}
use Rattle.std.proofs.lemmas.Result.{err_from_is_err_and}
use Rattle.engine.proofs.Drafting.{Standing, standing, passed_on, drafting}
use Rattle.engine.proofs.drafts.draft_text.Goals as goal
use Rattle.engine.proofs.drafts.draft_text.Goals.{In_ok-parse}

read : (c : In_ok-parse) → Standing c.args.text.now c.parse.new.tree
read c = standing (omega (arith, c.told-tree)) c.parse.ensures (c.in_ok-parse.was)

pub returns-in_err-parse : goal.returns-in_err-parse
returns-in_err-parse c =
    let p = err_from_is_err_and c.from_residual.result c.from_residual.ensures.1 in
    rw (p.1, p.2) (passed_on c.args.table.now c.args.draft.now (omega (arith, c.told-tree)) c.parse.ensures (c.in_err-parse.was))

pub translate-requires-clause-has_block : goal.translate-requires-clause-has_block
translate-requires-clause-has_block c = let s = read (goal.at.translate-requires-clause-has_block c).In_ok-parse in record { block = s.block; at = s.at }

pub returns : goal.returns
returns c =
    let s = read (goal.at.returns c).In_ok-parse in
    drafting c.translate.new.table c.translate.new.draft s (c.translate.ensures s.block s.at)

-- `lists::end_list` meets its contract.
use Rattle.parser.proofs.Commas.{ends_refused, ends_node}
use Rattle.parser.proofs.Answers.{left_as}
use Rattle.parser.proofs.lists.end_list.Goals as goal

pub returns-in_err-c : goal.returns-in_err-c
returns-in_err-c c m e =
    rw (left_as c.from_residual.ensures) (ends_refused (c.want.ensures m e) c.in_err-c.was)

pub returns : goal.returns
returns c m e = ends_node (c.want.ensures m e) c.in_ok-c.was c.seal.ensures

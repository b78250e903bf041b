-- The proof of `write_line`.
use Rattle.walk.proofs.Outputs.{write_spent}
use Rattle.walk.proofs.writing.write_line.Goals as goal

pub returns-then-progress-eq0 : goal.returns-then-progress-eq0
returns-then-progress-eq0 c = write_spent _ _ c.args.progress.now c.if-progress-eq0.true

pub returns : goal.returns
returns c = c.wrote.ensures _ _ _ c.put_newline.ensures

-- `screen::put_prompt` meets its contract.
use Rattle.numbers.specs.Bytes.{bytes}
use Rattle.numbers.specs.Screen.{prompt}
use Rattle.numbers.proofs.screen.put_prompt.Goals as goal

pub returns : goal.returns
unfolding prompt bytes
returns c = c.put_bytes.ensures

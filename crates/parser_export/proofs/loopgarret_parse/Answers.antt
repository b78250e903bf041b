-- `loopgarret_parse` meets its contract.
use mathlib.Core.Path.{ap}
use Rattle.parser_export.specs.Exported.{number_of}
use Rattle.parser_export.proofs.loopgarret_parse.Goals as goal

pub returns-in-Ok : goal.returns-in-Ok
returns-in-Ok c = record { answer = c.parse.result; parses = c.parse.ensures; number = let q = ap number_of c.in-Ok.is in cc }

pub returns-in-Err : goal.returns-in-Err
returns-in-Err c = record { answer = c.parse.result; parses = c.parse.ensures; number = let q = ap number_of c.in-Err.is in cc }

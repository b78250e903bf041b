-- `lists::parse_id` meets its contract.
use native.Mathlib.Omega.{arith}
use Rattle.parser.proofs.Seeing.{saw}
use Rattle.parser.proofs.Answers.{refused, one_fewer, left_as}
use Rattle.parser.proofs.Required.{name_stop, name_other, name_there}
use Rattle.parser.proofs.lists.parse_id.Goals as goal

pub returns-in_err-c : goal.returns-in_err-c
returns-in_err-c c =
    rw (left_as c.from_residual.ensures) (refused (name_stop c.see.ensures c.in_err-c.was))

pub returns-in_default : goal.returns-in_default
returns-in_default c =
    refused (name_other c.see.ensures c.in_ok-c.was c.in_default.not-Identifier)

pub push_name-requires : goal.push_name-requires
push_name-requires c =
    let w = (saw c.see.ensures c.in_ok-c.was c.requires.place c.requires.stands).1 in
    let i = w.inside _ _ c.in-Identifier.is in
    record {
      used_in_bounds = omega (arith, c.requires.room, w.fewer);
      offset_lt_half = (omega (arith, i, c.requires.short), omega (arith, i, c.requires.short));
    }

pub returns : goal.returns
returns c =
    let w = (saw c.see.ensures c.in_ok-c.was c.requires.place c.requires.stands).1 in
    let e = c.in-Identifier.is in
    name_there c.see.ensures c.in_ok-c.was c.take.ensures (one_fewer c.requires c.see.ensures c.in_ok-c.was c.take.ensures) (omega (arith, c.requires.room)) c.push_name.ensures.0 _ _ e (w.inside _ _ e) c.push_name.ensures.1

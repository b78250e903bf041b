-- `lists::parse_integer` meets its contract.
use native.Mathlib.Omega.{arith}
use Rattle.parser.proofs.Seeing.{saw}
use Rattle.parser.proofs.Leaves.{literal_of_lem, literal_pos}
use Rattle.parser.proofs.Answers.{refused, one_fewer, left_as}
use Rattle.parser.proofs.Required.{number_stop, number_other, number_there}
use Rattle.parser.proofs.lists.parse_integer.Goals as goal

pub returns-in_err-c : goal.returns-in_err-c
returns-in_err-c c =
    rw (left_as c.from_residual.ensures) (refused (number_stop c.see.ensures c.in_err-c.was))

pub returns-in_default : goal.returns-in_default
returns-in_default c =
    refused (number_other c.see.ensures c.in_ok-c.was c.in_default.not-Integer)

pub overflow_cast-v : goal.overflow_cast-v
overflow_cast-v c =
    let w = (saw c.see.ensures c.in_ok-c.was c.requires.place c.requires.stands).1 in
    omega (arith, (literal_of_lem w _ c.in-Integer.is).0)

pub push_number-requires : goal.push_number-requires
push_number-requires c =
    let w = (saw c.see.ensures c.in_ok-c.was c.requires.place c.requires.stands).1 in
    let z = literal_of_lem w _ c.in-Integer.is in
    record {
      used_in_bounds = omega (arith, c.requires.room, w.fewer);
      not_negative = (_, literal_pos z.0);
    }

pub returns : goal.returns
returns c =
    let w = (saw c.see.ensures c.in_ok-c.was c.requires.place c.requires.stands).1 in
    let e = c.in-Integer.is in
    number_there c.see.ensures c.in_ok-c.was c.take.ensures (one_fewer c.requires c.see.ensures c.in_ok-c.was c.take.ensures) (omega (arith, c.requires.room)) c.push_number.ensures.next _ e (c.push_number.ensures.literal_behind _ (literal_pos (literal_of_lem w _ e).0))

-- `listing::letters` meets its contract, kind by kind.
use Rattle.numbers.specs.Bytes.{bytes}
use Rattle.desk.specs.Listing.{letters}
use Rattle.desk.proofs.listing.letters.Goals as goal

pub returns-in-Nil : goal.returns-in-Nil
unfolding letters bytes
returns-in-Nil c = rw c.in-Nil.is

pub returns-in-Lit : goal.returns-in-Lit
unfolding letters bytes
returns-in-Lit c = rw c.in-Lit.is

pub returns-in-Opr : goal.returns-in-Opr
unfolding letters bytes
returns-in-Opr c = rw c.in-Opr.is

pub returns-in-Lod : goal.returns-in-Lod
unfolding letters bytes
returns-in-Lod c = rw c.in-Lod.is

pub returns-in-Sto : goal.returns-in-Sto
unfolding letters bytes
returns-in-Sto c = rw c.in-Sto.is

pub returns-in-Sta : goal.returns-in-Sta
unfolding letters bytes
returns-in-Sta c = rw c.in-Sta.is

pub returns-in-Cal : goal.returns-in-Cal
unfolding letters bytes
returns-in-Cal c = rw c.in-Cal.is

pub returns-in-Int : goal.returns-in-Int
unfolding letters bytes
returns-in-Int c = rw c.in-Int.is

pub returns-in-Jmp : goal.returns-in-Jmp
unfolding letters bytes
returns-in-Jmp c = rw c.in-Jmp.is

pub returns-in-Jpc : goal.returns-in-Jpc
unfolding letters bytes
returns-in-Jpc c = rw c.in-Jpc.is

pub returns-in-Red : goal.returns-in-Red
unfolding letters bytes
returns-in-Red c = rw c.in-Red.is

pub returns-in-Wrt : goal.returns-in-Wrt
unfolding letters bytes
returns-in-Wrt c = rw c.in-Wrt.is

-- `line::letters_of` meets its contract: a kind's letters.
use mathlib.Core.Path.{refl}
use Rattle.numbers.specs.Bytes.{bytes}
use Rattle.listing.specs.Listing.{letters}
use Rattle.listing.proofs.line.letters_of.Goals as goal

pub returns-in-Nil : goal.returns-in-Nil
unfolding bytes letters
returns-in-Nil c = rw c.in-Nil.is refl

pub returns-in-Lit : goal.returns-in-Lit
unfolding bytes letters
returns-in-Lit c = rw c.in-Lit.is refl

pub returns-in-Opr : goal.returns-in-Opr
unfolding bytes letters
returns-in-Opr c = rw c.in-Opr.is refl

pub returns-in-Lod : goal.returns-in-Lod
unfolding bytes letters
returns-in-Lod c = rw c.in-Lod.is refl

pub returns-in-Sto : goal.returns-in-Sto
unfolding bytes letters
returns-in-Sto c = rw c.in-Sto.is refl

pub returns-in-Sta : goal.returns-in-Sta
unfolding bytes letters
returns-in-Sta c = rw c.in-Sta.is refl

pub returns-in-Cal : goal.returns-in-Cal
unfolding bytes letters
returns-in-Cal c = rw c.in-Cal.is refl

pub returns-in-Int : goal.returns-in-Int
unfolding bytes letters
returns-in-Int c = rw c.in-Int.is refl

pub returns-in-Jmp : goal.returns-in-Jmp
unfolding bytes letters
returns-in-Jmp c = rw c.in-Jmp.is refl

pub returns-in-Jpc : goal.returns-in-Jpc
unfolding bytes letters
returns-in-Jpc c = rw c.in-Jpc.is refl

pub returns-in-Red : goal.returns-in-Red
unfolding bytes letters
returns-in-Red c = rw c.in-Red.is refl

pub returns-in-Wrt : goal.returns-in-Wrt
unfolding bytes letters
returns-in-Wrt c = rw c.in-Wrt.is refl

-- A code list that is read from a case.
use Rattle.std.specs.Prelude.{◌≡◌, length}
use Rattle.pcode.specs.declared.Code.{Code}

-- its three parts are equally long
abbrev pub EquallyLong : Code → Type 0
EquallyLong code = (length code.levels.now ≡ length code.kinds.now) × (length code.operands.now ≡ length code.kinds.now)

-- The code's kinds, operators, instructions and lent code lists by the definition's.
use Rattle.numbers.specs.Arithmetic.{add, sub, mul, div, equal, unequal, less, at_least, greater, at_most}
use Rattle.pcode.specs.Operators.{Oper, return, negate, arithmetic, odd, idle, comparison, write, new_line, read}
use Rattle.pcode.specs.Code.{Op, NIL, LIT, OPR, LOD, STO, STA, CAL, INT, JMP, JPC, RED, WRT, Instr, ins, Code}
use Rattle.pcode.specs.declared.Code as C
use Rattle.pcode.specs.declared.Instruction.{Instruction}
use Rattle.pcode.specs.declared.Kind.{Kind}
use Rattle.pcode.specs.declared.Kind.TheVariants.{Nil, Lit, Opr, Lod, Sto, Sta, Cal, Int, Jmp, Jpc, Red, Wrt}
use Rattle.pcode.specs.declared.Operator.{Operator}
use Rattle.pcode.specs.declared.Operator.TheVariants.{Return, Negate, Add, Sub, Mul, Div, Odd, Idle, Equal, Unequal, Less, AtLeast, Greater, AtMost, Write, NewLine, Read}

-- the kind that it stands for
abbrev pub op_of : Kind → Op
op_of Nil = NIL
op_of Lit = LIT
op_of Opr = OPR
op_of Lod = LOD
op_of Sto = STO
op_of Sta = STA
op_of Cal = CAL
op_of Int = INT
op_of Jmp = JMP
op_of Jpc = JPC
op_of Red = RED
op_of Wrt = WRT

-- the operator that it stands for
abbrev pub oper : Operator → Oper
oper Return = return
oper Negate = negate
oper Add = arithmetic add
oper Sub = arithmetic sub
oper Mul = arithmetic mul
oper Div = arithmetic div
oper Odd = odd
oper Idle = idle
oper Equal = comparison equal
oper Unequal = comparison unequal
oper Less = comparison less
oper AtLeast = comparison at_least
oper Greater = comparison greater
oper AtMost = comparison at_most
oper Write = write
oper NewLine = new_line
oper Read = read

-- the instruction that it stands for
abbrev pub instr_of : Instruction → Instr
instr_of i = ins (op_of i.kind) i.level i.operand

-- what is lent by its three parts
abbrev pub lent : C.Code → Code
lent c = record { kinds = c.kinds.now; levels = c.levels.now; operands = c.operands.now }

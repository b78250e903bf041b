-- Examples beyond the table of sheets: the least number, entries, procedures, and a negative base.
use Rattle.std.specs.Prelude.{◌≡◌, refl, List, [], ◌∷◌, ◌++◌, ℕ, ◌-◌, pos, negsuc}
use Rattle.numbers.specs.Panel.{done, literal_too_big, token_missing, too_many_open, name_taken, cell_outside, result_outside, bad_entry}
use Rattle.numbers.specs.Bytes.{bytes}
use Rattle.pcode.specs.Operators.{return}
use Rattle.pcode.specs.Code.{LIT, LOD, STO, CAL, INT, JMP, Instr, ins, opr}
use Rattle.machine.specs.Machine.{Ended, run_of}
use Rattle.outcomes.specs.Compile.{number_of, code_of, compile}
use Rattle.outcomes.specs.Computing.{computing}
use Rattle.outcomes.specs.Sheets.{S}

go : List ℕ → List ℕ → Ended
go t i = run_of (code_of (compile t)) i 1000 1000

least : (go (bytes "program p; begin write(-9223372036854775807-1) end") []).machine.out ≡ bytes "-9223372036854775808  \n"
unfolding computing go
least = refl

negated : (go (bytes "program p; begin write(-(-9223372036854775807-1)) end") []).number ≡ result_outside
unfolding computing go
negated = refl

whole : (go (bytes "program p; begin write(-4294967296*2147483648) end") []).number ≡ result_outside
unfolding computing go
whole = refl

signed_entry : (go (S ++ bytes "begin read(x); write(x) end") (bytes "+5 x")).machine.out ≡ bytes "<== Please input: 5  \n"
unfolding computing go S
signed_entry = refl

lone_sign : (go (S ++ bytes "begin read(x) end") (bytes "-")).number ≡ bad_entry
unfolding computing go S
lone_sign = refl

empty_line : (go (S ++ bytes "begin read(x) end") (bytes "\n5")).number ≡ bad_entry
unfolding computing go S
empty_line = refl

too_deep : number_of (compile (S ++ bytes "begin x:=((((((((((((((((((((((((((((((((((((((((((((((((((((((((((((((((1)))))))))))))))))))))))))))))))))))))))))))))))))))))))))))))))) end")) ≡ too_many_open
unfolding computing S
too_deep = refl

-- two procedures one after the other, and a call of the second from the main body
two_procs : (go (bytes "program p; procedure a(); begin write(1) end; procedure b(); begin call a() end begin call b() end") []).machine.out ≡ bytes "1  \n"
unfolding computing go
two_procs = refl

-- a block's procedure that yields nothing is absent: the main body is read, and `a` is not found
dropped : number_of (compile (bytes "program p; procedure a(); begin write(1); end begin call a() end")) ≡ token_missing
unfolding computing
dropped = refl

twice : number_of (compile (bytes "program p; var x,x; begin x:=1 end")) ≡ name_taken
unfolding computing
twice = refl

too_big_lem : number_of (compile (bytes "program p; begin write(9223372036854775808) end")) ≡ literal_too_big
unfolding computing
too_big_lem = refl

-- a procedure whose body begins with `;` and is followed by `begin` yields nothing, and is absent
absorbed : code_of (compile (S ++ bytes "procedure a(); begin ; x:=1 begin x:=2 end")) ≡ ins JMP 0 (pos 1) ∷ ins INT 0 (pos 4) ∷ ins LIT 0 (pos 2) ∷ ins STO 0 (pos 3) ∷ opr return ∷ []
unfolding computing S
absorbed = refl

-- a return to the base -1: then base + 1 would be a cell, and is 17 all the same
down : List Instr → List Instr
down l = ins INT 0 (pos 3) ∷ ins LIT 0 (negsuc 0) ∷ ins STO 0 (pos 0) ∷ ins LIT 0 (pos 6) ∷ ins STO 0 (pos 2) ∷ opr return ∷ l

after : List Instr → ℕ × ℕ
after l = let e = run_of (down l) [] 1000 0 in (e.number, 1000 - e.left)

below_load : after (ins LOD 0 (pos 1) ∷ []) ≡ (cell_outside, 6)
unfolding computing down after
below_load = refl

below_store : after (ins LIT 0 (pos 1) ∷ ins STO 0 (pos 1) ∷ []) ≡ (cell_outside, 7)
unfolding computing down after
below_store = refl

below_chain : after (ins LOD 1 (pos 0) ∷ []) ≡ (cell_outside, 6)
unfolding computing down after
below_chain = refl

below_call : after (ins CAL 1 (pos 0) ∷ []) ≡ (cell_outside, 6)
unfolding computing down after
below_call = refl

below_return : after (opr return ∷ []) ≡ (cell_outside, 6)
unfolding computing down after
below_return = refl

-- a call at level 0 counts no cell from the base
below_calls : after (ins CAL 0 (pos 0) ∷ []) ≡ (done, 7)
unfolding computing down after
below_calls = refl

-- The agreement of walk and run: for every accepted program without a procedure, every input, every budget and every room for output, the walk on
-- the tree and the run of the code end with the same number, budget left, output, input left, lines taken and variables.
use Rattle.std.specs.Prelude.{◌≡◌, refl, Bool, true, false, List, [], ◌∷◌, ℕ, zero, suc, ◌+◌, ◌-◌, ◌<◌, ◌≤◌, pos, leb, ltb, length, get_or, take, replicate}
use Rattle.std.proofs.Common.{ap, sym, ◌∙◌, subst, append-nil, arith, get_or-take, le-leb, ltb-true}
use Rattle.std.proofs.lemmas.List.{length-replicate}
use Rattle.numbers.specs.Panel.{name_not_found, wrong_kind, source_too_long, source_not_ascii, done}
use Rattle.numbers.specs.Limits.{max_code, max_cells, max_rows, max_source}
use Rattle.numbers.specs.Stack.{links}
use Rattle.numbers.specs.Bytes.{is_ascii, every}
use Rattle.lexer.specs.Tokens.{Name}
use Rattle.grammar.specs.Grammar.{parse, Parsed, tree, refused}
use Rattle.grammar.specs.Source.{reading}
use Rattle.grammar.proofs.Refusals.{parse_refuses}
use Rattle.tree.specs.Tree.{Exp, call, no_procs, Block}
use Rattle.pcode.specs.Operators.{return}
use Rattle.pcode.specs.Code.{INT, JMP, Instr, ins}
use Rattle.emission.specs.Pieces.{emit_oper, refuse, ◌⨾◌, emit}
use Rattle.translator.specs.Refusals.{DoneNumbered, not_done, block_no}
use Rattle.symbols.specs.Symbols.{rows, Row, const_rows, var_rows, main_scope}
use Rattle.emission.specs.Statements.{stmt_code, stmts_code}
use Rattle.translator.specs.Translate.{Done, finished, failed, block_code}
use Rattle.machine.specs.Machine.{Ended, run, run_of, start}
use Rattle.walk.specs.Walk.{walk_main, Walked, walked, begin, declared_rows, walk_block}
use Rattle.outcomes.specs.Compile.{accepted, not_accepted, number_of, code_of, compile, from_tree, translated, walk_after, walk_parsed, walk_unless, walk}
use Rattle.outcomes.proofs.Accepted.{behind, accepted_shape}
use Rattle.agreement.specs.Declared.{const_rows_lem, var_rows_lem, sound_rows}
use Rattle.agreement.specs.Exprs.{main}
use Rattle.agreement.specs.InStep.{frame}
use Rattle.agreement.specs.Places.{At, Made}
use Rattle.agreement.specs.Program.{Agrees, Entered, program_agrees, Standing, standing}
use Rattle.agreement.specs.Statements.{call_refused}

take_zeros : (n m : ℕ) → n ≤ m → take n (replicate m (pos 0)) ≡ replicate n (pos 0)
take_zeros zero m h = refl
take_zeros (suc n) zero h = absurd (omega arith)
take_zeros (suc n) (suc m) h = ap (λ l. pos 0 ∷ l) (take_zeros n m (omega arith))

zeros_frame : (v : ℕ) → replicate (links + v) (pos 0) ≡ frame (replicate v (pos 0))
zeros_frame v = let e : links + v ≡ suc (suc (suc v)) = omega arith in rw e

run_is : (c : List Instr) (input : List ℕ) (budget room : ℕ) → length c ≤ max_code → run_of c input budget room ≡ run c room budget (start input)
unfolding run_of
run_is c input budget room l = rw (run_of, le-leb (length c) max_code l)

walk_is : (b : Block) (rs : List Row) (input : List ℕ) (budget room : ℕ) → declared_rows b ≡ rs → walk_block b input budget room ≡ walked (walk_main rs room (length b.vars) b.main budget (begin (length b.vars) input))
unfolding walk_block
walk_is b rs input budget room e = rw e

-- over a block that the translator took
pub block_agrees : (b : Block) (c : List Instr) (rs : List Row) (a : ℕ) → b.procs ≡ no_procs → block_code b ≡ finished c rs a → length c ≤ max_code
    → (input : List ℕ) (budget room : ℕ) → Agrees (length b.vars) (walk_block b input budget room) (run_of c input budget room)
unfolding start begin
block_agrees b c rs a none e small input budget room = go (standing b c rs a none e)
  where
    go : Standing b c → Agrees (length b.vars) (walk_block b input budget room) (run_of c input budget room)
    go s =
        let v : ℕ = length b.vars in
        let whole : Made c (emit INT 0 (pos (links + v)) ⨾ stmts_code (main s.rs) b.main ⨾ emit_oper return) 1 (length c) = record {
          pre = ins JMP 0 (pos 1) ∷ [];
          piece = s.piece;
          post = [];
          gives = s.gives;
          stands = s.is ∙ rw append-nil;
          starts = refl;
          ends = omega (arith, ap length s.is);
        } in
        let first : At c 0 (ins JMP 0 (pos 1)) = record { inside = omega (arith, ap length s.is); is = rw s.is } in
        let low : links + v ≤ max_cells = omega (arith, s.few) in
        let en : Entered c room v (begin (length b.vars) input) (replicate max_cells (pos 0)) = record { top = refl; size = length-replicate max_cells (pos 0); low = take_zeros (links + v) max_cells low ∙ zeros_frame v } in
        rw (run_is c input budget room small, walk_is b s.rs input budget room s.declared) (program_agrees c room v s.few s.rs s.sound b.main first whole budget (begin (length b.vars) input) (replicate max_cells (pos 0)) en)

-- an accepted text's tree was translated to its code
pub taken : (src : List ℕ) (b : Block) (c : List Instr) → parse src ≡ tree b → compile src ≡ accepted c → (rs : List Row) × (a : ℕ) × (block_code b ≡ finished c rs a)
taken src b c p e =
    let h = behind src c e in
    let same : h.block ≡ b = cc in
    (h.rows, h.next, rw (sym same) h.made)

-- no refusal has the number 0, so that the number 0 says that the text was accepted
pub accepted_at_0 : (src : List ℕ) → number_of (compile src) ≡ done → compile src ≡ accepted (code_of (compile src))
unfolding compile from_tree translated reading
accepted_at_0 src e = parsed (reading src) (unread (leb (length src) max_source) (every is_ascii src)) e
  where
    never : (n : ℕ) → ltb 0 n ≡ true → n ≡ 0 → not_accepted n ≡ accepted []
    never n l e = absurd (omega (arith, ltb-true 0 n l))

    block : (d : Done) → DoneNumbered d → number_of (translated d) ≡ 0 → translated d ≡ accepted (code_of (translated d))
    block (finished c rs a) h e = refl
    block (failed n) (not_done l) e = never n l e

    parsed : (t : Parsed) → ((n : ℕ) → t ≡ refused n → ltb 0 n ≡ true) → number_of (from_tree t) ≡ 0 → from_tree t ≡ accepted (code_of (from_tree t))
    parsed (tree b) h e = block (block_code b) (block_no b) e
    parsed (refused n) h e = never n (h n refl) e

    unread : (x y : Bool) (n : ℕ) → elim x as (λ z. Parsed) [ false ↦ refused source_too_long | true ↦ elim y as (λ z. Parsed) [ false ↦ refused source_not_ascii | true ↦ parse src ] ] ≡ refused n → ltb 0 n ≡ true
    unread true true n e = parse_refuses src n e
    unread true false n e = let z : n ≡ source_not_ascii = cc in rw z
    unread false y n e = let z : n ≡ source_too_long = cc in rw z

-- Whatever text compile answers with 0, and whose tree holds no procedure: its walk and the run of its code agree, for every input,
-- budget and room for output
pub agreement : (src : List ℕ) (b : Block) → number_of (compile src) ≡ done → parse src ≡ tree b → b.procs ≡ no_procs
    → (input : List ℕ) (budget room : ℕ) → Agrees (length b.vars) (walk src input budget room) (run_of (code_of (compile src)) input budget room)
unfolding walk
agreement src b z p none input budget room =
    let e : compile src ≡ accepted (code_of (compile src)) = accepted_at_0 src z in
    let (rs, a, f) = taken src b (code_of (compile src)) p e in
    let w : walk_after (compile src) (parse src) input budget room ≡ walk_block b input budget room =
    ap (λ x. walk_after x (parse src) input budget room) e ∙ ap (λ t. walk_parsed t input budget room) p ∙ ap (λ ps. walk_unless ps (walk_block b input budget room) input budget) none in
    subst (λ x. Agrees (length b.vars) x (run_of (code_of (compile src)) input budget room)) (sym w) (block_agrees b (code_of (compile src)) rs a none f (accepted_shape src (code_of (compile src)) e).most input budget room)

-- such a program has at most 512 variables
pub few_variables : (src : List ℕ) (b : Block) → number_of (compile src) ≡ done → parse src ≡ tree b → b.procs ≡ no_procs → length b.vars ≤ max_rows
few_variables src b z p none =
    let (rs, a, f) = taken src b (code_of (compile src)) p (accepted_at_0 src z) in
    (standing b (code_of (compile src)) rs a none f).few

-- so each variable is in its cell: the place i of the walk is the machine's cell 3 + i
pub variables : (v : ℕ) (x : Walked) (e : Ended) → Agrees v x e → (i : ℕ) → i < v → get_or e.machine.cells (links + i) (pos 0) ≡ get_or x.final.vars i (pos 0)
variables v x e h i l =
    let n : links + i ≡ suc (suc (suc i)) = omega arith in
    let m : suc (suc (suc i)) < links + v = omega arith in
    rw n (sym (get_or-take (links + v) e.machine.cells (suc (suc (suc i))) (pos 0) m) ∙ ap (λ c. get_or c (suc (suc (suc i))) (pos 0)) h.cells)

-- and the steps completed are the same
pub steps : (v : ℕ) (x : Walked) (e : Ended) → Agrees v x e → (budget : ℕ) → budget - e.left ≡ budget - x.left
steps v x e h budget = rw h.left

-- in a main block without procedures whose declarations are taken, no call is: 10 or 11
pub no_call : (b : Block) (r₁ r₂ : List Row) → const_rows [] 0 links main_scope b.consts ≡ rows r₁ → var_rows r₁ 0 links main_scope b.vars ≡ rows r₂
    → (n : Name) (es : List Exp) (p : ℕ) → (k : ℕ) × (stmt_code (main r₂) (call n es) p ≡ refuse k) × (name_not_found ≤ k) × (k ≤ wrong_kind)
no_call b r₁ r₂ f₁ f₂ =
    let (s₁, l₁) = const_rows_lem (links + length b.vars) b.consts [] r₁ f₁ tt (omega arith) in
    let (s₂, l₂) = var_rows_lem (links + length b.vars) b.vars 3 r₁ r₂ f₂ (omega arith) (omega arith) s₁ l₁ in
    call_refused (length b.vars) r₂ (sound_rows (links + length b.vars) r₂ s₂)

-- The proof of `compile`.
use mathlib.Core.Path.{refl, sym, ap, ◌∙◌}
use lib.ListN.{length}
use Rattle.numbers.specs.Limits.{tree_places, table_places, draft_places}
use Rattle.pcode.specs.Code.{Code}
use Rattle.outcomes.specs.Compile.{code_of, compile}
use Rattle.outcomes.specs.Outcomes.{Work}
use Rattle.engine.specs.Entries.{taken}
use Rattle.engine.proofs.Compiling.{leaves, wiped, whole, roomy, cramped, code_short, work_short, table_short, draft_short, all_held, all_long}
use Rattle.engine.proofs.entries.compile.Goals as goal
use Rattle.engine.proofs.entries.compile.Goals.{After-answer-compiled}

pub returns-then-not-holds_code : goal.returns-then-not-holds_code
returns-then-not-holds_code c =
    let code : Code = record { kinds = c.args.kinds.now; levels = c.args.levels.now; operands = c.args.operands.now } in
    let work : Work = record { tree = c.args.tree.now; table = c.args.table.now; draft = c.args.draft.now } in
    cramped c.args.text.now code work (code_short code work (sym c.holds_code.ensures ∙ c.if-not-holds_code.true)) c.answer.ensures refl refl refl

pub returns-in_default-first_chunk_mut : goal.returns-in_default-first_chunk_mut
returns-in_default-first_chunk_mut c =
    let code : Code = record { kinds = c.args.kinds.now; levels = c.args.levels.now; operands = c.args.operands.now } in
    let work : Work = record { tree = c.args.tree.now; table = c.args.table.now; draft = c.args.draft.now } in
    cramped c.args.text.now code work (work_short code work (sym c.holds_code.ensures ∙ c.if-not-holds_code.false) (table_short work c.in-Some.ensures.cases.enough c.in_default-first_chunk_mut.ensures.cases)) c.answer-in_default-first_chunk_mut.ensures
    (whole 98400 c.in-Some.ensures.cases.same) refl refl

pub room_some-draft : goal.room_some-draft
room_some-draft c = (c.in-Some-first_chunk_mut-2.is, refl)

pub returns-in_default-first_chunk_mut-2 : goal.returns-in_default-first_chunk_mut-2
returns-in_default-first_chunk_mut-2 c =
    let code : Code = record { kinds = c.args.kinds.now; levels = c.args.levels.now; operands = c.args.operands.now } in
    let work : Work = record { tree = c.args.tree.now; table = c.args.table.now; draft = c.args.draft.now } in
    cramped c.args.text.now code work
    (work_short code work (sym c.holds_code.ensures ∙ c.if-not-holds_code.false) (draft_short work c.in-Some.ensures.cases.enough c.in-Some-first_chunk_mut.ensures.cases.enough c.in_default-first_chunk_mut-2.ensures.cases))
    c.answer-in_default-first_chunk_mut-2.ensures (whole 98400 c.in-Some.ensures.cases.same) (whole 6144 c.in-Some-first_chunk_mut.ensures.cases.same) refl

pub hand_out-requires-clause-drafts : goal.hand_out-requires-clause-drafts
hand_out-requires-clause-drafts c =
    let e = ap (λ a. a.length) c.answer-compiled.ensures in
    (code_of (compile c.args.text.now), rw e (taken c.draft_text.ensures).stands)

pub hand_out-requires-clause-n_le_max_code : goal.hand_out-requires-clause-n_le_max_code
hand_out-requires-clause-n_le_max_code c = rw (ap (λ a. a.length) c.answer-compiled.ensures) (taken c.draft_text.ensures).few

pub hand_out-requires-clause-max_code_in_bounds : goal.hand_out-requires-clause-max_code_in_bounds
hand_out-requires-clause-max_code_in_bounds c =
    all_long 4096 (length c.args.kinds.now) 4096 (length c.args.levels.now) 4096 (length c.args.operands.now) (sym c.holds_code.ensures ∙ c.if-not-holds_code.false)

pub returns : goal.returns
returns c =
    let code : Code = record { kinds = c.args.kinds.now; levels = c.args.levels.now; operands = c.args.operands.now } in
    let work : Work = record { tree = c.args.tree.now; table = c.args.table.now; draft = c.args.draft.now } in
    let t = taken c.draft_text.ensures in
    let l = code_of (compile c.args.text.now) in
    let e = ap (λ a. a.length) c.answer-compiled.ensures in
    let d = rw (sym e) at t.stands in
    roomy c.args.text.now code work (sym c.holds_code.ensures ∙ c.if-not-holds_code.false) (all_held work c.in-Some.ensures.cases.enough c.in-Some-first_chunk_mut.ensures.cases.enough c.in-Some-first_chunk_mut-2.ensures.cases.enough)
    (leaves (compile c.args.text.now) code work c.draft_text.result t c.answer-compiled.ensures (c.hand_out.ensures.kinds_after l d) (c.hand_out.ensures.levels_after l d) (c.hand_out.ensures.operands_after l d)
    (wiped tree_places c.args.tree.now c.wipe.ensures.tree_after) (wiped table_places c.args.table.now c.wipe.ensures.table_after) (wiped draft_places c.args.draft.now c.wipe.ensures.draft_after))

-- The proof of `walk`.
use mathlib.Core.Path.{refl}
use lib.IntN.{pos}
use Rattle.numbers.specs.Limits.{tree_places, table_places, draft_places}
use Rattle.numbers.proofs.Putting.{filled_front}
use Rattle.outcomes.specs.Outcomes.{Work}
use Rattle.engine.proofs.Compiling.{wiped, whole, tree_short, table_short, draft_short, all_held}
use Rattle.engine.proofs.Walking.{zeros_stay, all_left, roomy_walk, cramped_vars, cramped_room, ended_is}
use Rattle.engine.proofs.walks.walk.Goals as goal

pub returns-then-vars-lt-MAX_ROWS : goal.returns-then-vars-lt-MAX_ROWS
returns-then-vars-lt-MAX_ROWS c =
    let work : Work = record { tree = c.args.tree.now; table = c.args.table.now; draft = c.args.draft.now } in
    cramped_vars c.args.text.now c.args.input.now c.args.budget c.args.out.now c.args.vars.now work c.refused.ensures c.if-vars-lt-MAX_ROWS.true

pub returns-in_default : goal.returns-in_default
returns-in_default c =
    let work : Work = record { tree = c.args.tree.now; table = c.args.table.now; draft = c.args.draft.now } in
    cramped_room c.args.text.now c.args.input.now c.args.budget c.args.out.now c.args.vars.now work c.refused-in_default.ensures c.if-vars-lt-MAX_ROWS.false (tree_short work c.in_default.ensures.cases) refl refl refl

pub returns-in_default-first_chunk_mut : goal.returns-in_default-first_chunk_mut
returns-in_default-first_chunk_mut c =
    let work : Work = record { tree = c.args.tree.now; table = c.args.table.now; draft = c.args.draft.now } in
    cramped_room c.args.text.now c.args.input.now c.args.budget c.args.out.now c.args.vars.now work c.refused-in_default-first_chunk_mut.ensures c.if-vars-lt-MAX_ROWS.false (table_short work c.in-Some.ensures.cases.enough c.in_default-first_chunk_mut.ensures.cases) (whole 98400 c.in-Some.ensures.cases.same) refl refl

pub room_some-draft : goal.room_some-draft
room_some-draft c = (c.in-Some-first_chunk_mut-2.is, refl)

pub returns-in_default-first_chunk_mut-2 : goal.returns-in_default-first_chunk_mut-2
returns-in_default-first_chunk_mut-2 c =
    let work : Work = record { tree = c.args.tree.now; table = c.args.table.now; draft = c.args.draft.now } in
    cramped_room c.args.text.now c.args.input.now c.args.budget c.args.out.now c.args.vars.now work c.refused-in_default-first_chunk_mut-2.ensures c.if-vars-lt-MAX_ROWS.false (draft_short work c.in-Some.ensures.cases.enough c.in-Some-first_chunk_mut.ensures.cases.enough c.in_default-first_chunk_mut-2.ensures.cases)
    (whole 98400 c.in-Some.ensures.cases.same) (whole 6144 c.in-Some-first_chunk_mut.ensures.cases.same) refl

pub walk_text-walked-requires : goal.walk_text-walked-requires
walk_text-walked-requires c = zeros_stay c.args.vars.now (filled_front 512 (pos 0) c.args.vars.now c.if-vars-lt-MAX_ROWS.false c.clear.ensures refl)

pub returns : goal.returns
returns c =
    let work : Work = record { tree = c.args.tree.now; table = c.args.table.now; draft = c.args.draft.now } in
    let vars = c.args.vars.now in
    let e = ended_is c.walk_text-walked.result c.unwrap_or_else-ended.ensures in
    roomy_walk c.args.text.now c.args.input.now c.args.budget c.args.out.now vars work c.if-vars-lt-MAX_ROWS.false
    (all_held work c.in-Some.ensures.cases.enough c.in-Some-first_chunk_mut.ensures.cases.enough c.in-Some-first_chunk_mut-2.ensures.cases.enough)
    (all_left _ c.args.budget c.args.out.now vars work {r = c.unwrap_or_else-ended.result} (filled_front 512 (pos 0) vars c.if-vars-lt-MAX_ROWS.false c.clear.ensures refl) (rw e c.walk_text-walked.ensures)
    (wiped tree_places c.args.tree.now c.wipe.ensures.tree_after) (wiped table_places c.args.table.now c.wipe.ensures.table_after) (wiped draft_places c.args.draft.now c.wipe.ensures.draft_after))

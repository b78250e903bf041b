-- The proof of `related`.
use borrow.Author.Rules.{rules, sfits_of}
use native.Mathlib.Omega.{arith}
use mathlib.Core.Path.{refl, ap, ◌∙◌}
use mir.Syntax.{w64}
use mir.ValLaws.{to_z-of_z}
use Rattle.std.proofs.lemmas.Result.{err_from_is_err_and}
use Rattle.numbers.specs.Arithmetic.{val, compare, compared, flag}
use Rattle.numbers.specs.Answers.{compare_of}
use Rattle.numbers.proofs.Bits.{plain_2}
use Rattle.walk.specs.Walk.{on_two}
use Rattle.walk.proofs.Cells.{some_state}
use Rattle.walk.proofs.Exps.{gives_stop, went, on_two_lem}
use Rattle.walk.proofs.expressions.related.Goals as goal

pub returns-in_err-y : goal.returns-in_err-y
returns-in_err-y c =
    let p = err_from_is_err_and c.from_residual.result c.from_residual.ensures.1 in
    λ t a w sh. rw (p.1, p.2) (gives_stop c.in_err-y.was (c.exp.ensures t a w sh) (λ y. on_two (compared (compare_of c.args.op) c.args.x y)))

pub overflow_sub-clock : goal.overflow_sub-clock
overflow_sub-clock c =
    let o = some_state _ c.args.env.now c.args.clock.now c.requires.known.room in
    omega (arith, (went c.in_ok-y.was (c.exp.ensures _ c.requires.has_exp.at o.0 o.1)).top)

pub returns : goal.returns
returns c = λ t a w sh. on_two_lem c.in_ok-y.was (c.exp.ensures t a w sh) (compared (compare_of c.args.op) c.args.x) _
    (ap val (to_z-of_z w64 _ (sfits_of c.flag_of-flag.type_inv) ∙ c.flag_of-flag.ensures ∙ ap flag (plain_2 (compare (compare_of c.args.op)) c.args.x c.in_ok-y.y c.ranges.x (search rules) c.holds.ensures))) refl c.settle.ensures

-- `line::fill_column` meets its contract.
use mathlib.Core.Path.{◌≡◌, sym, ap, ◌∙◌}
use mathlib.Core.List.{List, ◌++◌}
use Prim.Native.Nat.{ℕ, ◌-◌}
use native.Mathlib.Omega.{arith}
use lib.IntN.{pos}
use lib.ListN.{length, take, drop, length-drop}
use lib.Seq.{length-take-le}
use Rattle.numbers.specs.Bytes.{bytes}
use Rattle.numbers.specs.Screen.{decimal}
use Rattle.numbers.proofs.Scans.{rest_of}
use Rattle.numbers.proofs.Decimals.{rest_filled}
use Rattle.listing.proofs.Columns.{column_least, digits_within, blanks_first, column_filled}
use Rattle.listing.proofs.line.fill_column.Goals as goal

pub slice_bounds-copy_from_slice-end : goal.slice_bounds-copy_from_slice-end
slice_bounds-copy_from_slice-end c = omega (arith, c.requires, column_least c.args.n)

pub slice_bounds-copy_from_slice-end-2 : goal.slice_bounds-copy_from_slice-end-2
slice_bounds-copy_from_slice-end-2 c = sym (length-take-le 4 c.args.part.now (omega (arith, c.requires, column_least c.args.n)))

pub copy_from_slice-requires : goal.copy_from_slice-requires
copy_from_slice-requires c = length-take-le 4 c.args.part.now (omega (arith, c.requires, column_least c.args.n))

pub overflow_sub-first : goal.overflow_sub-first
unfolding bytes
overflow_sub-first c =
    let part = c.args.part.now in
    omega (arith, c.requires, c.digit_count.ensures, digits_within c.args.n, blanks_first c.copy_from_slice.new.self part c.copy_from_slice.ensures.after (omega (arith, c.requires, column_least c.args.n)))

pub fill_digits-requires : goal.fill_digits-requires
unfolding bytes
fill_digits-requires c =
    let part = c.args.part.now in
    let l = c.copy_from_slice.new.self ++ drop 4 part in
    let size : length l ≡ length part = blanks_first c.copy_from_slice.new.self part c.copy_from_slice.ensures.after (omega (arith, c.requires, column_least c.args.n)) in
    let first = length l - c.digit_count.result in
    rw (rest_of first l, length-drop first l) (omega (arith, c.requires, size, c.digit_count.ensures, digits_within c.args.n))

pub returns : goal.returns
unfolding bytes
returns c =
    let n = c.args.n in
    let part = c.args.part.now in
    let l = c.copy_from_slice.new.self ++ drop 4 part in
    let size : length l ≡ length part = blanks_first c.copy_from_slice.new.self part c.copy_from_slice.ensures.after (omega (arith, c.requires, column_least n)) in
    let first = length l - c.digit_count.result in
    let digits : c.fill_digits.new.part ≡ decimal (pos n) = c.fill_digits.ensures in
    rest_filled first l c.fill_digits.new.part
    ∙ ap (λ (t : List ℕ). take first l ++ t) digits
    ∙ ap (λ (t : List ℕ). take first (t ++ drop 4 part) ++ decimal (pos n)) c.copy_from_slice.ensures.after
    ∙ column_filled n first (drop 4 part) (omega (arith, c.requires, size, c.digit_count.ensures))

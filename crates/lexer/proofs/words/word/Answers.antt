-- `words::word` meets its contract.
use mathlib.Core.Path.{sym, ◌∙◌}
use native.Mathlib.Omega.{arith}
use Rattle.numbers.specs.Bytes.{is_word_byte}
use Rattle.lexer.proofs.Runs.{stop_length}
use Rattle.lexer.proofs.Cases.{bad_word, good_word}
use Rattle.lexer.proofs.words.word.Goals as goal

pub returns-then-byte_at-eq95 : goal.returns-then-byte_at-eq95
returns-then-byte_at-eq95 c = bad_word _ _ _ (c.past-e.ensures is_word_byte (λ b r h. h)) (sym c.byte_at.ensures ∙ c.if-byte_at-eq95.true)

pub slice_bounds-w-end : goal.slice_bounds-w-end
slice_bounds-w-end c = omega (arith, stop_length is_word_byte c.args.text.now c.args.i (omega arith), c.past-e.ensures is_word_byte (λ b r h. h))

pub slice_bounds-w-count : goal.slice_bounds-w-count
slice_bounds-w-count c = omega (arith, c.past-e.ensures is_word_byte (λ b r h. h))

pub slice_bounds-w-start : goal.slice_bounds-w-start
slice_bounds-w-start c = omega (arith, c.past-e.ensures is_word_byte (λ b r h. h))

pub overflow_sub-e : goal.overflow_sub-e
overflow_sub-e c = omega (arith, c.past-e.ensures is_word_byte (λ b r h. h))

pub returns : goal.returns
returns c = good_word _ _ _ (c.past-e.ensures is_word_byte (λ b r h. h)) _ c.requires (λ e. c.if-byte_at-eq95.false (c.byte_at.ensures ∙ e)) c.keyword.ensures

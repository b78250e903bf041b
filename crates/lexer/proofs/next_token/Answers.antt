-- `next_token` meets its contract.
use mathlib.Core.Path.{sym, ◌∙◌}
use Rattle.numbers.specs.Bytes.{is_blank}
use Rattle.lexer.proofs.Cases.{word_case, number_case, sign_case, end_case}
use Rattle.lexer.proofs.next_token.Goals as goal

pub returns-then-is_letter : goal.returns-then-is_letter
returns-then-is_letter c = word_case _ _ _ (c.past-i.ensures is_blank (λ b r h. h)) c.if-i-text.true _ (sym c.is_letter.ensures ∙ c.if-is_letter.true) c.word.ensures

pub returns-then-is_digit : goal.returns-then-is_digit
returns-then-is_digit c = number_case _ _ _ (c.past-i.ensures is_blank (λ b r h. h)) c.if-i-text.true _ (sym c.is_letter.ensures ∙ c.if-is_letter.false) (sym c.is_digit.ensures ∙ c.if-is_digit.true) c.integer.ensures

pub returns-then-i-text : goal.returns-then-i-text
returns-then-i-text c = sign_case _ _ _ (c.past-i.ensures is_blank (λ b r h. h)) c.if-i-text.true _ _ (sym c.is_letter.ensures ∙ c.if-is_letter.false) (sym c.is_digit.ensures ∙ c.if-is_digit.false) c.sign.ensures c.byte_at.ensures

pub returns : goal.returns
returns c = end_case _ _ _ (c.past-i.ensures is_blank (λ b r h. h)) c.if-i-text.false

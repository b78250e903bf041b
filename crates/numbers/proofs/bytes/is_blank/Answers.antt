use Rattle.numbers.specs.Bytes.{is_blank, is_digit, is_letter, is_word_byte}
use Rattle.std.proofs.Common.{rules}
use Rattle.numbers.proofs.bytes.is_blank.Goals as goal

pub returns-in_default : goal.returns-in_default
unfolding is_blank is_digit is_letter is_word_byte
returns-in_default c = search rules

pub returns-in_default-2 : goal.returns-in_default-2
unfolding is_blank is_digit is_letter is_word_byte
returns-in_default-2 c = search rules

pub returns-in-9-to-13 : goal.returns-in-9-to-13
unfolding is_blank is_digit is_letter is_word_byte
returns-in-9-to-13 c = search rules

pub returns-in-9-to-13-2 : goal.returns-in-9-to-13-2
unfolding is_blank is_digit is_letter is_word_byte
returns-in-9-to-13-2 c = search rules

use Rattle.numbers.specs.Bytes.{is_blank, is_digit, is_letter, is_word_byte}
use Rattle.std.proofs.Common.{rules}
use Rattle.numbers.proofs.bytes.is_digit.Goals as goal

pub returns : goal.returns
unfolding is_blank is_digit is_letter is_word_byte
returns c = search rules

-- `see::see` meets its contract.
use mathlib.Core.Path.{refl}
use Rattle.numbers.specs.declared.refusal.Refusal.TheVariants.{BadToken, LiteralTooBig, TooManyTokens, TokenMissing}
use Rattle.lexer.specs.declared.token.Token.TheVariants.{LexicalError, TooBig, TooMany, EndOfText}
use Rattle.parser.proofs.Tokens.{sound_token}
use Rattle.parser.proofs.Seeing.{see_refused, see_at}
use Rattle.parser.proofs.see.see.Goals as goal

pub returns-in-LexicalError : goal.returns-in-LexicalError
returns-in-LexicalError c = see_refused c.look-c.ensures LexicalError BadToken c.in-LexicalError.is refl refl

pub returns-in-TooBig : goal.returns-in-TooBig
returns-in-TooBig c = see_refused c.look-c.ensures TooBig LiteralTooBig c.in-TooBig.is refl refl

pub returns-in-TooMany : goal.returns-in-TooMany
returns-in-TooMany c = see_refused c.look-c.ensures TooMany TooManyTokens c.in-TooMany.is refl refl

pub returns-in-EndOfText : goal.returns-in-EndOfText
returns-in-EndOfText c = see_refused c.look-c.ensures EndOfText TokenMissing c.in-EndOfText.is refl refl

pub returns-in_default : goal.returns-in_default
returns-in_default c = see_at c.look-c.ensures (sound_token _ c.in_default.not-LexicalError c.in_default.not-TooBig c.in_default.not-TooMany c.in_default.not-EndOfText _)

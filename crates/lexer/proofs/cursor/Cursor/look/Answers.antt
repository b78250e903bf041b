-- `cursor::Cursor::look` meets its contract.
use Rattle.lexer.proofs.Cases.{look_again, look_few, look_many}
use Rattle.lexer.proofs.cursor.Cursor.look.Goals as goal

pub returns-then-self : goal.returns-then-self
returns-then-self c = look_again _ _ c.if-self.true

pub returns-then-self-lt-MAX_TOKENS : goal.returns-then-self-lt-MAX_TOKENS
returns-then-self-lt-MAX_TOKENS c = look_few _ _ c.if-self.false c.next_token-lexed.ensures c.if-self-lt-MAX_TOKENS.true

pub returns-else-self-lt-MAX_TOKENS : goal.returns-else-self-lt-MAX_TOKENS
returns-else-self-lt-MAX_TOKENS c = look_many _ _ c.if-self.false c.next_token-lexed.ensures _ c.if-self-lt-MAX_TOKENS.false c.beyond.ensures

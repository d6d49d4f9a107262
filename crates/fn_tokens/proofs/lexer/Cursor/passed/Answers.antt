use Rattle.fn_tokens.proofs.Passing.{passed}
use Rattle.fn_tokens.proofs.lexer.Cursor.passed.Goals as goal

pub returns-clause-tokens : goal.returns-clause-tokens
returns-clause-tokens c = passed c.args.self c.args.bytes.now c.requires.within

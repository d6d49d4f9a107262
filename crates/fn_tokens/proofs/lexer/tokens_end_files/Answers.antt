use Rattle.fn_tokens.proofs.Ends.{file_ends}
use Rattle.fn_tokens.proofs.lexer.tokens_end_files.Goals as goal

pub returns : goal.returns
returns c = λ bytes. file_ends bytes

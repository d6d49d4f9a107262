use Rattle.std.proofs.Common.{true}
use Rattle.fn_tokens.proofs.LexesBack.{lines_lex}
use Rattle.fn_tokens.proofs.Size.{spelled_size}
use Rattle.fn_tokens.proofs.spelling.lines_lex_back.Goals as goal

pub returns-clause-back : goal.returns-clause-back
returns-clause-back c = λ tokens lines. lines_lex true tokens 1 1 lines

pub returns-clause-short : goal.returns-clause-short
returns-clause-short c = λ tokens lines. spelled_size true tokens lines

use Rattle.std.proofs.Common.{true}
use Rattle.fn_grammar.specs.Print.{function_tokens}
use Rattle.fn_tokens.proofs.LexesBack.{lines_lex}
use Rattle.fn_grammar.proofs.Printing.Lines.{function_in_lines}
use Rattle.fn_grammar.proofs.theorems.canonical_text_lexes_back.Goals as goal

pub returns : goal.returns
returns c = λ f valid. lines_lex true (function_tokens f) 1 1 (function_in_lines f valid)

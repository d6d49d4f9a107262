-- What is behind the first byte is all that is left of the bytes.
use Rattle.std.proofs.Common.{◌≡◌, ◌+◌, ◌-◌, ◌∷◌, drop, take, length, get_or, sym, ap, ◌∙◌, refl}
use Rattle.std.specs.List.{prefix_len}
use Rattle.std.proofs.lemmas.List.{take_rest}
use Rattle.fn_tokens.specs.declared.lexer.Run.TheVariants as runs
use Rattle.fn_tokens.specs.Words.{word_token}
use Rattle.fn_tokens.specs.Tokens.{is_in}
use Rattle.fn_tokens.proofs.Lexing.{take_first}
use Rattle.fn_tokens.proofs.lexer.word_front.Goals as goal

pub returns-clause-value : goal.returns-clause-value
returns-clause-value c =
    let bytes = c.args.bytes.now in
    let behind : take (length bytes - 1) (drop 1 bytes) ≡ drop 1 bytes = take_rest bytes 1 in
    let count : c.len-more.result ≡ prefix_len (is_in runs.Word) (drop 1 bytes) = c.len-more.ensures.count
    ∙ ap (prefix_len (is_in runs.Word)) behind in
    let front : get_or bytes 0 0 ∷ take c.len-more.result (drop 1 bytes) ≡ take (c.len-more.result + 1) bytes =
    take_first bytes c.len-more.result c.requires in
    let token : c.word_of-token.result ≡ word_token (get_or bytes 0 0 ∷ take c.len-more.result (drop 1 bytes)) =
    c.word_of-token.ensures ∙ ap word_token (sym front) in
    rw (← count) (rw (← token) refl)

use Rattle.std.proofs.Common.{List, ap, sym, ◌∙◌, ℕ}
use Rattle.proof_text.specs.Fronts.{Found}
use Rattle.proof_text.specs.Tokens.{token_front}
use Rattle.proof_text.proofs.Places.{from_there}
use Rattle.proof_text.proofs.TokenLemmas.{token_behind}
use Rattle.proof_text.proofs.token.read_token.Goals as goal

pub overflow_sub-result : goal.overflow_sub-result
overflow_sub-result c =
    (token_behind c.args.bytes.now c.args.at c.token.new.tok c.in_ok-rest.rest.now c.requires
    (from_there token_front c.args.bytes.now c.in_ok-rest.rest.now c.args.at c.token.new.tok
    c.in_ok-rest.ensures.found)).0

pub returns : goal.returns
returns c =
    let is = from_there token_front c.args.bytes.now c.in_ok-rest.rest.now c.args.at c.token.new.tok
    c.in_ok-rest.ensures.found in
    let b = token_behind c.args.bytes.now c.args.at c.token.new.tok c.in_ok-rest.rest.now c.requires is in
    (b.1, b.2, is ∙ ap (λ (l : List ℕ). Found c.token.new.tok l) (sym b.3))

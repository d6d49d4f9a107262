use Rattle.std.proofs.Common.{List, ap, sym, ◌∙◌, ℕ}
use Rattle.proof_text.specs.Fronts.{Found, fixed_front}
use Rattle.proof_text.proofs.LineLemmas.{fixed_behind}
use Rattle.proof_text.proofs.Places.{from_there}
use Rattle.proof_text.proofs.line.read_fixed.Goals as goal

pub overflow_sub-result : goal.overflow_sub-result
overflow_sub-result c =
    (fixed_behind c.args.bytes.now c.args.at c.args.text.now c.in_ok-rest.rest.now c.requires.some c.requires.within
    (from_there (fixed_front c.args.text.now) c.args.bytes.now c.in_ok-rest.rest.now c.args.at tt
    c.in_ok-rest.ensures.found)).0

pub returns : goal.returns
returns c =
    let is = from_there (fixed_front c.args.text.now) c.args.bytes.now c.in_ok-rest.rest.now c.args.at tt
    c.in_ok-rest.ensures.found in
    let b = fixed_behind c.args.bytes.now c.args.at c.args.text.now c.in_ok-rest.rest.now
    c.requires.some c.requires.within is in
    (b.1, b.2, is ∙ ap (λ (l : List ℕ). Found tt l) (sym b.3))

use Rattle.std.proofs.Common.{List, ap, sym, ◌∙◌, ℕ}
use Rattle.proof_text.specs.Fronts.{Found}
use Rattle.proof_text.proofs.LineLemmas.{header_behind}
use Rattle.proof_text.proofs.line.read_header.Goals as goal

pub overflow_sub-result : goal.overflow_sub-result
overflow_sub-result c = (header_behind c.in-Ok.level c.args.bytes.now c.in-Ok.rest.now c.in-Ok.ensures.found).0

pub returns-in-Ok-clause-found : goal.returns-in-Ok-clause-found
returns-in-Ok-clause-found c =
    let is = c.in-Ok.ensures.found in
    let b = header_behind c.in-Ok.level c.args.bytes.now c.in-Ok.rest.now is in
    (b.1, b.2, is ∙ ap (λ (l : List ℕ). Found c.in-Ok.level l) (sym b.3))

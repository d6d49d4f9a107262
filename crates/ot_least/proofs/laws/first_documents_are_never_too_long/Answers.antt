use Rattle.ot_least.proofs.FirstEnds.{never_too_long}
use Rattle.ot_least.proofs.laws.first_documents_are_never_too_long.Goals as goal

pub returns : goal.returns
returns c f budget short valid =
    never_too_long f budget
    (λ ob q e values. c.first_documents_have_at_most_1000_cells.ensures.lists f ob q e values valid) short

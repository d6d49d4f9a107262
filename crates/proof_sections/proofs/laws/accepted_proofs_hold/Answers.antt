use Rattle.proof_sections.proofs.Holding.{proof_holds}
use Rattle.proof_sections.proofs.laws.accepted_proofs_hold.Goals as goal

pub returns : goal.returns
returns g c =
    proof_holds c.tokens_are_found_exactly.ensures c.proof_tokens_are_taken_one_by_one.ensures.taken
    c.completed_plans_hold.ensures

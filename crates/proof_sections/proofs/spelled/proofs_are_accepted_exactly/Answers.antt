use Rattle.proof_sections.proofs.Accepting.{LinesAreFound, proof_accepted}
use Rattle.proof_sections.proofs.Made.{accepted_made}
use Rattle.proof_sections.proofs.spelled.proofs_are_accepted_exactly.Goals as goal

-- bytes that are accepted are made of trees, and a proof is accepted
pub returns : goal.returns
returns g c compare plan names bytes level =
    let lines : LinesAreFound = record {
      headers = c.lines_are_found_exactly.ensures.headers;
      obs = c.lines_are_found_exactly.ensures.obs;
      line_ends = c.lines_are_found_exactly.ensures.line_ends;
      ends = c.lines_are_found_exactly.ensures.ends;
    } in
    let taken = c.proof_tokens_are_taken_one_by_one.ensures.taken in
    let refused = c.proof_tokens_are_taken_one_by_one.ensures.refused in (
      λ ok. accepted_made c.tokens_are_found_exactly.ensures taken lines compare plan names bytes level ok,
      λ is. proof_accepted c.tokens_are_found_exactly.ensures taken refused lines compare plan names bytes level is,
    )

use Rattle.proof_sections.proofs.Standing.{PartsStayFound, refusal_stands, stays_found}
use Rattle.proof_sections.proofs.laws.refusals_stand.Goals as goal

-- all that is found exactly stays found, so refusals stand
pub returns : goal.returns
returns g c =
    let lines = c.lines_are_found_exactly.ensures in
    let parts : PartsStayFound =
    record {
      headers = stays_found lines.headers;
      obs = λ name. stays_found (lines.obs name);
      tokens = stays_found c.tokens_are_found_exactly.ensures;
      line_ends = stays_found lines.line_ends;
      ends = stays_found lines.ends;
    } in
    refusal_stands parts

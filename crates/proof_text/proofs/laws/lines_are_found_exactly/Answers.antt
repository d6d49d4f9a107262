use Rattle.cert_text.specs.Spelling.{end_text, ob_text}
use Rattle.proof_text.specs.Spelling.{newline_text}
use Rattle.proof_text.proofs.ExactLemmas.{finds_exactly}
use Rattle.proof_text.proofs.FixedLemmas.{fixed_spelled}
use Rattle.proof_text.proofs.LineLemmas.{headers_spelled}
use Rattle.proof_text.proofs.laws.lines_are_found_exactly.Goals as goal

pub returns : goal.returns
returns c = record {
  headers = finds_exactly headers_spelled;
  obs = λ name. finds_exactly (fixed_spelled (ob_text name));
  line_ends = finds_exactly (fixed_spelled newline_text);
  ends = finds_exactly (fixed_spelled end_text);
}

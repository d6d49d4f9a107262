use Rattle.ot_bound.proofs.OneLow.{low_judged_once}
use Rattle.ot_bound.proofs.laws.bytes_have_one_low_judgement.Goals as goal

pub returns : goal.returns
returns c f bytes =
    low_judged_once f bytes c.bytes_are_judged_once.ensures c.low_certificates_are_sections.ensures.parts

use Rattle.ot_bound.proofs.OneLow.{judged_is_low, low_is_judged}
use Rattle.ot_bound.proofs.laws.low_certificates_are_sections.Goals as goal

pub returns-clause-parts : goal.returns-clause-parts
returns-clause-parts c f level bound bytes =
    low_is_judged f level bound bytes c.sections_are_parts_that_fit.ensures.parts

pub returns-clause-certificate : goal.returns-clause-certificate
returns-clause-certificate c f level bound bytes =
    judged_is_low f level bound bytes c.sections_are_parts_that_fit.ensures.sections

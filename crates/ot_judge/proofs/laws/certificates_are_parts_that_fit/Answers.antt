-- The parts of a certificate, from its trees and back.
use Rattle.ot_judge.proofs.Headers.{certificate_is_whole, whole_is_certificate}
use Rattle.ot_judge.proofs.laws.certificates_are_parts_that_fit.Goals as goal

pub returns-clause-parts : goal.returns-clause-parts
returns-clause-parts c = λ f level bytes. certificate_is_whole f c.sections_are_parts_that_fit.ensures.parts level bytes

pub returns-clause-certificate : goal.returns-clause-certificate
returns-clause-certificate c =
    λ f level bytes. whole_is_certificate f c.sections_are_parts_that_fit.ensures.sections level bytes

use Rattle.cert_text.proofs.WholeCertificates.{certificate_written}
use Rattle.cert_text.proofs.laws.read_certificates_are_written.Goals as goal

pub returns : goal.returns
returns c = certificate_written

use Rattle.cert_text.proofs.WholeCertificates.{certificate_read}
use Rattle.cert_text.proofs.laws.written_certificates_are_read.Goals as goal

pub returns : goal.returns
returns c = certificate_read

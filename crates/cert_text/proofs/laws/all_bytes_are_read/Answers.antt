use Rattle.cert_text.proofs.Endings.{all_read}
use Rattle.cert_text.proofs.laws.all_bytes_are_read.Goals as goal

pub returns : goal.returns
returns c = all_read

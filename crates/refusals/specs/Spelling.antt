-- The refusal of bytes by their spelling.
use Rattle.cert_text.specs.declared.item.CertError.{CertError}
use Rattle.cert_text.specs.declared.item.CertError.TheVariants as cert
use Rattle.refusals.specs.declared.refusal.Refusal.TheVariants as why
use Rattle.refusals.specs.declared.refusal.JudgeError.{JudgeError}
use Rattle.refusals.specs.declared.refusal.JudgeError.TheVariants as judge

abbrev pub end_of_spelling : CertError → JudgeError
end_of_spelling (cert.BadToken offset) = judge.Refused offset why.Token
end_of_spelling (cert.Truncated offset) = judge.Refused offset why.Truncated
end_of_spelling (cert.Trailing offset) = judge.Refused offset why.Trailing

use Rattle.std.proofs.Common.{⊎_elim, arith}
use Rattle.cert_text.proofs.CycleLemmas.{other_byte_is_wrong}
use Rattle.cert_text.proofs.cycle.Cycle.step.Goals as goal

pub returns : goal.returns
returns c =
    other_byte_is_wrong _ _ _ c.requires.begun.1 c.requires.begun.2
    (λ low high. ⊎_elim (λ h. omega (arith, h.1)) (λ h. omega arith) c.else-byte-ge48.either)
    (λ e. omega arith) (λ e. omega arith)

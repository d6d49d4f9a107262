use Rattle.std.proofs.Common.{◌≡◌, ◌↔◌, refl}
use Rattle.ask_core.specs.declared.tree.Tok.{Tok}
use Rattle.ask_core.specs.declared.tree.Tok.TheVariants as tok
use Rattle.cert_text.specs.Spelling as cert
use Rattle.proof_text.specs.Spelling.{IsSpellableInProof, proof_token, proof_token_text}
use Rattle.proof_text.proofs.laws.certificate_tokens_are_spelled_alike.Goals as goal

text : (t : Tok) → proof_token_text (proof_token t) ≡ cert.token_text t
text tok.Ask = refl
text tok.Holds = refl
text (tok.Cycle picks) = refl

spellable : (t : Tok) → IsSpellableInProof (proof_token t) ↔ cert.IsSpellable t
spellable tok.Ask = (λ h. h, λ h. h)
spellable tok.Holds = (λ h. h, λ h. h)
spellable (tok.Cycle picks) = (λ h. h, λ h. h)

pub returns : goal.returns
returns c = record { text = text; spellable = spellable }

use Rattle.proof_trees.proofs.CertificateTrees.{Shows-proof_of}
use Rattle.ot_confirm.specs.Certified.{under_proof_header}
use Rattle.ot_confirm.proofs.Certified.{certificate_is_proof}
use Rattle.ot_confirm.proofs.spelled.certificates_are_accepted_as_proofs.Goals as goal

pub returns : goal.returns
returns c f bytes level is =
    (c.proofs_are_made_of_trees.ensures f (under_proof_header level bytes) level).1
    (certificate_is_proof f c.certificate_tokens_are_spelled_alike.ensures.text
    c.certificate_tokens_are_spelled_alike.ensures.spellable
    Shows-proof_of (c.marked_plans_are_plans.ensures.obligations f) bytes level is)

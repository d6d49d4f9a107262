use Rattle.ot_decide.proofs.verdicts.proofs_are_certificates.Goals as goal

pub returns : goal.returns
returns c f level budget count bytes (lists, asked, (within, none, proof)) = (proof.trees, proof.fit, proof.text)

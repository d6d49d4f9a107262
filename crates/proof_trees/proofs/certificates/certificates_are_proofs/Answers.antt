use Rattle.proof_trees.proofs.CertificateTrees.{Shows-proof_of, learned-proof_of, tree_without_lemmas}
use Rattle.proof_trees.proofs.CertificateTrees.{HasNoLemmas-proof_of}
use Rattle.proof_trees.proofs.certificates.certificates_are_proofs.Goals as goal

pub returns-clause-shows : goal.returns-clause-shows
returns-clause-shows g c = Shows-proof_of

pub returns-clause-teaches : goal.returns-clause-teaches
returns-clause-teaches g c = learned-proof_of

pub returns-clause-all : goal.returns-clause-all
returns-clause-all g c = tree_without_lemmas

pub returns-clause-none : goal.returns-clause-none
returns-clause-none g c = HasNoLemmas-proof_of

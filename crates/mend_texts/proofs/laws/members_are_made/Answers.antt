use Rattle.mend_texts.proofs.Members as members
use Rattle.mend_texts.proofs.laws.members_are_made.Goals as goal

pub returns : goal.returns
returns c = members.members_are_made

use Rattle.cert_text.proofs.ReadingLemmas.{same_part, some_text}
use Rattle.cert_text.proofs.laws.parts_are_told_apart.Goals as goal

pub returns-clause-one_part : goal.returns-clause-one_part
returns-clause-one_part c = same_part

pub returns-clause-some_bytes : goal.returns-clause-some_bytes
returns-clause-some_bytes c = some_text

use Rattle.ot_heads.proofs.Instances.{to_tp1_of, from_tp1_of, to_tp2_of, from_tp2_of}
use Rattle.ot_heads.proofs.laws.properties_are_those_of_transformations.Goals as goal

pub returns-clause-tp1 : goal.returns-clause-tp1
returns-clause-tp1 c = λ f. (to_tp1_of f, from_tp1_of f)

pub returns-clause-tp2 : goal.returns-clause-tp2
returns-clause-tp2 c = λ f. (to_tp2_of f, from_tp2_of f)

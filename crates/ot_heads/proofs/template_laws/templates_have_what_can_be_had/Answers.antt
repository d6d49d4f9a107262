use Rattle.ot_heads.proofs.Levels.{templates-HasTp1, templates-HasTp2}
use Rattle.ot_heads.proofs.template_laws.templates_have_what_can_be_had.Goals as goal

pub returns-clause-tp1 : goal.returns-clause-tp1
returns-clause-tp1 c = λ head. templates-HasTp1 head

pub returns-clause-tp2 : goal.returns-clause-tp2
returns-clause-tp2 c = λ head other. templates-HasTp2 head other

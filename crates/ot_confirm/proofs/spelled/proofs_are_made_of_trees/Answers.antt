use Rattle.fn_rules.specs.Obligations.{obligations_of}
use Rattle.start_laws.specs.Starts.{compare_starts}
use Rattle.start_laws.specs.Marking.{marked_plan}
use Rattle.ot_confirm.specs.Judgement.{judgement_of}
use Rattle.ot_confirm.proofs.spelled.proofs_are_made_of_trees.Goals as goal

pub returns : goal.returns
unfolding judgement_of
returns c f bytes level =
    c.proofs_are_accepted_exactly.ensures compare_starts (marked_plan f) (obligations_of f.head) bytes level

use Rattle.fn_rules.specs.Validity.{compares_chars}
use Rattle.ot_audit.proofs.Asked.{near_cases}
use Rattle.ot_audit.proofs.Chosen.{target_there}
use Rattle.ot_audit.proofs.goals.target_goal.Goals as goal

pub at_target-requires-clause-near : goal.at_target-requires-clause-near
at_target-requires-clause-near c = near_cases (compares_chars c.args.first c.args.second) _ c.cases-cases.ensures.valid

pub at_target-requires-clause-target : goal.at_target-requires-clause-target
at_target-requires-clause-target c =
    target_there c.cases-cases.result.now _ c.args.target c.cases-cases.ensures.cases c.requires.target

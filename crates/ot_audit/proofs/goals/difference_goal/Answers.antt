use Rattle.fn_rules.specs.Validity.{compares_chars}
use Rattle.ot_audit.proofs.Asked.{near_cases}
use Rattle.ot_audit.proofs.goals.difference_goal.Goals as goal

pub unless_agreed-requires-clause-near : goal.unless_agreed-requires-clause-near
unless_agreed-requires-clause-near c =
    near_cases (compares_chars c.args.first c.args.second) _ c.cases-cases.ensures.valid

pub unless_agreed-requires-clause-others_near : goal.unless_agreed-requires-clause-others_near
unless_agreed-requires-clause-others_near c =
    near_cases (compares_chars c.args.first c.args.second) _ c.cases-other_cases.ensures.valid

use Rattle.ot_questions.specs.Obligation.{plan_of}
use Rattle.ot_least.proofs.Breaking.{breaks_there}
use Rattle.ot_least.proofs.Instances.{instance_there}
use Rattle.ot_least.proofs.laws.failing_ends_break_at_their_length.Goals as goal

pub returns-clause-fails : goal.returns-clause-fails
returns-clause-fails c f ob why w v n valid listed lead zero length met =
    breaks_there c.pair_plans_mean_tp1.ensures.pair c.triple_plans_mean_tp2.ensures.triple f valid ob why v n listed
    zero length (c.answers_lead_to_ends.ensures.ends v why (plan_of f ob) w lead met)

pub returns-clause-instance : goal.returns-clause-instance
returns-clause-instance c = instance_there c.failing_ends_have_counterexamples.ensures.broken

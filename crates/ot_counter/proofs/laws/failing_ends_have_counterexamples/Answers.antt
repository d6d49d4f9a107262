use Rattle.ot_questions.specs.Obligation.{plan_of}
use Rattle.ot_counter.proofs.Counterexamples.{least_broken}
use Rattle.ot_counter.proofs.laws.failing_ends_have_counterexamples.Goals as goal

pub returns-clause-above : goal.returns-clause-above
returns-clause-above c = λ f ob w why valid declared lead (v, z, met).
    let plans = c.plans_compare_like_with_like.ensures in
    c.answers_have_least_values.ensures.above ob w (plans.answers why (plan_of f ob) w (plans.plans f ob valid) lead)
    (v, z, met, plans.positions f ob why w v valid lead z met)

pub returns-clause-parts : goal.returns-clause-parts
returns-clause-parts c = λ f ob w why values who valid lead least below.
    let plans = c.plans_compare_like_with_like.ensures in
    c.answers_have_least_values.ensures.small ob w values who
    (plans.answers why (plan_of f ob) w (plans.plans f ob valid) lead) least below

pub returns-clause-broken : goal.returns-clause-broken
returns-clause-broken c = λ f ob w why values valid declared lead least.
    let plans = c.plans_compare_like_with_like.ensures in
    let pairs = c.pair_ends_at_valuations.ensures in
    let triples = c.triple_ends_at_valuations.ensures in
    (least_broken c.names_stand_for_operations.ensures pairs.fails pairs.breaks triples.fails triples.breaks
    plans.plans plans.answers
    c.answers_lead_to_ends.ensures.ends c.answers_have_least_values.ensures.small f ob w why values
    valid declared lead least).0

pub returns-clause-by_the_cause : goal.returns-clause-by_the_cause
returns-clause-by_the_cause c = λ f ob w why values valid declared lead least.
    let plans = c.plans_compare_like_with_like.ensures in
    let pairs = c.pair_ends_at_valuations.ensures in
    let triples = c.triple_ends_at_valuations.ensures in
    (least_broken c.names_stand_for_operations.ensures pairs.fails pairs.breaks triples.fails triples.breaks
    plans.plans plans.answers
    c.answers_lead_to_ends.ensures.ends c.answers_have_least_values.ensures.small f ob w why values
    valid declared lead least).1

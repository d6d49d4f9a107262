use Rattle.ot_questions.specs.Obligation.{plan_of}
use Rattle.ot_values.proofs.Ends.{first_end_leads}
use Rattle.ot_values.proofs.Shorter.{few_cells}
use Rattle.ot_values.proofs.lengths.first_documents_have_at_most_1000_cells.Goals as goal

pub returns-clause-ends : goal.returns-clause-ends
returns-clause-ends c f ob why w values valid lead least =
    few_cells f ob why w values valid
    (c.plans_compare_like_with_like.ensures.answers why (plan_of f ob) w
    (c.plans_compare_like_with_like.ensures.plans f ob valid) lead) lead least

pub returns-clause-lists : goal.returns-clause-lists
returns-clause-lists c f ob q end values valid list fails least =
    returns-clause-ends c f ob end.why end.answers values valid (first_end_leads (plan_of f ob) q end list fails) least

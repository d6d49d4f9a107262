use Rattle.fn_rules.specs.Functions.{cases_of}
use Rattle.fn_rules.specs.Validity.{compares_chars}
use Rattle.ot_audit.proofs.Asked.{ask_form-guard_form, ask_goal-if_allowed, near_cases}
use Rattle.ot_audit.proofs.Kept.{target_kept, difference_kept}
use Rattle.ot_audit.proofs.Searchable.{target_searchable, difference_searchable}
use Rattle.ot_audit.proofs.laws.goals_are_searchable.Goals as goal

pub returns-clause-target : goal.returns-clause-target
returns-clause-target c = λ f k l target valid declared.
    let kept = c.questions_keep_limits.ensures in
    target_searchable c.questions_mean_the_interpreter.ensures.at_most c.answers_lead_to_ends.ensures.ends
    kept.fine kept.like f k l target
    declared (near_cases (compares_chars k l) (cases_of f k l) (c.cases_are_valid.ensures f k l valid))
    (target_kept kept.operations kept.comparison kept.guard kept.allowed ask_form-guard_form ask_goal-if_allowed f k l
    c.cases_are_valid.ensures target valid)

pub returns-clause-difference : goal.returns-clause-difference
returns-clause-difference c = λ f g k l valid other_valid declared.
    let kept = c.questions_keep_limits.ensures in
    difference_searchable c.questions_mean_the_interpreter.ensures.at_most c.answers_lead_to_ends.ensures.ends kept.fine
    kept.like f g k l declared (near_cases (compares_chars k l) (cases_of f k l) (c.cases_are_valid.ensures f k l
    valid)) (near_cases (compares_chars k l) (cases_of g k l) (c.cases_are_valid.ensures g k l other_valid))
    (difference_kept kept.operations kept.comparison kept.guard kept.allowed ask_form-guard_form ask_goal-if_allowed f k
    l kept.result kept.one_form g c.cases_are_valid.ensures valid other_valid)

use Rattle.fn_rules.specs.Functions.{cases_of}
use Rattle.fn_rules.specs.Validity.{compares_chars}
use Rattle.ot_audit.proofs.Asked.{near_cases}
use Rattle.ot_reverse.proofs.Kept.{reversal_kept}
use Rattle.ot_reverse.proofs.Searchable.{searchable}
use Rattle.ot_reverse.proofs.laws.goals_are_searchable.Goals as goal

pub returns : goal.returns
returns c = λ f e k l valid other_valid declared.
    let kept = c.questions_keep_limits.ensures in
    searchable f e k l (near_cases (compares_chars k l) (cases_of f k l) (c.cases_are_valid.ensures f k l valid))
    (near_cases (compares_chars k l) (cases_of e k l) (c.cases_are_valid.ensures e k l other_valid))
    c.questions_mean_the_interpreter.ensures.at_most c.answers_lead_to_ends.ensures.ends kept.fine kept.like declared
    (reversal_kept kept.operations kept.comparison kept.enabled kept.allowed kept.result kept.one_form
    c.cases_are_valid.ensures f e k l valid other_valid)

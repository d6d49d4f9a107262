use Rattle.ot_reverse.proofs.Telling.{instance_told, whole_told}
use Rattle.ot_reverse.proofs.laws.answers_tell_of_all_documents.Goals as goal

pub returns-clause-instance : goal.returns-clause-instance
returns-clause-instance c = λ f e k l budget.
    instance_told c.names_stand_for_operations.ensures c.any_operations_have_names.ensures
    c.question_lists_tell_where_plans_fail.ensures c.goals_fail_where_nothing_comes_back.ensures.sought
    c.goals_fail_where_nothing_comes_back.ensures.held f e budget k l

pub returns-clause-whole : goal.returns-clause-whole
returns-clause-whole c =
    whole_told c.names_stand_for_operations.ensures c.any_operations_have_names.ensures
    c.question_lists_tell_where_plans_fail.ensures c.goals_fail_where_nothing_comes_back.ensures.sought
    c.goals_fail_where_nothing_comes_back.ensures.held c.every_kind_is_listed.ensures.pair

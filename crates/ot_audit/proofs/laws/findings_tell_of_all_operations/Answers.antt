use Rattle.ot_audit.proofs.Telling.{target_told, same_told, differ_told}
use Rattle.ot_audit.proofs.laws.findings_tell_of_all_operations.Goals as goal

pub returns-clause-target : goal.returns-clause-target
returns-clause-target c =
    target_told c.names_stand_for_operations.ensures c.any_operations_have_names.ensures
    c.question_lists_tell_where_plans_fail.ensures c.goals_fail_where_it_is_sought.ensures.target_sought
    c.goals_fail_where_it_is_sought.ensures.target_fails

pub returns-clause-same : goal.returns-clause-same
returns-clause-same c =
    same_told c.names_stand_for_operations.ensures c.any_operations_have_names.ensures
    c.question_lists_tell_where_plans_fail.ensures c.goals_fail_where_it_is_sought.ensures.difference_held

pub returns-clause-differ : goal.returns-clause-differ
returns-clause-differ c =
    differ_told c.names_stand_for_operations.ensures c.any_operations_have_names.ensures
    c.question_lists_tell_where_plans_fail.ensures c.goals_fail_where_it_is_sought.ensures.difference_sought

use Rattle.ot_audit.proofs.Asked.{ask_form-guard_form, ask_goal-if_allowed}
use Rattle.ot_audit.proofs.Ends.{target_sought, target_fails}
use Rattle.ot_audit.proofs.Differences.{difference_sought, difference_fails, difference_held}
use Rattle.ot_audit.proofs.laws.goals_fail_where_it_is_sought.Goals as goal

pub returns-clause-target_sought : goal.returns-clause-target_sought
returns-clause-target_sought c = λ f k l target v a b why declared names.
    let questions = c.questions_mean_the_interpreter.ensures in
    target_sought questions.at_most questions.guard questions.allowed ask_form-guard_form ask_goal-if_allowed
    c.tests_decide_their_facts.ensures.allowed f k l v a b declared names target why

pub returns-clause-target_fails : goal.returns-clause-target_fails
returns-clause-target_fails c = λ f k l target v a b declared names.
    let questions = c.questions_mean_the_interpreter.ensures in
    target_fails questions.at_most questions.guard questions.allowed ask_form-guard_form ask_goal-if_allowed
    c.tests_decide_their_facts.ensures.allowed f k l v a b declared names target

pub returns-clause-difference_sought : goal.returns-clause-difference_sought
returns-clause-difference_sought c = λ f g k l v a b why declared names.
    let questions = c.questions_mean_the_interpreter.ensures in
    difference_sought questions.at_most questions.guard questions.allowed ask_form-guard_form ask_goal-if_allowed
    c.tests_decide_their_facts.ensures.allowed questions.result questions.one_form
    c.transform_keeps_all_but_the_position.ensures f g k l v a b declared names why

pub returns-clause-difference_fails : goal.returns-clause-difference_fails
returns-clause-difference_fails c = λ f g k l v a b declared names.
    let questions = c.questions_mean_the_interpreter.ensures in
    difference_fails questions.at_most questions.guard questions.allowed ask_form-guard_form ask_goal-if_allowed
    c.tests_decide_their_facts.ensures.allowed questions.result questions.one_form
    c.transform_keeps_all_but_the_position.ensures f g k l v a b declared names

pub returns-clause-difference_held : goal.returns-clause-difference_held
returns-clause-difference_held c = λ f g k l v a b declared names.
    let questions = c.questions_mean_the_interpreter.ensures in
    difference_held questions.at_most questions.guard questions.allowed ask_form-guard_form ask_goal-if_allowed
    c.tests_decide_their_facts.ensures.allowed questions.result questions.one_form
    c.transform_keeps_all_but_the_position.ensures f g k l v a b declared names

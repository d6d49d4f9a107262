use Rattle.ot_reverse.proofs.Ends.{reversal_sought, reversal_held}
use Rattle.ot_reverse.proofs.laws.goals_fail_where_nothing_comes_back.Goals as goal

pub returns-clause-sought : goal.returns-clause-sought
returns-clause-sought c = λ f e k l v d a b why names.
    let questions = c.questions_mean_the_interpreter.ensures in
    let tests = c.tests_decide_their_facts.ensures in
    reversal_sought questions.at_most questions.enabled questions.allowed tests.allowed tests.enabled questions.result
    questions.one_form c.transform_keeps_all_but_the_position.ensures f e k l v d a b names why

pub returns-clause-held : goal.returns-clause-held
returns-clause-held c = λ f e k l v d a b names.
    let questions = c.questions_mean_the_interpreter.ensures in
    let tests = c.tests_decide_their_facts.ensures in
    reversal_held questions.at_most questions.enabled questions.allowed tests.allowed tests.enabled questions.result
    questions.one_form c.transform_keeps_all_but_the_position.ensures f e k l v d a b names

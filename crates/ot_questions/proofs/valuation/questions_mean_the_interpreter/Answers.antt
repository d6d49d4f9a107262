use Rattle.ot_questions.proofs.QuestionValuations.{guard_ends, result_goes_on, transform_comes_to, enabled_ends}
use Rattle.ot_questions.proofs.QuestionValuations.{allowed_ends, one_form_found}
use Rattle.ot_questions.proofs.Values.{end-le}
use Rattle.ot_questions.proofs.valuation.questions_mean_the_interpreter.Goals as goal

pub returns-clause-at_most : goal.returns-clause-at_most
returns-clause-at_most c = λ v x y p q. end-le x y p q v

pub returns-clause-guard : goal.returns-clause-guard
returns-clause-guard c = guard_ends

pub returns-clause-result : goal.returns-clause-result
returns-clause-result c = result_goes_on

pub returns-clause-transform : goal.returns-clause-transform
returns-clause-transform c = transform_comes_to

pub returns-clause-enabled : goal.returns-clause-enabled
returns-clause-enabled c = enabled_ends

pub returns-clause-allowed : goal.returns-clause-allowed
returns-clause-allowed c = λ f v x y a b p. allowed_ends f v x y a b p (c.tests_decide_their_facts.ensures.allowed f)

pub returns-clause-one_form : goal.returns-clause-one_form
returns-clause-one_form c = one_form_found

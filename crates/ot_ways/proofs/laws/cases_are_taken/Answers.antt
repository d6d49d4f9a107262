use Rattle.ot_ways.proofs.FirstCases.{taken_is, is_taken, none_taken, all_false_untaken, undefined_all_false}
use Rattle.ot_ways.proofs.FirstCases.{all_false_undefined}
use Rattle.ot_ways.proofs.laws.cases_are_taken.Goals as goal

pub returns-clause-some : goal.returns-clause-some
returns-clause-some c = λ f a b t. (taken_is f a b t, is_taken f a b t)

pub returns-clause-none : goal.returns-clause-none
returns-clause-none c = λ f a b. (none_taken f a b, all_false_untaken f a b)

pub returns-clause-undefined : goal.returns-clause-undefined
returns-clause-undefined c = λ f a b. (undefined_all_false f a b, all_false_undefined f a b)

use Rattle.ot_questions.specs.Asked.{IsBelow}
use Rattle.ot_questions.proofs.Placed.{OpStands-sym_op}
use Rattle.ot_questions.proofs.PieceLaws.{kept_fine, kept_like, kept_comparison, kept_guard, kept_result, kept_enabled}
use Rattle.ot_questions.proofs.PieceLaws.{kept_allowed, kept_same_form}
use Rattle.ot_questions.proofs.asked.questions_keep_limits.Goals as goal

pub returns-clause-operations : goal.returns-clause-operations
returns-clause-operations c = λ count. OpStands-sym_op (IsBelow count)

pub returns-clause-guard : goal.returns-clause-guard
returns-clause-guard c = λ count m k l g a b p q names. kept_guard count names m k l g a b p q

pub returns-clause-result : goal.returns-clause-result
returns-clause-result c = λ count m n f a b go names. kept_result count names m n f a b go

pub returns-clause-enabled : goal.returns-clause-enabled
returns-clause-enabled c = λ count m a off p q names. kept_enabled count names m a off p q

pub returns-clause-allowed : goal.returns-clause-allowed
returns-clause-allowed c = λ count m n head a b p names. kept_allowed count names m n head a b p

pub returns-clause-one_form : goal.returns-clause-one_form
returns-clause-one_form c = λ count a b names. kept_same_form count names a b

pub returns-clause-comparison : goal.returns-clause-comparison
returns-clause-comparison c = λ count m sort a b p q names. kept_comparison count names m sort a b p q

pub returns-clause-fine : goal.returns-clause-fine
returns-clause-fine c = kept_fine

pub returns-clause-like : goal.returns-clause-like
returns-clause-like c = kept_like

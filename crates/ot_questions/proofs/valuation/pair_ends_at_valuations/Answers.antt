use Rattle.ot_questions.proofs.PairFailures.{fails_breaks}
use Rattle.ot_questions.proofs.PairValuations.{pair_holds_where, pair_fails, pair_ends, pair_read}
use Rattle.ot_questions.proofs.valuation.pair_ends_at_valuations.Goals as goal

pub returns-clause-holds : goal.returns-clause-holds
returns-clause-holds c = pair_holds_where

pub returns-clause-fails : goal.returns-clause-fails
returns-clause-fails c = λ f k l v d a b why h. pair_fails f k l v d a b h why

pub returns-clause-ends : goal.returns-clause-ends
returns-clause-ends c = λ f k l v d a b why h. pair_ends f k l v d a b h why

pub returns-clause-read : goal.returns-clause-read
returns-clause-read c = λ f k l v d a b left dead off h. pair_read f k l v d a b h left dead off

pub returns-clause-breaks : goal.returns-clause-breaks
returns-clause-breaks c = fails_breaks

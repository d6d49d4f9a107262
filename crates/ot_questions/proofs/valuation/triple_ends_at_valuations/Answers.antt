use Rattle.ot_questions.proofs.Triples.{triple_fails_breaks}
use Rattle.ot_questions.proofs.TripleValuations.{triple_holds_where, triple_fails_where}
use Rattle.ot_questions.proofs.valuation.triple_ends_at_valuations.Goals as goal

pub returns-clause-holds : goal.returns-clause-holds
returns-clause-holds c = λ f k l m v d a b c h. triple_holds_where f k l m v d a b c h

pub returns-clause-fails : goal.returns-clause-fails
returns-clause-fails c = λ f k l m v d a b c why h. triple_fails_where f k l m v d a b c h why

pub returns-clause-breaks : goal.returns-clause-breaks
returns-clause-breaks c = triple_fails_breaks

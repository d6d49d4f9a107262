use Rattle.ot_questions.proofs.Nears.{IsResultOf-value}
use Rattle.ot_questions.proofs.place.SymOp.result.Goals as goal

pub returns-clause-near : goal.returns-clause-near
returns-clause-near c =
    IsResultOf-value c.args.res c.args.self c.args.other c.made_by.result c.made_by.ensures c.requires.near

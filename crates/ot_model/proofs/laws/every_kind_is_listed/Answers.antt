use Rattle.ot_model.proofs.KindRows.{Contains-kind, Contains-pair}
use Rattle.ot_model.proofs.laws.every_kind_is_listed.Goals as goal

pub returns-clause-kind : goal.returns-clause-kind
returns-clause-kind c = Contains-kind

pub returns-clause-pair : goal.returns-clause-pair
returns-clause-pair c = Contains-pair

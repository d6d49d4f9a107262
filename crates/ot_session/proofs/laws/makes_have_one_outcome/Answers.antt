use Rattle.ot_session.proofs.OneView.{HasMade-one}
use Rattle.ot_session.proofs.laws.makes_have_one_outcome.Goals as goal

pub returns : goal.returns
returns c = HasMade-one

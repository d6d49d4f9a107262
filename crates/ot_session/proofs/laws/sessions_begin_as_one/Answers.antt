use Rattle.ot_session.proofs.OneView.{IsBegun-one}
use Rattle.ot_session.proofs.laws.sessions_begin_as_one.Goals as goal

pub returns : goal.returns
returns c = IsBegun-one

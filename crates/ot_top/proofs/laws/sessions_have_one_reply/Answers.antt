use Rattle.ot_top.proofs.OneReply.{session_replied_once}
use Rattle.ot_top.proofs.laws.sessions_have_one_reply.Goals as goal

pub returns : goal.returns
returns c =
    session_replied_once c.sessions_begin_as_one.ensures c.makes_have_one_outcome.ensures
    c.takes_have_one_answer.ensures.answer c.takes_have_one_answer.ensures.session

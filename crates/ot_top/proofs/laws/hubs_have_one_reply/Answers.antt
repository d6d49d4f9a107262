use Rattle.ot_top.proofs.OneHub.{hub_replied_once}
use Rattle.ot_top.proofs.laws.hubs_have_one_reply.Goals as goal

pub returns : goal.returns
returns c = hub_replied_once

use Rattle.ot_hub.specs.Views.{hub_view_of}
use Rattle.ot_hub.proofs.Follows.{FollowsLog-in_step}
use Rattle.ot_hub.proofs.hub.Hub.clients_follow_the_log.Goals as goal

pub returns : goal.returns
returns c tp1 chars = FollowsLog-in_step (hub_view_of c.args.self.now) (c.args.self.now.in_step tp1 chars)

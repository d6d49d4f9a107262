use Rattle.std.proofs.Common.{sym}
use Rattle.ot_hub.proofs.Acting.{client_read}
use Rattle.ot_hub.proofs.hub.Hub.at.Goals as goal

pub returns : goal.returns
returns c = sym (client_read c.args.self.now.clients.items c.args.client c.index.result.now c.requires c.index.ensures)

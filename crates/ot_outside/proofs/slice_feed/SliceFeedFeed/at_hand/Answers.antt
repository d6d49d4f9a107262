use Rattle.std.proofs.Common.{[], Some, sym, ap}
use Rattle.std.proofs.lemmas.List.{append-nil}
use Rattle.ot_outside.proofs.slice_feed.SliceFeedFeed.at_hand.Goals as goal

pub returns-clause-front : goal.returns-clause-front
returns-clause-front c = (Some [], sym (ap Some (append-nil c.args.self.now.bytes.now)))

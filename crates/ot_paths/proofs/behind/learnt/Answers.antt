use Rattle.std.proofs.lemmas.List.Elements.{All-push, All-same}
use Rattle.ot_paths.specs.Sharing.{IsKeptGoal}
use Rattle.ot_paths.proofs.behind.learnt.Goals as goal

pub returns-clause-known : goal.returns-clause-known
returns-clause-known c f kept same =
    All-same (IsKeptGoal f) c.push.new.self.items _ c.in_ok-push.ensures.items
    (All-push (IsKeptGoal f) c.args.known.now.items _ kept same)

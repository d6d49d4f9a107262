use Rattle.std.proofs.lemmas.List.Elements.{All-push, All-same}
use Rattle.ot_paths.specs.Sharing.{IsKeptRead}
use Rattle.ot_paths.proofs.behind.learnt_read.Goals as goal

pub returns-clause-known : goal.returns-clause-known
returns-clause-known c f right kept same =
    All-same (IsKeptRead f right) c.push.new.self.items _ c.in_ok-push.ensures.items
    (All-push (IsKeptRead f right) c.args.known.now.items _ kept same)

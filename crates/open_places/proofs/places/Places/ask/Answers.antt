use Rattle.std.proofs.Common.{◌≡◌, length, ◌∙◌}
use Rattle.open_places.proofs.PlaceLemmas.{asked_places}
use Rattle.open_places.proofs.places.Places.ask.Goals as goal

pub returns-clause-ok : goal.returns-clause-ok
returns-clause-ok g c =
    let long : c.len-depth.result ≡ length c.self.inside.list.items = c.len-depth.ensures ∙ c.self.inside.list.ok.0 in
    asked_places c.self.inside.known.items c.self.inside.current c.self.inside.base c.self.inside.list.items
    c.push.new.self.items c.self.inside.waiting.items c.push_reserved.new.self.items c.args.lit c.args.yes c.args.no
    c.args.self.now c.self.view_is c.requires c.self.invariant
    (rw (← c.answered.ensures) c.in_ok-push.ensures.items)
    (rw (c.answered-2.ensures, long, c.reserve.ensures.items) at c.push_reserved.ensures.items)

use Rattle.open_places.proofs.PlaceLemmas.{denied_places, longer_path}
use Rattle.open_places.proofs.places.Places.ask_no.Goals as goal

pub invariant_of-self-2 : goal.invariant_of-self-2
invariant_of-self-2 g c =
    longer_path c.self.inside.base c.self.inside.list.items c.push_reserved.new.self.items c.answered.result
    c.self.inside.waiting.items c.self.invariant (rw (c.reserve.ensures.items) at c.push_reserved.ensures.items)

pub returns-clause-ok : goal.returns-clause-ok
returns-clause-ok g c on_yes =
    denied_places c.self.inside.known.items c.self.inside.current c.self.inside.base c.self.inside.list.items
    c.push_reserved.new.self.items c.self.inside.waiting.items c.args.lit on_yes c.args.no c.args.self.now
    c.self.view_is c.requires c.self.invariant
    (rw (c.answered.ensures, c.reserve.ensures.items) at c.push_reserved.ensures.items)

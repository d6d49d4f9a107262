use Rattle.std.proofs.Common.{◌≡◌, length, ◌∙◌}
use Rattle.open_places.proofs.PlaceLemmas.{begun_places}
use Rattle.open_places.proofs.places.Places.begin.Goals as goal

pub returns-clause-ok : goal.returns-clause-ok
returns-clause-ok g c =
    let long : c.len-depth.result ≡ length c.self.inside.list.items = c.len-depth.ensures ∙ c.self.inside.list.ok.0 in
    rw long
    (begun_places c.self.inside.known.items c.self.inside.current c.self.inside.base c.self.inside.list.items
    c.append.new.list.items c.args.literals.now c.self.inside.waiting.items c.push_reserved.new.self.items c.args.node
    c.args.self.now c.self.view_is c.requires c.self.invariant
    (rw c.as_slice-shown.ensures.value at c.in_ok-append.ensures.ok)
    (rw (c.as_slice-shown.ensures.value, c.reserve.ensures.items) at c.push_reserved.ensures.items))

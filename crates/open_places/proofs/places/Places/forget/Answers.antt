use Rattle.std.proofs.Common.{◌≡◌, ◌-◌, List, length, take, ap, ◌∙◌, arith}
use Rattle.open_places.specs.Places.{open_proof}
use Rattle.open_places.proofs.PlaceLemmas.{forgotten_places}
use Rattle.open_places.proofs.places.Places.forget.Goals as goal

pub overflow_sub-len : goal.overflow_sub-len
overflow_sub-len g c =
    let long : c.len.result ≡ length c.self.inside.waiting.items = c.len.ensures ∙ c.self.inside.waiting.ok.0 in
    let cut =
    forgotten_places c.self.inside.known.items c.self.inside.current c.self.inside.base c.self.inside.list.items
    c.self.inside.waiting.items c.args.cycles c.args.self.now c.self.view_is c.requires c.self.invariant in
    omega (arith, long, cut.0)

pub invariant_of-self : goal.invariant_of-self
invariant_of-self g c =
    let long : c.len.result ≡ length c.self.inside.waiting.items = c.len.ensures ∙ c.self.inside.waiting.ok.0 in
    let cut =
    forgotten_places c.self.inside.known.items c.self.inside.current c.self.inside.base c.self.inside.list.items
    c.self.inside.waiting.items c.args.cycles c.args.self.now c.self.view_is c.requires c.self.invariant in
    rw (c.truncate.ensures.items, long) cut.2

pub returns : goal.returns
returns g c =
    let long : c.len.result ≡ length c.self.inside.waiting.items = c.len.ensures ∙ c.self.inside.waiting.ok.0 in
    let cut =
    forgotten_places c.self.inside.known.items c.self.inside.current c.self.inside.base c.self.inside.list.items
    c.self.inside.waiting.items c.args.cycles c.args.self.now c.self.view_is c.requires c.self.invariant in
    let left : c.truncate.new.self.items
    ≡ take (length c.self.inside.waiting.items - c.args.cycles) c.self.inside.waiting.items =
    rw long at c.truncate.ensures.items in
    ap (λ (x : List _). open_proof c.self.inside.known.items c.self.inside.current c.self.inside.base
    c.self.inside.list.items x) left
    ∙ cut.1

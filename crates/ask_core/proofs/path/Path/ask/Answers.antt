use Rattle.std.proofs.Common.{◌≡◌, length, ◌∙◌}
use Rattle.ask_core.proofs.PathLemmas.{asked_places}
use Rattle.ask_core.proofs.path.Path.ask.Goals as goal

pub returns-clause-ok : goal.returns-clause-ok
returns-clause-ok g c =
    let long : c.len-depth.result ≡ length c.self.inside.answers.items =
    c.len-depth.ensures ∙ c.reserve.ensures.len ∙ c.self.inside.answers.ok.0 in
    let first = rw c.reserve.ensures.items at c.push_reserved.ensures.items in
    let second = rw c.reserve-2.ensures.items at c.push_reserved-2.ensures.items in
    asked_places c.self.inside.current c.args.yes c.args.no c.args.lit c.self.inside.answers.items
    c.push_reserved.new.self.items c.self.inside.waiting.items c.push_reserved-2.new.self.items
    c.args.self.now c.self.view_is
    c.requires c.self.invariant (rw (← c.answered.ensures) first) (rw (← c.answered-2.ensures, ← long) second)

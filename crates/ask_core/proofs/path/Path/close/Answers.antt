use Rattle.std.proofs.Common.{arith, sym, ◌∙◌}
use Rattle.ask_core.proofs.PathLemmas.{closed_depth, closed_last, closed_places, closed_nested}
use Rattle.ask_core.proofs.path.Path.close.Goals as goal

pub index_mut-requires : goal.index_mut-requires
index_mut-requires g c =
    closed_depth c.self.inside.answers.items c.self.inside.waiting.items c.pop.new.self.items c.in-Some.next
    c.self.inside.answers.len c.self.inside.answers.ok.0 c.in-Some.ensures.items c.self.invariant

pub returns-in-None : goal.returns-in-None
returns-in-None g c =
    closed_last c.self.inside.current c.self.inside.answers.items c.self.inside.waiting.items c.args.self.now
    c.self.view_is c.requires (sym c.self.inside.waiting.ok.0 ∙ c.in-None.ensures.cases.0)

pub overflow_add-next : goal.overflow_add-next
overflow_add-next g c =
    let below =
    closed_depth c.self.inside.answers.items c.self.inside.waiting.items c.pop.new.self.items c.in-Some.next
    c.self.inside.answers.len c.self.inside.answers.ok.0 c.in-Some.ensures.items c.self.invariant in
    omega (arith, below)

pub invariant_of-self-in-Some : goal.invariant_of-self-in-Some
invariant_of-self-in-Some g c =
    closed_nested c.self.inside.answers.items c.truncate.new.self.items c.self.inside.waiting.items c.pop.new.self.items
    c.in-Some.next c.in-Some.ensures.items c.self.invariant c.truncate.ensures.items

pub returns-in-Some : goal.returns-in-Some
returns-in-Some g c =
    closed_places c.self.inside.current c.self.inside.answers.items c.truncate.new.self.items
    c.self.inside.waiting.items c.pop.new.self.items c.in-Some.next c.args.self.now c.self.view_is c.requires
    c.in-Some.ensures.items c.self.invariant c.truncate.ensures.items

use Rattle.std.proofs.Common.{◌≡◌, ◌++◌, ◌∷◌, [], false, reverse}
use Rattle.diff_graph.specs.Literals.{answered_of}
use Rattle.ask_core.proofs.PathLemmas.{answered_no, IsNested-longer}
use Rattle.ask_core.proofs.path.Path.ask_no.Goals as goal

pub invariant_of-self-2 : goal.invariant_of-self-2
invariant_of-self-2 g c =
    IsNested-longer c.self.inside.answers.items c.push_reserved.new.self.items c.answered.result
    (reverse c.self.inside.waiting.items) c.self.invariant (rw c.reserve.ensures.items at c.push_reserved.ensures.items)

pub returns-clause-ok : goal.returns-clause-ok
returns-clause-ok g c on_yes =
    let longer : c.push_reserved.new.self.items ≡ c.self.inside.answers.items ++ answered_of c.args.lit false ∷ [] =
    rw (c.answered.ensures, c.reserve.ensures.items) at c.push_reserved.ensures.items in
    answered_no c.self.inside.current on_yes c.args.no c.args.lit c.self.inside.answers.items
    c.push_reserved.new.self.items
    c.self.inside.waiting.items c.args.self.now c.self.view_is c.requires c.self.invariant longer

use Rattle.diff_graph.specs.Literals.{answered_of}
use Rattle.search_places.proofs.Possible.{IsTableOf-answered}
use Rattle.search_places.proofs.split.answer.Goals as goal

pub returns : goal.returns
returns c w long stands =
    IsTableOf-answered w (answered_of c.args.lit c.args.said) c.answered.result c.args.number c.args.table.now
    c.add.new.self c.answered.ensures long c.add.ensures.stands stands

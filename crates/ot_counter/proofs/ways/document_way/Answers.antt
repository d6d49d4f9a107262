use Rattle.std.proofs.Common.{arith}
use Rattle.ot_values.specs.Values.{farthest}
use Rattle.ot_counter.proofs.Near.{IsWithin-more}
use Rattle.ot_counter.proofs.ways.document_way.Goals as goal

pub transform-requires-clause-a_in_range : goal.transform-requires-clause-a_in_range
transform-requires-clause-a_in_range c =
    IsWithin-more farthest 1099511627776 c.args.other.now (omega arith) c.requires.other_near

pub transform-requires-clause-b_in_range : goal.transform-requires-clause-b_in_range
transform-requires-clause-b_in_range c =
    IsWithin-more farthest 1099511627776 c.args.first.now (omega arith) c.requires.first_near

use Rattle.ot_audit.proofs.Near.{in_range}
use Rattle.ot_reverse.proofs.reversing.broken_at.Goals as goal

pub transform-there-requires-clause-a_in_range : goal.transform-there-requires-clause-a_in_range
transform-there-requires-clause-a_in_range c = in_range c.args.a c.requires.near.0

pub transform-there-requires-clause-b_in_range : goal.transform-there-requires-clause-b_in_range
transform-there-requires-clause-b_in_range c = in_range c.args.b c.requires.near.1

use Rattle.std.proofs.Common.{[]}
use Rattle.ot_trace.proofs.TraceEnds.{traces_end}
use Rattle.ot_trace.proofs.laws.traces_end_as_integrated.Goals as goal

pub returns : goal.returns
returns c = λ f d ops order. traces_end f d ops [] 0 order

use Rattle.diff_tables.proofs.AddingSteps.{unsatisfiable_iff_cycle}
use Rattle.diff_tables.proofs.laws.unsatisfiable_exactly_at_negative_cycles.Goals as goal

pub returns : goal.returns
returns c = unsatisfiable_iff_cycle

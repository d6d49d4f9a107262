use Rattle.diff_graph.proofs.Walks.{no_values_on_picks}
use Rattle.diff_graph.proofs.laws.negative_cycles_are_never_met.Goals as goal

pub returns : goal.returns
returns c v ls picks named met = no_values_on_picks v ls picks named met

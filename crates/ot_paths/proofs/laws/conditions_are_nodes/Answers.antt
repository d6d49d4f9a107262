use Rattle.ot_paths.proofs.Conditions.{condition_node, condition_paths, end_nodes}
use Rattle.ot_paths.proofs.laws.conditions_are_nodes.Goals as goal

pub returns-clause-ends : goal.returns-clause-ends
returns-clause-ends c = end_nodes

pub returns-clause-paths : goal.returns-clause-paths
returns-clause-paths c = condition_paths

pub returns-clause-conditions : goal.returns-clause-conditions
returns-clause-conditions c = condition_node

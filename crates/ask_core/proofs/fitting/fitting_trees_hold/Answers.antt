use Rattle.std.proofs.Common.{[]}
use Rattle.ask_core.proofs.FittingTrees.{fitting_tree_holds, completed_branch_holds}
use Rattle.ask_core.proofs.fitting.fitting_trees_hold.Goals as goal

pub returns-clause-whole : goal.returns-clause-whole
returns-clause-whole g c t p v fits zero_is_0 =
    fitting_tree_holds c.negative_cycles_are_never_met.ensures t p [] v tt fits

pub returns-clause-from_a_place : goal.returns-clause-from_a_place
returns-clause-from_a_place g c = fitting_tree_holds c.negative_cycles_are_never_met.ensures

pub returns-clause-completed : goal.returns-clause-completed
returns-clause-completed g c = completed_branch_holds c.negative_cycles_are_never_met.ensures

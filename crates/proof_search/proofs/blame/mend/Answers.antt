use Rattle.proof_search.proofs.Owning.{nodes_kept_twice, nodes_same}
use Rattle.proof_search.proofs.blame.mend.Goals as goal

pub loop-number-init : goal.loop-number-init
loop-number-init g c = nodes_same c.args.levels.now

pub returns-then-not-is_still_reached-clause-nodes : goal.returns-then-not-is_still_reached-clause-nodes
returns-then-not-is_still_reached-clause-nodes g c = nodes_kept_twice c.loop-number.invariant c.is_still_reached.ensures

pub returns-in_default-clause-nodes : goal.returns-in_default-clause-nodes
returns-in_default-clause-nodes g c = nodes_kept_twice c.loop-number.invariant c.is_still_reached.ensures

pub returns-in_err-shut_out-clause-nodes : goal.returns-in_err-shut_out-clause-nodes
returns-in_err-shut_out-clause-nodes g c =
    nodes_kept_twice (nodes_kept_twice c.loop-number.invariant c.is_still_reached.ensures) c.shut_out.ensures

pub returns-then-not-branch-clause-nodes : goal.returns-then-not-branch-clause-nodes
returns-then-not-branch-clause-nodes g c =
    nodes_kept_twice (nodes_kept_twice c.loop-number.invariant c.is_still_reached.ensures) c.shut_out.ensures

pub loop-number-preserved : goal.loop-number-preserved
loop-number-preserved g c =
    nodes_kept_twice (nodes_kept_twice c.loop-number.invariant c.is_still_reached.ensures) c.shut_out.ensures

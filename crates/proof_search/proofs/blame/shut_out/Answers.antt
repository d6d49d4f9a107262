use Rattle.proof_search.proofs.Owning.{nodes_kept_twice, nodes_same}
use Rattle.proof_search.proofs.blame.shut_out.Goals as goal

pub loop-turn-init : goal.loop-turn-init
loop-turn-init g c = nodes_same c.args.levels.now

pub returns-in_err-assume_at : goal.returns-in_err-assume_at
returns-in_err-assume_at g c = nodes_kept_twice c.loop-turn.invariant c.assume_at.ensures

pub returns-in-Some : goal.returns-in-Some
returns-in-Some g c = nodes_kept_twice c.loop-turn.invariant c.assume_at.ensures

pub returns-in_err-assume_at-2 : goal.returns-in_err-assume_at-2
returns-in_err-assume_at-2 g c = nodes_kept_twice c.loop-turn.invariant c.assume_at-in-loop-turn.ensures

pub loop-turn-preserved : goal.loop-turn-preserved
loop-turn-preserved g c = nodes_kept_twice c.loop-turn.invariant c.assume_at-in-loop-turn.ensures

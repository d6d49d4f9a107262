use Rattle.proof_search.specs.Owning.{KeepsNodes}
use Rattle.proof_search.proofs.blame.shut_out.Given as goal

abbrev pub invariant-loop-turn : goal.invariant-loop-turn
invariant-loop-turn g l = KeepsNodes (λ level. level.node) l.fn.levels l.levels

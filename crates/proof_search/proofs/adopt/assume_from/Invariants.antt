use Rattle.proof_search.specs.Owning.{KeepsNodes}
use Rattle.proof_search.proofs.adopt.assume_from.Given as goal

abbrev pub invariant-loop-number : goal.invariant-loop-number
invariant-loop-number g l = KeepsNodes (λ level. level.node) l.fn.levels l.levels

use Rattle.proof_search.specs.Owning.{KeepsPlaces}
use Rattle.proof_search.proofs.adopt.take_all.Given as goal

abbrev pub invariant-loop-lit : goal.invariant-loop-lit
invariant-loop-lit g l = KeepsPlaces l.fn.search l.search

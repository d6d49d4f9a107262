use Rattle.std.proofs.Common.{◌+◌, ◌-◌, vec_len}
use Rattle.proof_search.proofs.lemmas.add_place.Given as goal

abbrev pub decreases-numbers : goal.decreases-numbers
decreases-numbers l = l.number + 1 - vec_len l.of_starts

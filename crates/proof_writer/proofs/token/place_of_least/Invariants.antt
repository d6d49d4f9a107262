use Rattle.std.proofs.Common.{◌≤◌, length}
use Rattle.proof_writer.proofs.token.place_of_least.Given as goal

abbrev pub invariant-places : goal.invariant-places
invariant-places l = l.found ≤ length l.numbers

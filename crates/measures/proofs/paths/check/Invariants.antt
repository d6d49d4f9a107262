use Rattle.std.proofs.Common.{◌<◌, length}
use Rattle.measures.proofs.paths.check.Given as goal

abbrev pub invariant-loop-byte : goal.invariant-loop-byte
invariant-loop-byte l = 0 < length l.checker.places

use Rattle.std.proofs.Common.{◌<◌, ℕ}
use Rattle.ot_bound.specs.Headers.{BeginsOtherwise}
use Rattle.ot_bound.proofs.header.level_fit.Given as goal

-- no line with a smaller bound begins with the bytes
abbrev pub invariant-loop-bound : goal.invariant-loop-bound
invariant-loop-bound l = (b : ℕ) → b < l.bound → BeginsOtherwise l.front l.level b

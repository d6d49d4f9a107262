use Rattle.std.proofs.Common.{◌≡◌, ◌++◌, map, take}
use Rattle.fn_rules.specs.declared.function.ObName.TheVariants.{Pair}
use Rattle.fn_rules.proofs.obligation.push_pairs.Given as goal

abbrev pub invariant-loop-second : goal.invariant-loop-second
invariant-loop-second l = l.names.items ≡ l.initial.names.items ++ map (Pair l.first) (take l.second-index l.kinds)

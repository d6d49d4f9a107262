use Rattle.std.proofs.Common.{◌≡◌, ◌++◌, map, take}
use Rattle.std.specs.Prelude.{filter}
use Rattle.fn_rules.specs.Functions.{is_declared_of}
use Rattle.fn_rules.proofs.obligation.push_blocks_of.Given as goal

abbrev pub invariant-loop-second : goal.invariant-loop-second
invariant-loop-second l =
    l.blocks.items ≡ l.initial.blocks.items
    ++ filter (is_declared_of l.head) (map (λ k. (l.first, k)) (take l.second-index l.kinds))

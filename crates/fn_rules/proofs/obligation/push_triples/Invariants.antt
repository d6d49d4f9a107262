use Rattle.std.proofs.Common.{◌≡◌, ◌++◌, map, take}
use Rattle.fn_rules.specs.Obligations.{with_third}
use Rattle.fn_rules.proofs.obligation.push_triples.Given as goal

abbrev pub invariant-loop-pair : goal.invariant-loop-pair
invariant-loop-pair l = l.names.items ≡ l.initial.names.items ++ map (with_third l.third) (take l.pair-index l.pairs)
